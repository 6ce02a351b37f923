-- The text of a set, network by network and range by range.
use Rattle.std.proofs.Common.{ℕ, ◌↔◌, List}
use Rattle.ipnet_base.specs.Address.{Address}
use Rattle.ipnet_base.proofs.UniqueLaws.{AreMaximalBlocks-same_set}
use Rattle.netset_lib.specs.declared.answer.Form.{Form}
use Rattle.netset_lib.specs.declared.answer.Form.TheVariants.{Networks, Ranges}
use Rattle.netset_lib.specs.Answers.{IsSetText}

-- sets with the same addresses have the same texts
pub text_of_same : (form : Form) (A B : Address → Type 0) (text : List ℕ) → ((x : Address) → A x ↔ B x)
    → IsSetText form A text → IsSetText form B text
text_of_same Networks A B text same h = record {
  blocks = h.blocks;
  maximal = AreMaximalBlocks-same_set A B 0 h.blocks same h.maximal;
  spelled = h.spelled;
}
text_of_same Ranges A B text same h = record {
  ranges = h.ranges;
  fewest = record {
    some = h.fewest.some;
    apart = h.fewest.apart;
    members = λ x. (λ b. (h.fewest.members x).0 ((same x).1 b), λ k. (same x).0 ((h.fewest.members x).1 k));
  };
  spelled = h.spelled;
}
