-- Replies to two lists of networks made one.
use Rattle.std.proofs.Common.{◌≡◌, ◌≢◌, ℕ, ◌⊎◌, ◌↔◌, List, [], inl, inr, refl, sym, ◌∙◌, IsUtf8}
use Rattle.ipnet.specs.Address.{Address}
use Rattle.ipnet.specs.Network.{Network}
use Rattle.ipnet.specs.Blocks.{IsCoveredBy, AreMaximalBlocks}
use Rattle.ipnet.specs.declared.parser.Grammar.TheVariants.{Strict}
use Rattle.ipnet_base.proofs.UniqueLaws.{AreMaximalBlocks-same_set, AreMaximalBlocks-nil}
use Rattle.ipnet_sets.specs.declared.set.IpSet.{IpSet}
use Rattle.ipnet_sets.specs.Members.{IsMember, HasNoAddress, IsResultOf}
use Rattle.ipnet_lists.specs.SetLines.{AreNetworkLines}
use Rattle.ipnet_c.specs.Buffers.{IsWritten, IsTooLong}
use Rattle.ipnet_c.specs.Replies.{AreBlocksOfBoth, IsSetText, IsSetReply}
use Rattle.ipnet_c.specs.SetReplies.{HasAddressesOfText}
use Rattle.ipnet_sets.specs.Members.{IsCombined}
use Rattle.ipnet_sets.specs.declared.operation.Operation.{Operation}
use Rattle.ipnet_sets.specs.declared.operation.Operation.TheVariants.{Union, Intersection, Difference}
use Rattle.ipnet_sets.specs.declared.operation.Operation.TheVariants.{SymmetricDifference}
use Rattle.ipnet_c.specs.BadTexts.{AreBadTexts}
use Rattle.ipnet_c.proofs.StatusLaws.{differ, neither, not_other, no_answer}
use Rattle.ipnet_c.proofs.ListReplies.{good_at_once}

-- the same is made of two sets with the same addresses
IsCombined-same : (operation : Operation) (A B C D : Type 0) → A ↔ C → B ↔ D
    → IsCombined operation A B → IsCombined operation C D
IsCombined-same Union A B C D first second (inl a) = inl (first.0 a)
IsCombined-same Union A B C D first second (inr b) = inr (second.0 b)
IsCombined-same Intersection A B C D first second (a, b) = (first.0 a, second.0 b)
IsCombined-same Difference A B C D first second (a, none) = (first.0 a, λ d. none (second.1 d))
IsCombined-same SymmetricDifference A B C D first second (inl a) = inl (first.0 a.0, λ d. a.1 (second.1 d))
IsCombined-same SymmetricDifference A B C D first second (inr b) = inr (second.0 b.0, λ c. b.1 (first.1 c))

-- the maximal blocks of the set that the operation makes of the sets of two lists
blocks_of_both : (operation : Operation) (networks others blocks : List Network) (set first second : IpSet)
    → ((x : Address) → IsMember first x ↔ IsCoveredBy networks x)
    → ((x : Address) → IsMember second x ↔ IsCoveredBy others x)
    → ((x : Address) → IsMember set x ↔ IsCombined operation (IsMember first x) (IsMember second x))
    → AreMaximalBlocks (IsMember set) 0 blocks → AreBlocksOfBoth operation networks others blocks
blocks_of_both operation networks others blocks set first second of_networks of_others made =
    AreMaximalBlocks-same_set (IsMember set)
    (λ x. IsCombined operation (IsCoveredBy networks x) (IsCoveredBy others x)) 0 blocks
    (λ x. (
      λ m. IsCombined-same operation (IsMember first x) (IsMember second x) (IsCoveredBy networks x)
          (IsCoveredBy others x) (of_networks x) (of_others x) ((made x).0 m),
      λ m. (made x).1 (IsCombined-same operation (IsCoveredBy networks x) (IsCoveredBy others x) (IsMember first x)
          (IsMember second x) ((of_networks x).1, (of_networks x).0) ((of_others x).1, (of_others x).0) m),
    ))

-- every operation on two empty sets has an empty result
nothing_of_nothing : (operation : Operation) (A B : Type 0) → ¬ A → ¬ B → ¬ (IsCombined operation A B)
nothing_of_nothing Union A B none none_other (inl a) = none a
nothing_of_nothing Union A B none none_other (inr b) = none_other b
nothing_of_nothing Intersection A B none none_other (a, b) = none a
nothing_of_nothing Difference A B none none_other (a, b) = none a
nothing_of_nothing SymmetricDifference A B none none_other (inl a) = none a.0
nothing_of_nothing SymmetricDifference A B none none_other (inr b) = none_other b.0

-- so of two texts without an address the answer is empty
pub empty_of_empty : (operation : Operation) (text other : List ℕ) (first second : IpSet)
    → HasAddressesOfText Strict text first → HasAddressesOfText Strict other second → HasNoAddress first
    → HasNoAddress second
    → IsSetText operation text other []
empty_of_empty operation text other first second h k none none_other = record {
  networks = h.networks;
  others = k.networks;
  written = h.written;
  written_other = k.written;
  blocks = [];
  combined =
      AreMaximalBlocks-nil (λ x. IsCombined operation (IsCoveredBy h.networks x) (IsCoveredBy k.networks x)) 0
      (λ x. nothing_of_nothing operation (IsCoveredBy h.networks x) (IsCoveredBy k.networks x)
      (λ c. none x ((h.addresses x).1 c)) (λ c. none_other x ((k.addresses x).1 c)));
  spelled = refl;
}

-- and of other texts it is that of the set that the operation makes
pub text_of_both : (operation : Operation) (text other answer : List ℕ) (first second set : IpSet)
    → HasAddressesOfText Strict text first → HasAddressesOfText Strict other second
    → IsResultOf operation set first second
    → AreNetworkLines (IsMember set) answer → IsSetText operation text other answer
text_of_both operation text other answer first second set h k made t = record {
  networks = h.networks;
  others = k.networks;
  written = h.written;
  written_other = k.written;
  blocks = t.blocks;
  combined = blocks_of_both operation h.networks k.networks t.blocks set first second h.addresses k.addresses made
      t.maximal;
  spelled = t.spelled;
}

-- ---- the replies of a call

-- the result is written if the buffer is long enough
pub combined : (operation : Operation) (text other answer old new : List ℕ) (count_old count status : ℕ) → IsUtf8 text
    → IsUtf8 other → IsSetText operation text other answer → (status ≡ 0) ⊎ (status ≡ 4)
    → (status ≡ 0 → IsWritten answer old new count) → (status ≡ 4 → IsTooLong answer old new count)
    → IsSetReply operation text other old new count_old count status
combined operation text other answer old new count_old count status utf8 utf8_other is known ok short = record {
  known = elim known [ inl e ↦ inl e | inr e ↦ inr (inl e) ];
  ok = λ e. (answer, is, ok e);
  too_short = λ e. (answer, is, short e);
  bad_line = λ e. absurd (not_other status 1 known refl refl e);
  bad_line_in_other = λ e. absurd (not_other status 9 known refl refl e);
  not_utf8 = (λ e. absurd (not_other status 2 known refl refl e), λ invalid. absurd (invalid utf8));
  other_not_utf8 = (λ e. absurd (not_other status 10 known refl refl e), λ invalid. absurd (invalid.1 utf8_other));
  buffer_kept = λ not_ok. elim known [ inl e ↦ absurd (not_ok e) | inr e ↦ (short e).kept ];
  count_kept = λ e. elim e [
    | inl e ↦ absurd (not_other status 2 known refl refl e)
    | inr e ↦ elim e [
      | inl e ↦ absurd (not_other status 10 known refl refl e)
      | inr e ↦ absurd (not_other status 3 known refl refl e)
    ]
  ];
  empty = λ none none_other e. not_other status 3 known refl refl e;
  bad_at_once = λ number a b h. absurd (good_at_once Strict text is.networks is.written number h);
  bad_at_once_in_other = λ number none b h. absurd (good_at_once Strict other is.others is.written_other number h);
}

-- a status that leaves the number as it is
not_bad_line : (status : ℕ) → (status ≡ 2) ⊎ ((status ≡ 10) ⊎ (status ≡ 3)) → (status ≢ 1) × (status ≢ 9)
not_bad_line status (inl e) = (λ z. differ 2 1 refl (sym e ∙ z), λ z. differ 2 9 refl (sym e ∙ z))
not_bad_line status (inr e) = (neither 10 3 status 1 e refl refl, neither 10 3 status 9 e refl refl)

-- the texts are not read, or memory ran out for the result
pub not_read : (operation : Operation) (text other buffer : List ℕ) (count_old count status : ℕ)
    → AreBadTexts text other count_old count status
    → IsSetReply operation text other buffer buffer count_old count status
not_read operation text other buffer count_old count status h = record {
  known = inr (inr h.known);
  ok = λ e. absurd ((no_answer status h.known).0 e);
  too_short = λ e. absurd ((no_answer status h.known).1 e);
  bad_line = h.bad_line;
  bad_line_in_other = h.bad_line_in_other;
  not_utf8 = h.not_utf8;
  other_not_utf8 = h.other_not_utf8;
  buffer_kept = λ e. refl;
  count_kept = λ e. h.line_kept (not_bad_line status e).0 (not_bad_line status e).1;
  empty = λ none none_other. absurd (h.some none none_other);
  bad_at_once = h.bad_at_once;
  bad_at_once_in_other = h.bad_at_once_in_other;
}
