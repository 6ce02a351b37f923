use Rattle.std.proofs.Common.{inl, inr}
use Rattle.netset_lib.specs.Scripts.{Union, Difference}
use Rattle.example_calls.proofs.scripts.difference_in_two_steps.Goals as goal

pub returns : goal.returns
returns c = λ a b d h k.
    (c.scripts_of_one_set_print_one_text.ensures (Difference (Difference a b) d) (Difference a (Union b d)) tt tt h
    k).1 (λ x. (
      λ m. (m.0.0, λ y. elim y [ inl one ↦ m.0.1 one | inr other ↦ m.1 other ]),
      λ m. ((m.0, λ y. m.1 (inl y)), λ y. m.1 (inr y)),
    ))
