use Rattle.std.proofs.Common.{inl, inr}
use Rattle.netset_lib.specs.Scripts.{Union, Intersection, Complement}
use Rattle.netset_lib.specs.declared.operation.Families.TheVariants.{Both}
use Rattle.example_calls.proofs.scripts.complement_of_a_union.Goals as goal

pub returns : goal.returns
returns c = λ a b h k.
    (c.scripts_of_one_set_print_one_text.ensures (Complement Both (Union a b))
    (Intersection (Complement Both a) (Complement Both b)) tt tt h k).1 (λ x. (
      λ m. ((m.0, tt, λ y. m.2 (inl y)), (m.0, tt, λ y. m.2 (inr y))),
      λ m. (m.0.0, tt, λ y. elim y [ inl one ↦ m.0.2 one | inr other ↦ m.1.2 other ]),
    ))
