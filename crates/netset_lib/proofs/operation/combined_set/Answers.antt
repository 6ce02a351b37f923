use Rattle.std.proofs.Common.{◌↔◌, sym, subst, IfOk}
use Rattle.ipnet_base.specs.Address.{Address}
use Rattle.ipnet_sets.specs.ManySets.{IsInEach}
use Rattle.ipnet_sets.specs.Members.{IsMember}
use Rattle.netset_lib.specs.Combinations.{IsInCombined}
use Rattle.netset_lib.specs.Operations.{IsInFirstAlone}
use Rattle.netset_lib.proofs.operation.combined_set.Goals as goal

pub returns-in-Union : goal.returns-in-Union
returns-in-Union c =
    subst (λ o. IfOk c.union_of_owned.result (λ s. (x : Address) → IsMember s x ↔ IsInCombined o x))
    (sym c.in-Union.is) c.union_of_owned.ensures

pub returns-in-Intersection : goal.returns-in-Intersection
returns-in-Intersection c =
    subst (λ o. IfOk c.intersection_all.result (λ s. (x : Address) → IsMember s x ↔ IsInCombined o x))
    (sym c.in-Intersection.is)
    (subst (λ z. IfOk c.intersection_all.result (λ s. (x : Address) → IsMember s x ↔ IsInEach IsMember z x))
    c.as_slice.ensures.value c.intersection_all.ensures.members)

pub returns-in-Difference : goal.returns-in-Difference
returns-in-Difference c =
    subst (λ o. IfOk c.difference_of_all.result (λ s. (x : Address) → IsMember s x ↔ IsInCombined o x))
    (sym c.in-Difference.is)
    (subst (λ z. IfOk c.difference_of_all.result (λ s. (x : Address) → IsMember s x ↔ IsInFirstAlone IsMember z x))
    c.as_slice-in-Difference.ensures.value c.difference_of_all.ensures)
