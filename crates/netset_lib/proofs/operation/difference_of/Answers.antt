-- The second of two sets is taken from the first; of more sets, the union of the others.
use Rattle.std.proofs.Common.{◌↔◌, ◌∷◌, sym, subst, arith}
use Rattle.std.proofs.lemmas.Result.{IfOk-weaker}
use Rattle.ipnet_base.specs.Address.{Address}
use Rattle.ipnet_sets.specs.Members.{IsMember}
use Rattle.netset_lib.specs.Operations.{IsInFirstAlone}
use Rattle.ipnet_sets.proofs.ManyLaws.{none_of_all, list_of_one, both_ways}
use Rattle.netset_lib.proofs.OperationLaws.{first_alone_of_two}
use Rattle.netset_lib.proofs.operation.difference_of.Goals as goal

pub returns-in-len1 : goal.returns-in-len1
returns-in-len1 c =
    let first = c.args.first.now in
    let others = c.args.others.now in
    let second = c.second-item.result in
    let one = list_of_one others second (omega (arith, c.in-len1.len_at_least, c.in-len1.len_below)) c.second-item.is in
    IfOk-weaker c.difference.result
    (λ s. (x : Address) → IsMember s x ↔ (IsMember first x × ¬ (IsMember second x)))
    (λ s. (x : Address) → IsMember s x ↔ IsInFirstAlone IsMember (first ∷ others) x)
    (λ s h x. subst (λ z. IsMember s x ↔ IsInFirstAlone IsMember (first ∷ z) x) (sym one)
    (both_ways (h x) (first_alone_of_two IsMember first second x))) c.difference.ensures.members

pub returns-in_ok-taken-in_default : goal.returns-in_ok-taken-in_default
returns-in_ok-taken-in_default c =
    let first = c.args.first.now in
    let others = c.args.others.now in
    let taken = c.in_ok-taken-in_default.taken in
    IfOk-weaker c.difference-in_default.result
    (λ s. (x : Address) → IsMember s x ↔ (IsMember first x × ¬ (IsMember taken x)))
    (λ s. (x : Address) → IsMember s x ↔ IsInFirstAlone IsMember (first ∷ others) x)
    (λ s h x.
    let same = c.in_ok-taken-in_default.ensures.members x in
    let all = none_of_all IsMember others x in (
      λ m. let parts = (h x).0 m in (parts.0, all.0 (λ other. parts.1 (same.1 other))),
      λ k. (h x).1 (k.0, λ t. all.1 k.1 (same.0 t)),
    )) c.difference-in_default.ensures.members
