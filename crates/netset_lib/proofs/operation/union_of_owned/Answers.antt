-- One set is its own union.
use Rattle.std.proofs.Common.{◌↔◌, sym, subst, arith, IfOk}
use Rattle.ipnet_base.specs.Address.{Address}
use Rattle.ipnet_sets.specs.ManySets.{IsInSome}
use Rattle.ipnet_sets.specs.Members.{IsMember}
use Rattle.ipnet_sets.proofs.ManyLaws.{list_of_one, some_one}
use Rattle.netset_lib.proofs.operation.union_of_owned.Goals as goal

pub returns-then-len-eq1 : goal.returns-then-len-eq1
returns-then-len-eq1 c =
    let set = c.remove.result in
    let sets = c.args.sets.items in
    let one = list_of_one sets set (omega (arith, c.len.ensures, c.if-len-eq1.true)) c.remove.ensures.value in
    λ x.
    let same = some_one IsMember x set in
    subst (λ z. IsMember set x ↔ IsInSome IsMember z x) (sym one) (same.1, same.0)

pub returns : goal.returns
returns c =
    subst (λ z. IfOk c.union_all.result (λ s. (x : Address) → IsMember s x ↔ IsInSome IsMember z x))
    c.as_slice.ensures.value c.union_all.ensures.members
