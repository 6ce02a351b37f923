-- The sorted list is swept onto a stack that covers what the list covers. Nothing is left to join in it, so it is the
-- aggregate.
use Rattle.std.proofs.Common.{◌≡◌, All, map, take, drop, length, sym, subst, arith}
use Rattle.std.proofs.lemmas.List.Sorted.{All-permutation, IsPermutation-map}
use Rattle.ipnet_base.specs.Network.{IsNetwork, IsTruncated}
use Rattle.ipnet_base.specs.Stack.{IsInOrder, IsStackOfFirst}
use Rattle.ipnet_base.proofs.OrderLaws.{in_order_from_sort}
use Rattle.ipnet_base.proofs.StackLaws.{stack_of_first_whole}
use Rattle.ipnet.proofs.FrontLaws.{front_kept}
use Rattle.ipnet_base.proofs.ListLaws.{All-read}
use Rattle.ipnet.proofs.JoinedLaws.{aggregate_from_stack}
use Rattle.ipnet.proofs.aggregate.sort_and_sweep.Goals as goal

pub sweep-stacked-requires-clause-truncated : goal.sweep-stacked-requires-clause-truncated
sweep-stacked-requires-clause-truncated g c =
    let net = g.N.Net.network in
    let list = c.args.list.now.items in
    let sorted = c.sort_unstable.new.self.items in
    subst (λ z. All IsTruncated (map net z)) (sym c.as_mut_slice.ensures.value)
    (All-permutation IsTruncated (map net list) (map net sorted)
    (IsPermutation-map net list sorted c.sort_unstable.ensures.permutation) c.requires)

pub sweep-stacked-requires-clause-order : goal.sweep-stacked-requires-clause-order
sweep-stacked-requires-clause-order g c =
    let net = g.N.Net.network in
    subst (λ z. IsInOrder (map net z)) (sym c.as_mut_slice.ensures.value)
    (in_order_from_sort net g.N.Ord.cmp g.met.N.Net.in_order c.sort_unstable.new.self.items
    c.sort_unstable.ensures.sorted)

-- what is left of the list is the stack that the sweep made in its front
pub returns : goal.returns
returns g c =
    let net = g.N.Net.network in
    let list = c.args.list.now.items in
    let sorted = c.sort_unstable.new.self.items in
    let n = c.sweep-stacked.result in
    let stack = c.sweep-stacked.new.list in
    let answer = c.truncate.new.self.items in
    let kept : answer ≡ take n stack = front_kept answer stack (drop (length stack) sorted) n
    c.sort_unstable.new.self.len c.truncate.ensures.items (omega arith) (omega arith) in
    let swept : IsStackOfFirst (map net sorted) (length sorted) (map net answer) =
    subst (λ z. IsStackOfFirst (map net sorted) (length sorted) (map net z)) (sym kept)
    (subst (λ z. IsStackOfFirst (map net z) (length z) (map net (take n stack))) c.as_mut_slice.ensures.value
    c.sweep-stacked.ensures.stack) in
    aggregate_from_stack (map net list) (map net answer)
    (All-read IsNetwork net g.met.N.Net.valid answer) swept.joined
    (stack_of_first_whole net list sorted answer c.sort_unstable.ensures.permutation swept)
