-- As long as each test passes, nothing is left to join in the networks read so far. If a test fails, the list does not
-- meet the four conditions, so it is not its own aggregate.
use Rattle.std.proofs.Common.{map, subst, arith}
use Rattle.std.proofs.lemmas.List.{take_all}
use Rattle.ipnet_base.specs.Network.{IsNetwork}
use Rattle.ipnet_base.proofs.ResultLaws.{true_gives, false_gives}
use Rattle.ipnet_base.proofs.ListLaws.{All-read}
use Rattle.ipnet.proofs.JoinedLaws.{joined_first, joined_more, joined_at, joined_pair, joined_is_own}
use Rattle.ipnet.proofs.JoinedLaws.{joined_is_neighbours, unjoined_is_not_own, unjoined_is_not_neighbours}
use Rattle.ipnet_base.specs.Stack.{AreJoined}
use Rattle.ipnet.specs.NetworkOf.{ip_network}
use Rattle.ipnet.specs.NetLaws.{ip_valid}
use Rattle.ipnet.proofs.aggregate.is_aggregated.Goals as goal
use Rattle.ipnet.proofs.aggregate.is_aggregated.Goals.{then-index-gt0+else-not-lies_before+else-is_other_half}
use Rattle.ipnet.proofs.aggregate.is_aggregated.Goals.{else-index-gt0, then-not-lies_before-via-then-not-lies_before}
use Rattle.ipnet.proofs.aggregate.is_aggregated.Goals.{then-not-lies_before-via-else-not-lies_before+then-is_other_half}

-- a network with a host bit
has_host_bit : (c : goal.Then-not-is_truncated) → AreJoined (map ip_network c.args.networks.now) → ⊥
has_host_bit c joined =
    false_gives c.is_truncated.result c.is_truncated.ensures c.if-not-is_truncated.true
    (joined_at ip_network c.args.networks.now c.loop-index.index c.index-networks-index.result joined
    (omega arith) c.index-networks-index.is)

pub returns-then-not-is_truncated-clause-own_aggregate : goal.returns-then-not-is_truncated-clause-own_aggregate
returns-then-not-is_truncated-clause-own_aggregate c =
    unjoined_is_not_own (map ip_network c.args.networks.now) (has_host_bit c)

pub returns-then-not-is_truncated-clause-neighbours : goal.returns-then-not-is_truncated-clause-neighbours
returns-then-not-is_truncated-clause-neighbours c =
    unjoined_is_not_neighbours (map ip_network c.args.networks.now) (has_host_bit c)

-- two neighbours out of order, or the two halves of one supernet
not_apart : (c : goal.Joined-then-not-lies_before) → AreJoined (map ip_network c.args.networks.now) → ⊥
not_apart c joined =
    let pair = joined_pair ip_network c.args.networks.now c.loop-index.index c.index-networks-index.result
    c.index-networks-index-then-index-gt0.result (omega arith) (omega arith) c.index-networks-index.is
    c.index-networks-index-then-index-gt0.is joined in
    elim c.then-not-lies_before.branch [
      | then-not-lies_before-via-then-not-lies_before w ↦
          false_gives c.lies_before.result c.lies_before.ensures w.if-not-lies_before.true pair.0
      | then-not-lies_before-via-else-not-lies_before+then-is_other_half w ↦
          pair.1 (true_gives w.is_other_half.result w.is_other_half.ensures w.if-is_other_half.true)
    ]

pub returns-then-not-lies_before-clause-own_aggregate : goal.returns-then-not-lies_before-clause-own_aggregate
returns-then-not-lies_before-clause-own_aggregate c =
    unjoined_is_not_own (map ip_network c.args.networks.now) (not_apart c)

pub returns-then-not-lies_before-clause-neighbours : goal.returns-then-not-lies_before-clause-neighbours
returns-then-not-lies_before-clause-neighbours c =
    unjoined_is_not_neighbours (map ip_network c.args.networks.now) (not_apart c)

pub loop-index-preserved : goal.loop-index-preserved
loop-index-preserved c =
    let xs = c.args.networks.now in
    let i = c.loop-index.index in
    let x = c.index-networks-index.result in
    let t = true_gives c.is_truncated.result c.is_truncated.ensures c.if-not-is_truncated.false in
    elim c.if-index-gt0.branch [
      | then-index-gt0+else-not-lies_before+else-is_other_half w ↦
          let y = w.index-networks-index-then-index-gt0.result in
          joined_more ip_network xs i x y (omega arith) (omega arith) c.index-networks-index.is
          w.index-networks-index-then-index-gt0.is c.loop-index.invariant t
          (true_gives w.lies_before.result w.lies_before.ensures w.if-not-lies_before.false)
          (false_gives w.is_other_half.result w.is_other_half.ensures w.if-is_other_half.false)
      | else-index-gt0 w ↦ joined_first ip_network xs i x (omega arith) c.index-networks-index.is
          (omega (arith, w.if-index-gt0.false)) c.loop-index.invariant t
    ]

-- the whole list
all_joined : (c : goal.After-loop-index) → AreJoined (map ip_network c.args.networks.now)
all_joined c = subst (λ z. AreJoined (map ip_network z))
    (take_all c.loop-index.index c.args.networks.now (omega arith)) c.loop-index.invariant

pub returns-clause-own_aggregate : goal.returns-clause-own_aggregate
returns-clause-own_aggregate c =
    joined_is_own (map ip_network c.args.networks.now) (All-read IsNetwork ip_network ip_valid c.args.networks.now)
    (all_joined c)

pub returns-clause-neighbours : goal.returns-clause-neighbours
returns-clause-neighbours c = joined_is_neighbours (map ip_network c.args.networks.now) (all_joined c)
