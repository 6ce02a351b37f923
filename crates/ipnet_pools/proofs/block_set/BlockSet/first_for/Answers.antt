-- The range begins at the request, and its first key is the one in question if it is of the request's family.
use Rattle.std.proofs.Common.{sym, ap, subst, IfNone, Contains, refl}
use Rattle.ipnet_base.specs.Network.{Network}
use Rattle.ipnet.specs.NetworkOf.{ip_network}
use Rattle.ipnet_pools.specs.BlocksOf.{blocks_of}
use Rattle.ipnet_pools.specs.FitSteps.{HasRequested, IsFirstFor}
use Rattle.ipnet_pools.proofs.FirstLaws.{none_before, none_if_empty, none_of_family, first_found}
use Rattle.ipnet_pools.proofs.block_set.BlockSet.first_for.Goals as goal

pub returns-in_err-first-clause-none : goal.returns-in_err-first-clause-none
returns-in_err-first-clause-none c =
    let set = c.args.self.now in
    let key = c.new-key.result in
    subst (λ r. IfNone r ((n : Network) → Contains (blocks_of set) n
    → ¬ (HasRequested (ip_network c.args.request.now) n))) (sym c.from_residual.ensures)
    (subst (λ z. (n : Network) → Contains (blocks_of set) n → ¬ (HasRequested (ip_network z) n))
    c.new-key.ensures.network
    (none_if_empty _ (λ a b. (c.ip_nets_compare_by_network.ensures.compare a b).order) set.keys set.exact
    (record { family = key.family; host_bits = key.host_bits; network = c.least_network.result }) key
    c.new-key.ensures.key
    refl refl
    (λ b. none_before (ip_network c.least_network.result) (ap (λ n. n.family) c.least_network.ensures)
    (ap (λ n. n.number) c.least_network.ensures) (ap (λ n. n.prefix_len) c.least_network.ensures) (ip_network b))
    c.range.result (c.range.ensures.in_range tt) c.in_err-first.ensures.steps.0))

pub returns-then-first-key-clause-none : goal.returns-then-first-key-clause-none
returns-then-first-key-clause-none c =
    let set = c.args.self.now in
    let key = c.new-key.result in
    subst (λ z. (n : Network) → Contains (blocks_of set) n → ¬ (HasRequested (ip_network z) n))
    c.new-key.ensures.network
    (none_of_family _ (λ a b. (c.ip_nets_compare_by_network.ensures.compare a b).order) set.keys set.exact
    (record { family = key.family; host_bits = key.host_bits; network = c.least_network.result }) key
    c.new-key.ensures.key
    refl refl
    (λ b. none_before (ip_network c.least_network.result) (ap (λ n. n.family) c.least_network.ensures)
    (ap (λ n. n.number) c.least_network.ensures) (ap (λ n. n.prefix_len) c.least_network.ensures) (ip_network b))
    c.range.result (c.range.ensures.in_range tt) c.in_ok-first.first.now c.next.new.self c.in_ok-first.ensures.steps
    c.if-first-key.true)

pub returns-clause-some : goal.returns-clause-some
returns-clause-some c =
    let set = c.args.self.now in
    let key = c.new-key.result in
    subst (λ z. IsFirstFor (blocks_of set) (ip_network z) (ip_network c.in_ok-first.first.now.network))
    c.new-key.ensures.network
    (first_found _ (λ a b. (c.ip_nets_compare_by_network.ensures.compare a b).order) set.keys set.exact
    (record { family = key.family; host_bits = key.host_bits; network = c.least_network.result }) key
    c.new-key.ensures.key
    refl refl
    (λ b. none_before (ip_network c.least_network.result) (ap (λ n. n.family) c.least_network.ensures)
    (ap (λ n. n.number) c.least_network.ensures) (ap (λ n. n.prefix_len) c.least_network.ensures) (ip_network b))
    c.range.result (c.range.ensures.in_range tt) c.in_ok-first.first.now c.next.new.self c.in_ok-first.ensures.steps
    c.if-first-key.false)
