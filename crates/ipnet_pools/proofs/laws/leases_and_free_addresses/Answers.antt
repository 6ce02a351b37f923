-- The invariants of every pool, in terms of networks.
use Rattle.std.proofs.Common.{sym, ap, ◌∙◌, subst, refl}
use Rattle.ipnet_base.specs.Network.{InBlock}
use Rattle.ipnet.specs.NetworkOf.{ip_network}
use Rattle.ipnet_pools.proofs.KeepLaws.{rest_of}
use Rattle.ipnet_pools.proofs.laws.leases_and_free_addresses.Goals as goal

pub returns-clause-inside : goal.returns-clause-inside
returns-clause-inside g c pool n v h x a =
    pool.within x (h.0, (v, h.2), subst (λ z. InBlock z x) (sym h.1) a)

pub returns-clause-disjoint : goal.returns-clause-disjoint
returns-clause-disjoint g c pool n m v w h i differ = λ x a b.
    pool.apart.apart h.0 i.0 (v, h.2) (w, i.2) (λ same. differ (sym h.1 ∙ ap ip_network same ∙ i.1)) x
    (subst (λ z. InBlock z x) (sym h.1) a) (subst (λ z. InBlock z x) (sym i.1) b)

pub returns-clause-free : goal.returns-clause-free
returns-clause-free g c pool x = (
  λ f. (
    ((rest_of pool x).0 f).0,
    λ n v h a. ((rest_of pool x).0 f).1 (h.0, (v, h.2), subst (λ z. InBlock z x) (sym h.1) a),
  ),
  λ h. (rest_of pool x).1 (h.0, λ i. h.1 (ip_network i.0) i.1.0 (i.0, refl, i.1.1) i.2),
)
