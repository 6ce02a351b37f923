-- Leases that share an address have one value.
use Rattle.example_pools.proofs.tenants.Tenants.share_no_address.Goals as goal

pub returns : goal.returns
returns c t u x (n, leased, a) (m, other, b) =
    (c.has_one_lease_of_each_address.ensures n m t u x leased other a b).1
