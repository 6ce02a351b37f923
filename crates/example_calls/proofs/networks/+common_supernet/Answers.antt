-- A network that contains both contains the supernet of the first, by the law, and so what was found from there.
use Rattle.std.proofs.Common.{◌≡◌, true}
use Rattle.ipnet.specs.NetworkOf.{ip_network}
use Rattle.example_calls.proofs.networks.+common_supernet.Goals as goal

pub returns-clause-smallest : goal.returns-clause-smallest
returns-clause-smallest n c k valid with_a with_b =
    c.in_ok-smallest.ensures.smallest k valid
    (c.supernet_is_the_next_wider.ensures.common c.in_ok-supernet.ensures.some (ip_network c.args.b.now) k valid
    (λ s. let yes : c.contains.result ≡ true = c.contains.ensures.1 s in cc) with_a with_b)
    with_b
