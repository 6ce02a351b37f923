-- The cells of the network's numbers.
use Rattle.std.proofs.Common.{refl}
use Rattle.ipnet.specs.NetworkOf.{ip_network}
use Rattle.ipnet_rules.specs.Cells.{family_of}
use Rattle.ipnet_rules.proofs.CompiledLaws.{network_span, no_span}
use Rattle.ipnet_rules.proofs.compiled.span_of.Goals as goal

pub returns-in-Some : goal.returns-in-Some
returns-in-Some c =
    network_span (family_of c.args.family) c.args.cuts.now (ip_network c.args.network.now) c.in-Some.piece
    c.span_of.result c.in-Some.ensures.some (c.span_of.ensures c.requires)

pub returns-in-None : goal.returns-in-None
returns-in-None c =
    no_span (family_of c.args.family) c.args.cuts.now (ip_network c.args.network.now) _ refl
    (c.in-None.ensures.none refl)
