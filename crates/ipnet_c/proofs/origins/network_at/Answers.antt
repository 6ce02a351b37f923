-- The bytes of the row are a part of the octets.
use Rattle.std.proofs.Common.{get_or, subst, IfSome, IsNone}
use Rattle.ipnet.specs.Network.{Network}
use Rattle.ipnet.specs.NetworkOf.{ip_network}
use Rattle.ipnet_c.specs.OriginReplies.{IsNetworkRow}
use Rattle.ipnet_c.proofs.RowLaws.{row_part}
use Rattle.ipnet_c.proofs.origins.network_at.Goals as goal

pub returns-clause-some : goal.returns-clause-some
returns-clause-some c =
    let rows = c.args.rows.now in
    subst (λ z. IfSome c.row_network.result (λ network. IsNetworkRow (get_or rows.families.now c.args.index 0) z
    (get_or rows.lengths.now c.args.index 0) (ip_network network)))
    (row_part rows.octets.now c.args.index) c.row_network.ensures.some

pub returns-clause-none : goal.returns-clause-none
returns-clause-none c =
    let rows = c.args.rows.now in
    subst (λ z. IsNone c.row_network.result → (n : Network) → IsNetworkRow (get_or rows.families.now c.args.index 0) z
    (get_or rows.lengths.now c.args.index 0) n → ⊥)
    (row_part rows.octets.now c.args.index) c.row_network.ensures.none
