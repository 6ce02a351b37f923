use Rattle.std.proofs.Common.{◌≡◌, ◌+◌, drop, sym, ap, subst, ◌∙◌, arith}
use Rattle.std.proofs.lemmas.List.{drop_more, drop_all}
use Rattle.ipnet.specs.NetworkOf.{ip_network}
use Rattle.ipnet_info.specs.RegistryRows.{blocks_of, purposes_of}
use Rattle.ipnet_info.proofs.RegistryLaws.{FoundBefore, found_more, found_end, network_at_index}
use Rattle.ipnet_info.proofs.purposes.push_purposes.Goals as goal

pub push_purpose-requires : goal.push_purpose-requires
push_purpose-requires c =
    network_at_index (ip_network c.args.network.now).family c.args.rows.now c.loop-row.row-index _
    c.loop-row-test.true c.requires

pub loop-row-preserved : goal.loop-row-preserved
loop-row-preserved c =
    let n = ip_network c.args.network.now in
    let rows = c.args.rows.now in
    let i = c.loop-row.row-index in
    let old = purposes_of c.args.purposes.now.items in
    let found = c.in_ok-push_purpose.ensures in
    found_more n (blocks_of n.family rows) _ (blocks_of n.family (drop (i + 1) rows)) old
    (purposes_of c.loop-row.purposes.items) (purposes_of c.push_purpose.new.purposes.items) found.0
    (subst (λ left. FoundBefore n (blocks_of n.family rows) (blocks_of n.family left) old
    (purposes_of c.loop-row.purposes.items)) (drop_more rows i _ c.loop-row-test.true) c.loop-row.invariant)
    found.1 found.2

pub returns : goal.returns
returns c =
    let n = ip_network c.args.network.now in
    let rows = c.args.rows.now in
    let old = purposes_of c.args.purposes.now.items in
    found_end n (blocks_of n.family rows) old (purposes_of c.loop-row.purposes.items)
    (subst (λ left. FoundBefore n (blocks_of n.family rows) (blocks_of n.family left) old
    (purposes_of c.loop-row.purposes.items)) (drop_all c.loop-row.row-index rows
    (omega (arith, c.loop-row-test.false, c.loop-row.auto.row-index-end))) c.loop-row.invariant)
