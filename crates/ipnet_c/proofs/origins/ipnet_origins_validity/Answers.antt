-- Each turn writes the validity of one row more, by the payloads that the image has.
use Rattle.std.proofs.Common.{arith}
use Rattle.ipnet_origins.specs.OriginsOf.{payloads_of}
use Rattle.ipnet_origins.proofs.RecordLaws.{image_from}
use Rattle.ipnet_c.specs.OriginReplies.{Columns, columns, IsRowValidity}
use Rattle.ipnet_c.proofs.ColumnLaws.{right_more}
use Rattle.ipnet_c.proofs.OriginReplies.{validities}
use Rattle.ipnet_c.proofs.origins.ipnet_origins_validity.Goals as goal

pub loop-index-preserved : goal.loop-index-preserved
loop-index-preserved c =
    let rows : Columns
    = columns c.args.families.now c.args.octets.now c.args.lengths.now c.args.asns.now in
    right_more (IsRowValidity (payloads_of c.in-Ok.table) rows) c.loop-index.index c.args.answers.now
    c.loop-index.answers c.row_validity.result c.loop-index.invariant
    (omega (arith, c.loop-index-test.true, c.loop-index.auto.answers)) c.row_validity.ensures

pub returns : goal.returns
returns c =
    let rows : Columns
    = columns c.args.families.now c.args.octets.now c.args.lengths.now c.args.asns.now in
    let has = c.in-Ok.ensures in
    validities c.args.origins.now (payloads_of c.in-Ok.table) rows c.loop-index.index c.args.answers.now
    c.loop-index.answers has (image_from c.args.origins.now has.stored has.image_of)
    (c.are_columns.ensures.0 c.if-not-are_columns.false) c.loop-index.invariant
    (omega (arith, c.loop-index-test.false, c.loop-index.auto.answers))
