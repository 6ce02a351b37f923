-- No row is bad, and the image is written if there is room.
use Rattle.std.proofs.Common.{refl, sym, subst}
use Rattle.ipnet_c.specs.OriginReplies.{Columns, columns, IsImageOfRows}
use Rattle.ipnet_c.proofs.OriginReplies.{origins_made, memory_refused}
use Rattle.ipnet_c.proofs.origins.ipnet_origins_from_rows.Goals as goal

pub returns-in_default-image_of : goal.returns-in_default-image_of
returns-in_default-image_of c =
    memory_refused (columns c.args.families.now c.args.octets.now c.args.lengths.now c.args.asns.now)
    c.args.max_lens.now c.args.buffer.now c.args.count.now (c.are_columns.ensures.0 c.if-not-are_columns.false)
    (c.in_default.ensures.none refl)

pub returns : goal.returns
returns c =
    let rows : Columns
    = columns c.args.families.now c.args.octets.now c.args.lengths.now c.args.asns.now in
    let made = c.write_to_buffer in
    origins_made rows c.args.max_lens.now c.as_slice.result.now c.args.buffer.now made.new.buffer c.args.count.now
    made.new.count made.result (c.are_columns.ensures.0 c.if-not-are_columns.false) (c.in_default.ensures.none refl)
    (subst (IsImageOfRows rows c.args.max_lens.now) (sym c.as_slice.ensures.value) c.in-Ok.ensures)
    made.ensures.known made.ensures.ok made.ensures.too_short
