-- Each turn reads the first of the lines that are left.
use Rattle.std.proofs.Common.{rules, length, ◌+◌, sym, subst, arith}
use Rattle.std.specs.List.{between}
use Rattle.std.proofs.lemmas.Slice.{between_to_end}
use Rattle.ipnet_c.proofs.TextRowReplies.{AreLinesLeft, all_left, line_is_left, one_line, lines_read}
use Rattle.ipnet_c.proofs.rows.ipnet_rows_from_lines.Goals as goal

pub loop-index-init : goal.loop-index-init
loop-index-init c = all_left c.args.text.now c.args.families.now c.args.octets.now (search rules)

pub line_len-len-requires : goal.line_len-len-requires
line_len-len-requires c =
    line_is_left c.args.text.now c.loop-index.rest.now c.loop-index.index c.args.families.now c.args.octets.now
    c.loop-index.families c.loop-index.octets c.loop-index.count c.loop-index.invariant (search rules)

pub loop-index-preserved : goal.loop-index-preserved
loop-index-preserved c =
    let l = c.loop-index in
    let row = c.write_row-count in
    let next = between (c.line_len-len.result + 1) (length l.rest.now) l.rest.now in
    subst (λ z. AreLinesLeft c.args.text.now next (l.index + 1) c.args.families.now c.args.octets.now z row.new.octets
    (l.count + row.result)) (sym row.ensures.family)
    (one_line c.args.text.now l.rest.now next l.index c.line_len-len.result c.args.families.now c.args.octets.now
    l.families l.octets row.new.octets l.count row.result c.front_address.result l.invariant (search rules)
    c.line_len-len.ensures.end c.front_address.ensures
    (between_to_end l.rest.now (c.line_len-len.result + 1) (length l.rest.now) (omega arith)) row.ensures.as_many
    row.ensures.written row.ensures.others row.ensures.bad row.ensures.few)

pub returns : goal.returns
returns c =
    lines_read c.args.text.now c.loop-index.rest.now c.loop-index.index c.args.families.now c.args.octets.now
    c.loop-index.families c.loop-index.octets c.args.bad.now c.loop-index.count (search rules) c.loop-index.invariant
    (search rules)
