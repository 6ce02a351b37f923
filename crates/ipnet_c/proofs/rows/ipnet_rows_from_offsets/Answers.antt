-- Each turn reads the text between two offsets.
use Rattle.std.proofs.Common.{rules, length, take, drop, ◌+◌, ◌-◌, sym, ap, ap₂, ◌∙◌, subst, arith}
use Rattle.std.proofs.lemmas.Slice.{between_to_end}
use Rattle.ipnet_base.specs.Address.{ip_address}
use Rattle.ipnet.specs.declared.parser.Grammar.TheVariants.{Strict}
use Rattle.ipnet_lists.specs.Entries.{IsAddressText, ReadsAs}
use Rattle.ipnet_c.specs.TextRows.{text_at}
use Rattle.ipnet_c.proofs.TextRowReplies.{AreRowsTo, one_row}
use Rattle.ipnet_c.proofs.rows.ipnet_rows_from_offsets.Goals as goal

pub loop-index-preserved : goal.loop-index-preserved
loop-index-preserved c =
    let l = c.loop-index in
    let row = c.write_row-count in
    let text = c.args.text.now in
    let start = c.read_offset-start in
    let end = c.read_offset-end in
    let texts = text_at text c.in-Some.width c.args.offsets.now in
    let read =
    subst (λ z. ReadsAs ip_address (IsAddressText Strict) z c.front_address.result)
    (ap (take (end.result - start.result)) (between_to_end text start.result (length text) (omega arith))
    ∙ ap₂ (λ e s. take (e - s) (drop s text)) end.ensures start.ensures)
    c.front_address.ensures in
    subst (λ z. AreRowsTo texts (l.index + 1) c.args.families.now c.args.octets.now z row.new.octets
    (l.count + row.result)) (sym row.ensures.family)
    (one_row texts l.index c.args.families.now c.args.octets.now l.families l.octets row.new.octets l.count row.result
    c.front_address.result l.invariant (search rules) read row.ensures.as_many row.ensures.written row.ensures.others
    row.ensures.bad row.ensures.few)
