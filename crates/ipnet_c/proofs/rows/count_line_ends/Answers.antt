-- Each turn counts one byte more.
use Rattle.std.proofs.Common.{rules, ◌+◌, get_or, refl, sym, subst, arith}
use Rattle.ipnet_c.proofs.LineTexts.{AreCounted, counted_more}
use Rattle.ipnet_c.proofs.rows.count_line_ends.Goals as goal

pub loop-byte-init : goal.loop-byte-init
loop-byte-init c = record { shown = refl; few = omega arith }

pub loop-byte-preserved : goal.loop-byte-preserved
loop-byte-preserved c =
    let text = c.args.text.now in
    let l = c.loop-byte in
    subst (λ z. AreCounted text (l.byte-index + 1) (l.count + z)) (sym c.from-count.ensures)
    (counted_more text l.byte-index l.count (get_or text l.byte-index 0) (search rules) refl l.invariant)
