use Rattle.std.proofs.Common.{◌≢◌, [], Any, length, arith, refl, sym, ap, subst}
use Rattle.ipnet.specs.Lines.{lines_of}
use Rattle.ipnet_sets.proofs.SetRangeLaws.{any_here}
use Rattle.ipnet_text.proofs.LineCuts.{empty_text, no_bytes, some_bytes}
use Rattle.ipnet_lists.specs.ContentLines.{IsSomeLine}
use Rattle.ipnet_lists.proofs.ContentLaws.{skip_empty}
use Rattle.ipnet_lists.proofs.content_line.has_lines.Goals as goal

pub returns-then-not-is_empty : goal.returns-then-not-is_empty
returns-then-not-is_empty c =
    let text = c.contents_of.result.now in
    let some : text ≢ [] = λ none. omega (arith, some_bytes (length text) c.if-not-is_empty.ensures, ap length none) in
    let here = any_here IsSomeLine c.first_line_of_bytes.result.0.now (lines_of c.first_line_of_bytes.result.1.now)
    (text, c.contents_of.ensures, some) in
    (λ t. c.lines.invariant.1 (subst (Any IsSomeLine) (sym c.first_line_of_bytes.ensures.lines) here), λ any. refl)

pub lines-preserved : goal.lines-preserved
lines-preserved c =
    let text = c.contents_of.result.now in
    let cut = c.first_line_of_bytes.ensures.lines in
    let skip = skip_empty c.first_line_of_bytes.result.0.now text (lines_of c.first_line_of_bytes.result.1.now)
    c.contents_of.ensures (empty_text text (no_bytes (length text) c.if-not-is_empty.ensures)) in (
      λ any. skip.0 (subst (Any IsSomeLine) cut (c.lines.invariant.0 any)),
      λ any. c.lines.invariant.1 (subst (Any IsSomeLine) (sym cut) (skip.1 any)),
    )
