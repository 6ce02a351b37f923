use Rattle.std.proofs.Common.{◌≡◌, true, false, [], ◌∷◌, length, refl, sym, ◌∙◌, subst, inl, inr}
use Rattle.std.proofs.lemmas.Result.{on_ok_weaker}
use Rattle.ipnet_text.proofs.LineCuts.{empty_text, no_bytes, some_bytes}
use Rattle.ipnet_lists.specs.ContentLineOf.{line_of}
use Rattle.ipnet_lists.specs.ContentLines.{IsTaken, OrBroken}
use Rattle.ipnet_lists.specs.Entries.{HasReturn}
use Rattle.ipnet_lists.specs.RefusedLines.{HasMore}
use Rattle.ipnet_lists.proofs.ContentLaws.{adds_none, adds_refused, adds_taken}
use Rattle.ipnet_lists.proofs.content_line.take_line.Goals as goal

pub returns-then-is_empty : goal.returns-then-is_empty
returns-then-is_empty g c =
    adds_none (g.H.LineHandler.takes c.args.handler.now)
    (OrBroken (g.H.LineHandler.broken c.args.handler.now) (g.H.LineHandler.is_cause c.args.handler.now))
    (line_of c.args.line) c.args.made.now c.args.refused.now
    (empty_text c.args.line.text.now (no_bytes (length c.args.line.text.now) c.if-is_empty.ensures))

pub returns-then-has_byte : goal.returns-then-has_byte
returns-then-has_byte g c =
    let takes = g.H.LineHandler.takes c.args.handler.now in
    let broken = g.H.LineHandler.broken c.args.handler.now in
    let is_cause = OrBroken broken (g.H.LineHandler.is_cause c.args.handler.now) in
    let line = line_of c.args.line in
    let refused = c.args.refused.now in
    on_ok_weaker c.push.result
    (λ more. adds_refused takes is_cause line c.args.made.now c.args.made.now c.refuse_broken-cause.result refused
    c.push.new.self (some_bytes (length line.text) c.if-is_empty.ensures)
    (inl (sym c.has_byte.ensures ∙ c.if-has_byte.true, c.refuse_broken-cause.ensures)) refl
    (subst (λ r. HasMore refused c.push.new.self (r ∷ [])) c.refused_part.ensures more)) c.push.ensures

pub returns-in-Ok : goal.returns-in-Ok
returns-in-Ok g c =
    let takes = g.H.LineHandler.takes c.args.handler.now in
    let is_cause = g.H.LineHandler.is_cause c.args.handler.now in
    let old = c.args.made.now in
    let new = c.take.new.made in
    let unbroken : ¬ (HasReturn c.args.line.text.now) = λ h.
    let clash : true ≡ false = sym h ∙ sym c.has_byte.ensures ∙ c.if-has_byte.false in
    absurd cc in
    adds_taken takes (OrBroken (g.H.LineHandler.broken c.args.handler.now) is_cause) (line_of c.args.line) old new
    c.args.refused.now (some_bytes (length c.args.line.text.now) c.if-is_empty.ensures) (
      unbroken,
      subst (IsTaken (takes (line_of c.args.line) old new) (is_cause c.args.line.text.now) (new ≡ old)) c.in-Ok.is
          c.in_ok-take.ensures,
    )

pub returns-in-Err : goal.returns-in-Err
returns-in-Err g c =
    let takes = g.H.LineHandler.takes c.args.handler.now in
    let raw = g.H.LineHandler.is_cause c.args.handler.now in
    let is_cause = OrBroken (g.H.LineHandler.broken c.args.handler.now) raw in
    let line = line_of c.args.line in
    let refused = c.args.refused.now in
    let old = c.args.made.now in
    let new = c.take.new.made in
    let unbroken : ¬ (HasReturn line.text) = λ h.
    let clash : true ≡ false = sym h ∙ sym c.has_byte.ensures ∙ c.if-has_byte.false in
    absurd cc in
    let taken = subst (IsTaken (takes line old new) (raw line.text) (new ≡ old)) c.in-Err.is c.in_ok-take.ensures in
    on_ok_weaker c.push-in-Err.result
    (λ more. adds_refused takes is_cause line old new c.in-Err.cause refused c.push-in-Err.new.self
    (some_bytes (length line.text) c.if-is_empty.ensures) (inr (unbroken, taken.0)) taken.1
    (subst (λ r. HasMore refused c.push-in-Err.new.self (r ∷ [])) c.refused_part-in-Err.ensures more))
    c.push-in-Err.ensures
