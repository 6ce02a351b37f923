use Rattle.std.proofs.Common.{◌≡◌, [], length, subst, sym, ◌∙◌}
use Rattle.std.proofs.lemmas.Bool.{eqb-true}
use Rattle.ipnet_text.proofs.LineCuts.{empty_text}
use Rattle.ipnet_lists.specs.Causes.{IsSomeEntry}
use Rattle.ipnet_lists.proofs.cause_parts.are_enclosed.Goals as goal

pub returns-in-Some : goal.returns-in-Some
returns-in-Some c =
    let front = c.args.front.now in
    let cut = c.in-Some.ensures.byte c.requires (λ w o h. h) in
    let none : front ≡ [] =
    empty_text front (eqb-true (length front) 0 (sym c.is_empty.ensures ∙ c.if-not-is_empty.false)) in (
      λ is. (none, (cut.2, subst IsSomeEntry cut.0 (c.is_entry.ensures.0 is))),
      λ h. c.is_entry.ensures.1 (subst IsSomeEntry (sym cut.0) h.1.1),
    )
