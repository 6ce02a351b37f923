use Rattle.std.proofs.Common.{◌≡◌, ◌==◌, length, ap, sym, ◌∙◌}
use Rattle.std.proofs.lemmas.Bool.{eqb-true}
use Rattle.std.proofs.lemmas.Str.Ascii.{trim_ascii_start_is}
use Rattle.ipnet_text.proofs.LineCuts.{empty_text}
use Rattle.ipnet_lists.specs.Entries.{after_blanks}
use Rattle.ipnet_lists.proofs.cause_parts.has_only_blanks.Goals as goal

pub returns : goal.returns
returns c =
    let rest = c.trim_ascii_start.result.now in
    let after : rest ≡ after_blanks c.args.text.now =
    trim_ascii_start_is c.args.text.now rest c.trim_ascii_start.ensures.value in (
      λ e. sym after ∙ empty_text rest (eqb-true (length rest) 0 (sym c.is_empty.ensures ∙ e)),
      λ h. c.is_empty.ensures ∙ ap (λ z. length z == 0) (after ∙ h),
    )
