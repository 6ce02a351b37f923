use Rattle.std.proofs.Common.{◌≡◌, ◌∙◌, get_or, length, sym, ap}
use Rattle.std.proofs.lemmas.Bool.{eqb-true, eq-eqb}
use Rattle.std.proofs.lemmas.Str.Ascii.{trim_ascii_start_is}
use Rattle.ipnet_lists.specs.Entries.{after_blanks}
use Rattle.ipnet_lists.specs.Lists.{after_mark}
use Rattle.netset_origins.proofs.VrpLaws.{nil_of, no_brace}
use Rattle.netset_origins.proofs.vrp_json.begins_object.Goals as goal

pub returns-then-is_empty : goal.returns-then-is_empty
returns-then-is_empty c =
    let text = c.trim_ascii_start-text.result.now in
    let is : text ≡ after_blanks (after_mark c.args.bytes.now)
    = trim_ascii_start_is c.skip_mark.result.now text c.trim_ascii_start-text.ensures.value
    ∙ ap after_blanks c.skip_mark.ensures in (
      λ e. absurd cc,
      λ h. absurd (no_brace (after_blanks (after_mark c.args.bytes.now))
          (sym is ∙ nil_of text (eqb-true (length text) 0 (sym c.is_empty.ensures ∙ c.if-is_empty.true))) h),
    )

pub returns : goal.returns
returns c =
    let text = c.trim_ascii_start-text.result.now in
    let is : text ≡ after_blanks (after_mark c.args.bytes.now)
    = trim_ascii_start_is c.skip_mark.result.now text c.trim_ascii_start-text.ensures.value
    ∙ ap after_blanks c.skip_mark.ensures in (
      λ e. ap (λ z. get_or z 0 0) (sym is) ∙ eqb-true (get_or text 0 0) 123 e,
      λ h. eq-eqb (get_or text 0 0) 123 (ap (λ z. get_or z 0 0) is ∙ h),
    )
