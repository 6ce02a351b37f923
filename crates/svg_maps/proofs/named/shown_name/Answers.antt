use Rattle.std.proofs.Common.{◌++◌, ◌∙◌, ap, chars, string_bytes}
use Rattle.svg_maps.specs.NamedOutlines.{spaced_text}
use Rattle.svg_maps.proofs.named.shown_name.Goals as goal

pub returns : goal.returns
returns c = record {
  short = string_bytes c.in_ok-short.short;
  is_short = c.in_ok-short.ensures;
  spelled = c.in_ok-push_without_tabs.ensures
      ∙ ap (λ z. z ++ spaced_text (chars c.as_str.result.now)) c.new-text.ensures.bytes
      ∙ ap (λ z. spaced_text (chars z)) c.as_str.ensures.value;
}
