use Rattle.std.proofs.Common.{[], codes, string_bytes, ap, ◌∙◌, ◌++◌}
use Rattle.svg_maps.proofs.PageLaws.{four_texts}
use Rattle.svg_maps.proofs.entry.entry_title.Goals as goal

pub returns : goal.returns
returns c =
    let text = string_bytes c.args.entry.now.title in
    let place = string_bytes c.in_ok-place.place in record {
      place = place;
      is_place = c.in_ok-place.ensures;
      spelled = four_texts [] text (codes " (") place (codes ")") (string_bytes c.in_ok-title.title)
          (string_bytes c.push_str.new.self) (string_bytes c.push_str-2.new.self)
          (string_bytes c.push_str-3.new.self) (c.in_ok-title.ensures.ok ∙ c.as_str.ensures.value)
          c.in_ok-push_str.ensures.bytes
          (c.in_ok-push_str-2.ensures.bytes
          ∙ ap (λ z. string_bytes c.push_str.new.self ++ z) c.as_str-2.ensures.value)
          c.in_ok-push_str-3.ensures.bytes;
    }
