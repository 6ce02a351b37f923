use Rattle.std.proofs.Common.{refl, ap, ◌∙◌, ◌++◌}
use Rattle.ipnet.specs.CanonicalTexts.{canonical_text}
use Rattle.ipnet.specs.NetworkOf.{ip_network}
use Rattle.svg_maps.specs.NamedOutlines.{name_part}
use Rattle.svg_maps.proofs.named.named_outline.Goals as goal

pub unreachable-requires : goal.unreachable-requires
unreachable-requires c = c.in_default.ensures.none.0 refl c.requires.named.listed

pub returns : goal.returns
returns c = record {
  class = refl;
  area = c.rectangle_in-rectangle.ensures.rectangle;
  name = c.in-Some.name.now;
  is_name = c.in-Some.ensures.some;
  label = c.in_ok-label.ensures;
  title = c.in_ok-title.ensures
      ∙ ap (λ z. canonical_text (ip_network c.args.network.now) ++ name_part z) c.as_str.ensures.value;
}
