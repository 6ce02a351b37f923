use Rattle.std.proofs.Common.{◌++◌, ◌∙◌, ap, codes}
use Rattle.ipnet.specs.CanonicalTexts.{canonical_text}
use Rattle.ipnet.specs.NetworkOf.{ip_network}
use Rattle.svg_maps.proofs.NamedLaws.{without_name, with_name}
use Rattle.svg_maps.proofs.named.name_title.Goals as goal

pub returns-then-is_empty : goal.returns-then-is_empty
returns-then-is_empty c =
    without_name (canonical_text (ip_network c.args.network.now)) c.args.name.now _ c.if-is_empty.ensures
    (c.in_ok-title.ensures.ok ∙ (c.as_str.ensures.value ∙ c.to_text.ensures))

pub returns : goal.returns
returns c =
    with_name (canonical_text (ip_network c.args.network.now)) c.args.name.now _ c.if-is_empty.ensures
    (c.in_ok-push_str-2.ensures.bytes
    ∙ ap (λ z. z ++ c.args.name.now) (c.in_ok-push_str.ensures.bytes
    ∙ ap (λ z. z ++ codes ": ") (c.in_ok-title.ensures.ok ∙ (c.as_str.ensures.value ∙ c.to_text.ensures))))
