use Rattle.std.proofs.Common.{◌++◌, ◌∙◌, ap, append_assoc, string_bytes}
use Rattle.ipnet_maps.specs.Paths.{move_text, outline_text}
use Rattle.ipnet_maps.proofs.path.push_rectangle.Goals as goal

pub returns : goal.returns
returns c =
    let outline = outline_text c.args.rectangle.now.sides in
    c.in_ok-push_outline.ensures ∙ ap (λ z. z ++ outline) c.in_ok-push_move.ensures
    ∙ append_assoc (string_bytes c.args.text.now) (move_text c.args.from c.args.rectangle.now.place) outline
