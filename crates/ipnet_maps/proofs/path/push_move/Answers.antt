use Rattle.std.proofs.Common.{◌++◌, ◌∙◌, [], ap, append_assoc, codes, string_bytes}
use Rattle.ipnet_maps.specs.Paths.{distance_text}
use Rattle.ipnet_maps.proofs.path.push_move.Goals as goal

pub returns : goal.returns
returns c =
    let old = string_bytes c.args.text.now in
    let across = distance_text [] c.args.from.column c.args.to.column in
    let down = distance_text (codes " ") c.args.from.row c.args.to.row in
    c.in_ok-push_distance-2.ensures ∙ ap (λ z. z ++ down) c.in_ok-push_distance.ensures
    ∙ ap (λ z. z ++ across ++ down) c.in_ok-push_str.ensures.bytes
    ∙ ap (λ z. z ++ down) (append_assoc old (codes "m") across)
    ∙ append_assoc old (codes "m" ++ across) down
