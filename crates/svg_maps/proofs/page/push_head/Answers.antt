use Rattle.std.proofs.Common.{string_bytes}
use Rattle.std.proofs.lemmas.Result.{on_ok_weaker}
use Rattle.svg_maps.proofs.PageLaws.{leaves_joined}
use Rattle.svg_maps.proofs.page.push_head.Goals as goal

pub returns : goal.returns
returns c =
    let p = c.args.page in
    on_ok_weaker c.push_ground.result (leaves_joined p.title.now p.summary.now p.style.now p.area
    (string_bytes c.args.text.now) (string_bytes c.push_leaf.new.text) (string_bytes c.push_leaf-2.new.text)
    (string_bytes c.push_leaf-3.new.text) (string_bytes c.push_ground.new.text)
    c.in_ok-push_leaf.ensures c.in_ok-push_leaf-2.ensures c.in_ok-push_leaf-3.ensures) c.push_ground.ensures
