use Rattle.std.proofs.Common.{◌≡◌, ◌++◌, OnOk, true, codes, decimal, refl, string_bytes, arith}
use Rattle.std.proofs.lemmas.Grind.{common_steps}
use Rattle.std.proofs.lemmas.Result.{on_ok_weaker}
use Rattle.svg_text.proofs.EscapeLaws.{are_plain, are_plain-append, plain_decimal, appended_plain}
use Rattle.svg_text.proofs.tag.push_view_box.Goals as goal

pub returns : goal.returns
returns c =
    let x = decimal c.args.width in
    let y = decimal c.args.height in
    let whole = codes "0 0 " ++ x ++ codes " " ++ y in
    let old = string_bytes c.args.text.now in
    let new = string_bytes c.write.new.self in
    let said : OnOk c.write.result (new ≡ old ++ whole) = grind (arith, common_steps) in
    let first : are_plain (codes "0 0 " ++ x) ≡ true =
    are_plain-append (codes "0 0 ") x refl (plain_decimal c.args.width (omega arith)) in
    let second : are_plain (codes "0 0 " ++ x ++ codes " ") ≡ true =
    are_plain-append (codes "0 0 " ++ x) (codes " ") first refl in
    let plain : are_plain whole ≡ true =
    are_plain-append (codes "0 0 " ++ x ++ codes " ") y second (plain_decimal c.args.height (omega arith)) in
    on_ok_weaker c.write.result (appended_plain whole old new plain) said
