use Rattle.std.proofs.Common.{◌≡◌, ◌++◌, OnOk, true, codes, decimal, refl, string_bytes, arith}
use Rattle.std.proofs.lemmas.Grind.{common_steps}
use Rattle.std.proofs.lemmas.Result.{on_ok_weaker}
use Rattle.svg_text.proofs.EscapeLaws.{are_plain, are_plain-append, plain_decimal, appended_plain}
use Rattle.svg_text.proofs.tag.push_translate.Goals as goal

pub returns : goal.returns
returns c =
    let x = decimal c.args.x in
    let y = decimal c.args.y in
    let whole = codes "translate(" ++ x ++ codes " " ++ y ++ codes ")" in
    let old = string_bytes c.args.text.now in
    let new = string_bytes c.write.new.self in
    let said : OnOk c.write.result (new ≡ old ++ whole) = grind (arith, common_steps) in
    let first : are_plain (codes "translate(" ++ x) ≡ true =
    are_plain-append (codes "translate(") x refl (plain_decimal c.args.x (omega arith)) in
    let second : are_plain (codes "translate(" ++ x ++ codes " ") ≡ true =
    are_plain-append (codes "translate(" ++ x) (codes " ") first refl in
    let third : are_plain (codes "translate(" ++ x ++ codes " " ++ y) ≡ true =
    are_plain-append (codes "translate(" ++ x ++ codes " ") y second (plain_decimal c.args.y (omega arith)) in
    let plain : are_plain whole ≡ true =
    are_plain-append (codes "translate(" ++ x ++ codes " " ++ y) (codes ")") third refl in
    on_ok_weaker c.write.result (appended_plain whole old new plain) said
