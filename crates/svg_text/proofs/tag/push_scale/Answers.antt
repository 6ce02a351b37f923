use Rattle.std.proofs.Common.{◌≡◌, ◌++◌, OnOk, true, codes, decimal, refl, string_bytes, arith, rules}
use Rattle.std.proofs.lemmas.Result.{on_ok_weaker}
use Rattle.svg_text.proofs.EscapeLaws.{are_plain, are_plain-append, plain_decimal, appended_plain}
use Rattle.svg_text.proofs.tag.push_scale.Goals as goal

pub returns : goal.returns
returns c =
    let whole = codes "scale(" ++ decimal c.args.factor ++ codes ")" in
    let plain : are_plain whole ≡ true =
    are_plain-append (codes "scale(" ++ decimal c.args.factor) (codes ")")
    (are_plain-append (codes "scale(") (decimal c.args.factor) refl (plain_decimal c.args.factor (omega arith))) refl in
    let old = string_bytes c.args.text.now in
    let new = string_bytes c.write.new.self in
    let said : OnOk c.write.result (new ≡ old ++ whole) = search rules in
    on_ok_weaker c.write.result (appended_plain whole old new plain) said
