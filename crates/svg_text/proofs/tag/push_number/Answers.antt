use Rattle.std.proofs.Common.{◌≡◌, ◌++◌, OnOk, true, decimal, string_bytes, arith, rules}
use Rattle.std.proofs.lemmas.Result.{on_ok_weaker}
use Rattle.svg_text.proofs.EscapeLaws.{are_plain, plain_decimal, appended_plain}
use Rattle.svg_text.proofs.tag.push_number.Goals as goal

pub returns : goal.returns
returns c =
    let whole = decimal c.args.number in
    let plain : are_plain whole ≡ true = plain_decimal c.args.number (omega arith) in
    let old = string_bytes c.args.text.now in
    let new = string_bytes c.write.new.self in
    let said : OnOk c.write.result (new ≡ old ++ whole) = search rules in
    on_ok_weaker c.write.result (appended_plain whole old new plain) said
