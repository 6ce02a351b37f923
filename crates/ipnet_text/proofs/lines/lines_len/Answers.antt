use Rattle.std.proofs.Common.{◌≡◌, get_or, eqb-true}
use Rattle.ipnet_text.proofs.ClosedLines.{front_closed}
use Rattle.ipnet_text.proofs.lines.lines_len.Goals as goal

pub returns-in-Some-clause-closed : goal.returns-in-Some-clause-closed
returns-in-Some-clause-closed c = λ _.
    let bytes = c.args.bytes.now in
    let end = c.in-Some.end in
    let found : get_or bytes end 0 ≡ 10 = eqb-true (get_or bytes end 0) 10 c.in-Some.ensures.1 in
    front_closed bytes end c.in-Some.ensures.0.high found
