use Rattle.std.proofs.Common.{◌-◌, arith, length}
use Rattle.netset_entries.proofs.PlainTexts.{ends_in_three}
use Rattle.netset_entries.proofs.plain.last_len.Goals as goal

pub returns-then-len-le128 : goal.returns-then-len-le128
returns-then-len-le128 c =
    let count = length c.args.text.now in
    let long = c.if-count-lt-LONGEST.false in
    ends_in_three c.args.text.now (count - 4) (count - 3) (count - 2) (count - 1) (omega (arith, long))
    (omega (arith, long)) (omega (arith, long)) (omega (arith, long)) c.in_ok-hundreds.hundreds c.in_ok-tens.tens
    c.in_ok-ones.ones c.if-text-count-eq47-3.true c.in_ok-hundreds.ensures.value c.in_ok-tens.ensures.value
    c.in_ok-ones.ensures.value c.in_ok-hundreds.ensures.digit c.in_ok-tens.ensures.digit c.in_ok-ones.ensures.digit
    c.if-hundreds-gt0.true c.if-len-le128.true
