-- One to four groups, and a ":" after the last one (`GroupTexts`).
use Rattle.std.proofs.Common.{◌+◌, arith}
use Rattle.ipnet_text.proofs.FrontTexts.{rest_from, length_rest}
use Rattle.ipnet_text.proofs.GroupTexts.{head_one, head_two, head_three, head_four}
use Rattle.ipnet_text.proofs.front.head_before.Goals as goal

pub returns-then-second_on-eq58-clause-head : goal.returns-then-second_on-eq58-clause-head
returns-then-second_on-eq58-clause-head c =
    head_one c.args.bytes.now c.in_ok-a.first c.in_ok-a.a
    c.in_ok-a.ensures.group c.in_ok-a.ensures.end c.if-second_on-eq58.true

pub returns-then-third_on-eq58-clause-head : goal.returns-then-third_on-eq58-clause-head
returns-then-third_on-eq58-clause-head c =
    head_two c.args.bytes.now c.in_ok-a.first c.in_ok-b.second c.in_ok-a.a c.in_ok-b.b
    (omega (arith, c.in_ok-a.ensures.few))
    c.in_ok-a.ensures.group c.in_ok-a.ensures.end c.in_ok-b.ensures.group c.in_ok-b.ensures.end c.if-third_on-eq58.true

pub returns-then-fourth_on-eq58-clause-head : goal.returns-then-fourth_on-eq58-clause-head
returns-then-fourth_on-eq58-clause-head c =
    head_three c.args.bytes.now c.in_ok-a.first c.in_ok-b.second c.in_ok-c.third c.in_ok-a.a c.in_ok-b.b c.in_ok-c.c
    (omega (arith, c.in_ok-a.ensures.few))
    (omega (arith, c.in_ok-a.ensures.few, c.in_ok-b.ensures.few, length_rest (c.in_ok-a.first + 1) c.args.bytes.now))
    c.in_ok-a.ensures.group c.in_ok-a.ensures.end c.in_ok-b.ensures.group c.in_ok-b.ensures.end c.in_ok-c.ensures.group
    c.in_ok-c.ensures.end c.if-fourth_on-eq58.true

pub returns-clause-head : goal.returns-clause-head
returns-clause-head c =
    head_four c.args.bytes.now c.in_ok-a.first c.in_ok-b.second c.in_ok-c.third c.in_ok-d.fourth c.in_ok-a.a c.in_ok-b.b
    c.in_ok-c.c c.in_ok-d.d
    (omega (arith, c.in_ok-a.ensures.few))
    (omega (arith, c.in_ok-a.ensures.few, c.in_ok-b.ensures.few, length_rest (c.in_ok-a.first + 1) c.args.bytes.now))
    (omega (
      arith,
      c.in_ok-a.ensures.few,
      c.in_ok-b.ensures.few,
      c.in_ok-c.ensures.few,
      length_rest (c.in_ok-a.first + 1) c.args.bytes.now,
      length_rest (c.in_ok-b.second + 1) (rest_from (c.in_ok-a.first + 1) c.args.bytes.now),
    ))
    c.in_ok-a.ensures.group c.in_ok-a.ensures.end c.in_ok-b.ensures.group c.in_ok-b.ensures.end c.in_ok-c.ensures.group
    c.in_ok-c.ensures.end c.in_ok-d.ensures.group c.in_ok-d.ensures.end c.if-fifth_on-ne58.false
