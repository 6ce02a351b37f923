-- Each turn writes eight bytes more, and then one.
use Rattle.std.proofs.Common.{◌≡◌, ◌+◌, ◌*◌, subst, arith}
use Rattle.ipnet_c.proofs.ColumnLaws.{AreRightTo, IsNumberAnswer, right_eight, right_more}
use Rattle.ipnet_c.proofs.bulk_numbers.ipnet_set_contains_u32.Goals as goal

pub loop-eight-preserved : goal.loop-eight-preserved
loop-eight-preserved c =
    let answer = IsNumberAnswer c.in-Ok.image.bytes.now c.args.addresses.now in
    let next : c.loop-eight.eight * 8 + 8 ≡ (c.loop-eight.eight + 1) * 8 = omega arith in
    subst (λ z. AreRightTo answer z c.args.answers.now c.answer_eight.new.answers) next
    (right_eight answer (c.loop-eight.eight * 8) c.args.answers.now c.loop-eight.answers c.answer_eight.new.answers
    c.loop-eight.invariant c.answer_eight.ensures.as_many c.answer_eight.ensures.done c.answer_eight.ensures.before)

pub loop-index-preserved : goal.loop-index-preserved
loop-index-preserved c =
    right_more (IsNumberAnswer c.in-Ok.image.bytes.now c.args.addresses.now) c.loop-index.index c.args.answers.now
    c.loop-index.answers c.number_answer.result c.loop-index.invariant
    (omega (arith, c.loop-index-test.true, c.loop-index.auto.answers)) c.number_answer.ensures
