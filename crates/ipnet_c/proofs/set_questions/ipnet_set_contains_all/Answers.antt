-- Each turn writes the answer for one more address.
use Rattle.std.proofs.Common.{refl, subst, arith}
use Rattle.ipnet_sets.specs.Images.{HasHeader}
use Rattle.ipnet_c.proofs.SetQuestionReplies.{AreAnsweredTo, answered_more, answered_all}
use Rattle.ipnet_c.proofs.set_questions.ipnet_set_contains_all.Goals as goal

pub loop-index-init : goal.loop-index-init
loop-index-init c = record { as_many = refl; done = λ i less. absurd (omega arith) }

pub loop-index-preserved : goal.loop-index-preserved
loop-index-preserved c =
    answered_more c.in-Ok.image.bytes.now c.args.addresses.now c.args.width c.loop-index.index c.args.answers.now
    c.loop-index.answers c.answer.result c.loop-index.invariant
    (omega (arith, c.loop-index-test.true, c.loop-index.auto.answers)) c.answer.ensures

pub returns : goal.returns
returns c =
    let same = c.in-Ok.ensures in
    answered_all c.args.set.now c.args.addresses.now c.args.width c.loop-index.index c.args.answers.now
    c.loop-index.answers (subst HasHeader same c.in-Ok.image.header)
    (c.are_items.ensures.0 (c.if-not-are_items.false))
    (subst (λ z. AreAnsweredTo z c.args.addresses.now c.args.width c.loop-index.index c.args.answers.now
    c.loop-index.answers) same c.loop-index.invariant)
    (omega (arith, c.loop-index-test.false))
