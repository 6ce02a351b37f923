use Rattle.std.proofs.Common.{◌≡◌, ◌≢◌, ◌+◌, ◌++◌, ap, sym, ◌∙◌, subst, rules}
use Rattle.std.specs.Cmp.Lexicographic.{other_text}
use Rattle.netset_origins.specs.OriginAnswers.{vrp_part}
use Rattle.netset_origins.proofs.AnswerLaws.{IsWhySoFar, why_start, why_repeated, why_more, why_end}
use Rattle.netset_origins.proofs.answer.push_vrps.Goals as goal

pub loop-vrp-init : goal.loop-vrp-init
loop-vrp-init c =
    subst (IsWhySoFar c.args.vrps.now 0 c.args.text.now.items c.args.text.now.items) (sym c.new-last.ensures.items)
    (why_start c.args.vrps.now c.args.text.now.items)

pub loop-vrp-preserved-then-eq : goal.loop-vrp-preserved-then-eq
loop-vrp-preserved-then-eq c =
    let vrp = c.vrp-item.result in
    let same : vrp_part vrp ≡ c.loop-vrp.last.items = search rules in
    why_repeated c.args.vrps.now c.loop-vrp.vrp-index vrp c.args.text.now.items c.loop-vrp.text.items
    c.loop-vrp.last.items c.loop-vrp-test.true c.vrp-item.is c.loop-vrp.invariant same

pub loop-vrp-preserved : goal.loop-vrp-preserved
loop-vrp-preserved c =
    let vrp = c.vrp-item.result in
    let text = c.loop-vrp.text.items in
    let last = c.loop-vrp.last.items in
    let new = c.extend_from_slice.new.self.items in
    let is : c.in_ok-part.part.items ≡ vrp_part vrp = c.in_ok-part.ensures in
    let other : vrp_part vrp ≢ last = λ same.
    let both : c.as_slice.result.now ≡ c.as_slice-in-loop-vrp.result.now =
    c.as_slice.ensures.value ∙ is ∙ same ∙ sym c.as_slice-in-loop-vrp.ensures.value in
    other_text c.as_slice.result.now c.as_slice-in-loop-vrp.result.now (sym c.if-eq.false ∙ c.eq.ensures) both in
    let pushed : new ≡ text ++ vrp_part vrp =
    c.in_ok-extend_from_slice.ensures.items ∙ ap (λ z. text ++ z) (c.as_slice-in-loop-vrp-2.ensures.value ∙ is) in
    subst (IsWhySoFar c.args.vrps.now (c.loop-vrp.vrp-index + 1) c.args.text.now.items new) (sym is)
    (why_more c.args.vrps.now c.loop-vrp.vrp-index vrp c.args.text.now.items text last c.loop-vrp-test.true
    c.vrp-item.is c.loop-vrp.invariant new other pushed)

pub returns : goal.returns
returns c =
    why_end c.args.vrps.now c.loop-vrp.vrp-index c.args.text.now.items c.loop-vrp.text.items c.loop-vrp.last.items
    c.loop-vrp-test.false c.loop-vrp.invariant
