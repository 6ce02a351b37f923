use Rattle.netset_origins.proofs.AnswerLaws.{IsWhySoFar}
use Rattle.netset_origins.proofs.answer.push_vrps.Given as goal

abbrev pub invariant-loop-vrp : goal.invariant-loop-vrp
invariant-loop-vrp l = IsWhySoFar l.vrps l.vrp-index l.fn.text.items l.text.items l.last.items
