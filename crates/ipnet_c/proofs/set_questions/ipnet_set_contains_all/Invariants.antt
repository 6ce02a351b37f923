-- Each byte before the index has the answer for the address with the same index.
use Rattle.ipnet_c.proofs.SetQuestionReplies.{AreAnsweredTo}
use Rattle.ipnet_c.proofs.set_questions.ipnet_set_contains_all.Given as goal

abbrev pub invariant-loop-index : goal.invariant-loop-index
invariant-loop-index l = AreAnsweredTo l.image.bytes.now l.addresses l.width l.index l.fn.answers l.answers
