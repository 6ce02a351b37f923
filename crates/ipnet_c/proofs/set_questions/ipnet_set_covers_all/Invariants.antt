-- Each byte before the index is the answer for the network with the same index.
use Rattle.ipnet_c.proofs.SetQuestionReplies.{AreCoversOf}
use Rattle.ipnet_c.proofs.set_questions.ipnet_set_covers_all.Given as goal

abbrev pub invariant-loop-index : goal.invariant-loop-index
invariant-loop-index l = AreCoversOf l.image.bytes.now l.networks l.width l.index l.fn.answers l.answers
