-- The entry is added.
use Rattle.netset_lib.proofs.prefix_answer.PrefixReaderLineHandlerVecNamedRulePrefixCause.take.Goals as goal

pub returns-in_ok-push-in-Ok : goal.returns-in_ok-push-in-Ok
returns-in_ok-push-in-Ok c = (c.in-Ok.entry, c.in-Ok.ensures.entry, c.in_ok-push-in-Ok.ensures.items)
