use Rattle.netset_words.proofs.PlaceLaws.{parts_at, parts_nowhere}
use Rattle.netset_words.proofs.host.cut_at.Goals as goal

pub returns-in-Some : goal.returns-in-Some
returns-in-Some c = parts_at c.args.sign c.args.text.now c.in-Some.index c.in-Some.ensures.0 c.in-Some.ensures.1

pub returns-in-None : goal.returns-in-None
returns-in-None c = parts_nowhere c.args.sign c.args.text.now c.in-None.ensures
