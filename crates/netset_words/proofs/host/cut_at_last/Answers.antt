use Rattle.netset_words.proofs.PlaceBytes.{last_parts, no_last_parts}
use Rattle.netset_words.proofs.host.cut_at_last.Goals as goal

pub returns-in-Some : goal.returns-in-Some
returns-in-Some c =
    last_parts c.args.sign c.args.text.now c.in-Some.index c.in-Some.ensures.0 c.in-Some.ensures.1

pub returns-in-None : goal.returns-in-None
returns-in-None c = no_last_parts c.args.sign c.args.text.now c.in-None.ensures
