use Rattle.netset_words.specs.Places.{IsBeforePort}
use Rattle.netset_words.proofs.PlaceLaws.{cut_finds, no_cut}
use Rattle.netset_words.proofs.host.before_slash_port.Goals as goal

pub returns-in-Some : goal.returns-in-Some
returns-in-Some c =
    cut_finds c.args.grammar 47 (IsBeforePort c.args.grammar) c.args.text.now c.in-Some.parts.front.now
    c.in-Some.parts.back.now c.before_port.result c.in-Some.ensures c.before_port.ensures

pub returns-in-None : goal.returns-in-None
returns-in-None c = no_cut c.args.grammar 47 (IsBeforePort c.args.grammar) c.args.text.now c.in-None.ensures
