use Rattle.netset_words.specs.Places.{IsBefore}
use Rattle.netset_words.proofs.PlaceLaws.{cut_finds, no_cut}
use Rattle.netset_words.proofs.host.before_colon.Goals as goal

pub returns-in-Some : goal.returns-in-Some
returns-in-Some c =
    cut_finds c.args.grammar 58 (IsBefore c.args.grammar) c.args.text.now c.in-Some.parts.front.now
    c.in-Some.parts.back.now c.read_ipv4.result c.in-Some.ensures c.read_ipv4.ensures

pub returns-in-None : goal.returns-in-None
returns-in-None c = no_cut c.args.grammar 58 (IsBefore c.args.grammar) c.args.text.now c.in-None.ensures
