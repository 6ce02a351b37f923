use Rattle.netset_words.proofs.Cases.{match_none}
use Rattle.netset_words.proofs.PlaceLaws.{last_port_finds}
use Rattle.netset_words.proofs.host.before_last_port.Goals as goal

pub returns-in_default : goal.returns-in_default
returns-in_default c = λ place is.
    match_none c.cut_at_last.result _ _ c.cut_at_last.ensures c.in_default.not-Some place is.port is.parts

pub returns : goal.returns
returns c =
    last_port_finds c.args.grammar c.args.text.now c.in-Some.parts.front.now c.in-Some.parts.back.now
    c.before_port.result c.in-Some.ensures c.before_port.ensures
