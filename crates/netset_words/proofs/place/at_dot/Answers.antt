use Rattle.std.proofs.Common.{◌≡◌, true, false, sym, ◌∙◌, subst}
use Rattle.netset_words.specs.Places.{AreLastParts}
use Rattle.netset_words.specs.WordSteps.{word_of}
use Rattle.netset_words.proofs.Cases.{match_none}
use Rattle.netset_words.proofs.PlaceLaws.{dot_finds}
use Rattle.netset_words.proofs.place.at_dot.Goals as goal

pub returns-then-not-is_packet_end : goal.returns-then-not-is_packet_end
returns-then-not-is_packet_end c = λ place is.
    let clash : true ≡ false =
    sym (c.is_packet_end.ensures.1 is.packet) ∙ c.if-not-is_packet_end.true in
    absurd cc

pub returns-in_default : goal.returns-in_default
returns-in_default c = λ place is.
    match_none c.cut_at_last.result _ _ c.cut_at_last.ensures c.in_default.not-Some place is.port
    (subst (λ z. AreLastParts 46 z place is.port) (sym c.requires) is.parts)

pub returns : goal.returns
returns c =
    let front = c.in-Some.parts.front.now in
    let back = c.in-Some.parts.back.now in
    dot_finds c.args.grammar (word_of c.args.word) front back c.read_address.result
    (subst (λ z. AreLastParts 46 z front back) c.requires c.in-Some.ensures)
    (c.is_packet_end.ensures.0 c.if-not-is_packet_end.false) c.read_address.ensures
