use Rattle.std.proofs.Common.{Some}
use Rattle.netset_words.specs.Places.{IsAroundColon, IsAtColon, IsOfMechanism}
use Rattle.netset_words.proofs.Cases.{match_none}
use Rattle.netset_words.proofs.PlaceLaws.{cut_finds, else_first, else_second, no_cut, none_found}
use Rattle.netset_words.proofs.place.at_colon.Goals as goal

pub returns-in_default : goal.returns-in_default
returns-in_default c =
    no_cut c.args.grammar 58 (IsAtColon c.args.grammar) c.args.text.now
    (match_none c.cut_at.result _ _ c.cut_at.ensures c.in_default.not-Some)

pub returns-in-Some-of_mechanism : goal.returns-in-Some-of_mechanism
returns-in-Some-of_mechanism c =
    let g = c.args.grammar in
    let front = c.in-Some.parts.front.now in
    let back = c.in-Some.parts.back.now in
    let place = c.in-Some-of_mechanism.place in
    cut_finds g 58 (IsAtColon g) c.args.text.now front back (Some place) c.in-Some.ensures
    (else_first g (IsOfMechanism g front back) (IsAroundColon g front back) place c.in-Some-of_mechanism.ensures)

pub returns : goal.returns
returns c =
    let g = c.args.grammar in
    let front = c.in-Some.parts.front.now in
    let back = c.in-Some.parts.back.now in
    let r = c.around_colon.result in
    cut_finds g 58 (IsAtColon g) c.args.text.now front back r c.in-Some.ensures
    (else_second g (IsOfMechanism g front back) (IsAroundColon g front back) r
    (none_found g (IsOfMechanism g front back) c.of_mechanism.result c.of_mechanism.ensures
    c.in_default-of_mechanism.not-Some) c.around_colon.ensures)
