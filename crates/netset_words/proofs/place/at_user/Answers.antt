use Rattle.std.proofs.Common.{Some}
use Rattle.netset_words.specs.Places.{IsAtUser, IsHost, IsBeforePort}
use Rattle.netset_words.proofs.Cases.{match_none}
use Rattle.netset_words.proofs.PlaceLaws.{cut_finds, no_cut, none_found, or_first, or_second}
use Rattle.netset_words.proofs.place.at_user.Goals as goal

pub returns-in_default : goal.returns-in_default
returns-in_default c =
    no_cut c.args.grammar 64 (IsAtUser c.args.grammar) c.args.text.now
    (match_none c.cut_at.result _ _ c.cut_at.ensures c.in_default.not-Some)

pub returns-in-Some-read_host : goal.returns-in-Some-read_host
returns-in-Some-read_host c =
    let g = c.args.grammar in
    let front = c.in-Some.parts.front.now in
    let back = c.in-Some.parts.back.now in
    let place = c.in-Some-read_host.place in
    cut_finds g 64 (IsAtUser g) c.args.text.now front back (Some place) c.in-Some.ensures
    (or_first g (IsHost g back) (λ z. IsBeforePort g z front back) place c.in-Some-read_host.ensures)

pub returns : goal.returns
returns c =
    let g = c.args.grammar in
    let front = c.in-Some.parts.front.now in
    let back = c.in-Some.parts.back.now in
    cut_finds g 64 (IsAtUser g) c.args.text.now front back c.before_port.result c.in-Some.ensures
    (or_second g (IsHost g back) (λ z. IsBeforePort g z front back) c.before_port.result
    (none_found g (IsHost g back) c.read_host.result c.read_host.ensures
    c.in_default-read_host.not-Some) c.before_port.ensures)
