use Rattle.std.proofs.Common.{Some}
use Rattle.netset_words.specs.Places.{IsAtSlash, IsAfterSlash, IsBeforePort}
use Rattle.netset_words.specs.WordSteps.{word_of}
use Rattle.netset_words.proofs.Cases.{match_none}
use Rattle.netset_words.proofs.PlaceLaws.{AtSlashFirst, ToPath, cut_finds, else_first, else_second, no_cut, none_found}
use Rattle.netset_words.proofs.PlaceLaws.{none_of_two, or_first, or_second}
use Rattle.netset_words.proofs.place.at_slash.Goals as goal

pub returns-in_default : goal.returns-in_default
returns-in_default c =
    no_cut c.args.grammar 47 (IsAtSlash c.args.grammar (word_of c.args.word)) c.args.text.now
    (match_none c.cut_at.result _ _ c.cut_at.ensures c.in_default.not-Some)

pub returns-in-Some-before_port : goal.returns-in-Some-before_port
returns-in-Some-before_port c =
    let g = c.args.grammar in
    let w = word_of c.args.word in
    let front = c.in-Some.parts.front.now in
    let back = c.in-Some.parts.back.now in
    let place = c.in-Some-before_port.place in
    cut_finds g 47 (IsAtSlash g w) c.args.text.now front back (Some place) c.in-Some.ensures
    (else_first g (AtSlashFirst g w front back) (ToPath g front back) place
    (or_first g (λ z. IsBeforePort g z front back) (λ z. IsAfterSlash g w z front back) place
    c.in-Some-before_port.ensures))

pub returns-in-Some-after_slash : goal.returns-in-Some-after_slash
returns-in-Some-after_slash c =
    let g = c.args.grammar in
    let w = word_of c.args.word in
    let front = c.in-Some.parts.front.now in
    let back = c.in-Some.parts.back.now in
    let place = c.in-Some-after_slash.place in
    cut_finds g 47 (IsAtSlash g w) c.args.text.now front back (Some place) c.in-Some.ensures
    (else_first g (AtSlashFirst g w front back) (ToPath g front back) place
    (or_second g (λ z. IsBeforePort g z front back) (λ z. IsAfterSlash g w z front back) (Some place)
    (none_found g (λ z. IsBeforePort g z front back) c.before_port.result c.before_port.ensures
    c.in_default-before_port.not-Some) c.in-Some-after_slash.ensures))

pub returns : goal.returns
returns c =
    let g = c.args.grammar in
    let w = word_of c.args.word in
    let front = c.in-Some.parts.front.now in
    let back = c.in-Some.parts.back.now in
    let r = c.before_path.result in
    cut_finds g 47 (IsAtSlash g w) c.args.text.now front back r c.in-Some.ensures
    (else_second g (AtSlashFirst g w front back) (ToPath g front back) r
    (none_of_two g (λ z. IsBeforePort g z front back) (λ z. IsAfterSlash g w z front back)
    (none_found g (λ z. IsBeforePort g z front back) c.before_port.result c.before_port.ensures
    c.in_default-before_port.not-Some)
    (none_found g (λ z. IsAfterSlash g w z front back) c.after_slash.result c.after_slash.ensures
    c.in_default-after_slash.not-Some)) c.before_path.ensures)
