use Rattle.std.proofs.Common.{subst, Some}
use Rattle.netset_words.specs.Places.{Else, IsInside, IsWhole, trimmed}
use Rattle.netset_words.specs.PlaceSteps.{Finds}
use Rattle.netset_words.specs.WordSteps.{word_of}
use Rattle.netset_words.proofs.PlaceLaws.{else_first, else_second, none_found}
use Rattle.netset_words.proofs.Separators.{no_place_without}
use Rattle.netset_words.proofs.place.read_place.Goals as goal

pub returns-then-not-has_signs : goal.returns-then-not-has_signs
returns-then-not-has_signs c =
    no_place_without c.args.grammar (word_of c.args.word) (c.has_signs.ensures c.if-not-has_signs.true)

pub returns-in-Some : goal.returns-in-Some
returns-in-Some c =
    let g = c.args.grammar in
    let w = word_of c.args.word in
    else_first g (IsWhole g w.text) (Else (IsWhole g (trimmed w.text)) (IsInside g w)) c.in-Some.place c.in-Some.ensures

pub read_trimmed-requires-clause-none : goal.read_trimmed-requires-clause-none
read_trimmed-requires-clause-none c =
    none_found c.args.grammar (IsWhole c.args.grammar c.args.word.text.now) c.read_whole.result c.read_whole.ensures
    c.in_default.not-Some

pub returns-in-Some-read_trimmed : goal.returns-in-Some-read_trimmed
returns-in-Some-read_trimmed c =
    let g = c.args.grammar in
    let w = word_of c.args.word in
    let place = c.in-Some-read_trimmed.place in
    else_second g (IsWhole g w.text) (Else (IsWhole g (trimmed w.text)) (IsInside g w)) (Some place)
    (none_found g (IsWhole g w.text) c.read_whole.result c.read_whole.ensures c.in_default.not-Some)
    (else_first g (IsWhole g (trimmed w.text)) (IsInside g w) place
    (subst (λ z. Finds g (IsWhole g z) (Some place)) c.trim-body.ensures c.in-Some-read_trimmed.ensures))

pub returns : goal.returns
returns c =
    let g = c.args.grammar in
    let w = word_of c.args.word in
    let r = c.read_inside.result in
    else_second g (IsWhole g w.text) (Else (IsWhole g (trimmed w.text)) (IsInside g w)) r
    (none_found g (IsWhole g w.text) c.read_whole.result c.read_whole.ensures c.in_default.not-Some)
    (else_second g (IsWhole g (trimmed w.text)) (IsInside g w) r
    (none_found g (IsWhole g (trimmed w.text)) c.read_trimmed.result
    (subst (λ z. Finds g (IsWhole g z) c.read_trimmed.result) c.trim-body.ensures c.read_trimmed.ensures)
    c.in_default-read_trimmed.not-Some) c.read_inside.ensures)
