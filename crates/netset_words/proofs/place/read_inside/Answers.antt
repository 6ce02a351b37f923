use Rattle.std.proofs.Common.{Some}
use Rattle.netset_words.specs.Places.{IsBeforeLastPort, IsAtDot}
use Rattle.netset_words.specs.WordSteps.{word_of}
use Rattle.netset_words.proofs.PlaceLaws.{ByUser, BySlash, ByColon, AfterUser, AfterSlash, AfterColon}
use Rattle.netset_words.proofs.PlaceLaws.{else_first, else_second, inside_so, none_found}
use Rattle.netset_words.proofs.place.read_inside.Goals as goal

pub returns-in-Some : goal.returns-in-Some
returns-in-Some c =
    let g = c.args.grammar in
    let w = word_of c.args.word in
    let text = c.args.body.now in
    let place = c.in-Some.place in
    inside_so g w text c.requires (Some place)
    (else_first g (ByUser g text) (AfterUser g w text) place c.in-Some.ensures)

pub returns-in-Some-at_slash : goal.returns-in-Some-at_slash
returns-in-Some-at_slash c =
    let g = c.args.grammar in
    let w = word_of c.args.word in
    let text = c.args.body.now in
    let place = c.in-Some-at_slash.place in
    inside_so g w text c.requires (Some place)
    (else_second g (ByUser g text) (AfterUser g w text) (Some place)
    (none_found g (ByUser g text) c.at_user.result c.at_user.ensures c.in_default.not-Some)
    (else_first g (BySlash g w text) (AfterSlash g w text) place c.in-Some-at_slash.ensures))

pub returns-in-Some-at_colon : goal.returns-in-Some-at_colon
returns-in-Some-at_colon c =
    let g = c.args.grammar in
    let w = word_of c.args.word in
    let text = c.args.body.now in
    let place = c.in-Some-at_colon.place in
    inside_so g w text c.requires (Some place)
    (else_second g (ByUser g text) (AfterUser g w text) (Some place)
    (none_found g (ByUser g text) c.at_user.result c.at_user.ensures c.in_default.not-Some)
    (else_second g (BySlash g w text) (AfterSlash g w text) (Some place)
    (none_found g (BySlash g w text) c.at_slash.result c.at_slash.ensures c.in_default-at_slash.not-Some)
    (else_first g (ByColon g text) (AfterColon g w text) place c.in-Some-at_colon.ensures)))

pub returns-in-Some-before_last_port : goal.returns-in-Some-before_last_port
returns-in-Some-before_last_port c =
    let g = c.args.grammar in
    let w = word_of c.args.word in
    let text = c.args.body.now in
    let place = c.in-Some-before_last_port.place in
    inside_so g w text c.requires (Some place)
    (else_second g (ByUser g text) (AfterUser g w text) (Some place)
    (none_found g (ByUser g text) c.at_user.result c.at_user.ensures c.in_default.not-Some)
    (else_second g (BySlash g w text) (AfterSlash g w text) (Some place)
    (none_found g (BySlash g w text) c.at_slash.result c.at_slash.ensures c.in_default-at_slash.not-Some)
    (else_second g (ByColon g text) (AfterColon g w text) (Some place)
    (none_found g (ByColon g text) c.at_colon.result c.at_colon.ensures c.in_default-at_colon.not-Some)
    (else_first g (IsBeforeLastPort g text) (IsAtDot g w) place c.in-Some-before_last_port.ensures))))

pub returns : goal.returns
returns c =
    let g = c.args.grammar in
    let w = word_of c.args.word in
    let text = c.args.body.now in
    let r = c.at_dot.result in
    inside_so g w text c.requires r
    (else_second g (ByUser g text) (AfterUser g w text) r
    (none_found g (ByUser g text) c.at_user.result c.at_user.ensures c.in_default.not-Some)
    (else_second g (BySlash g w text) (AfterSlash g w text) r
    (none_found g (BySlash g w text) c.at_slash.result c.at_slash.ensures c.in_default-at_slash.not-Some)
    (else_second g (ByColon g text) (AfterColon g w text) r
    (none_found g (ByColon g text) c.at_colon.result c.at_colon.ensures c.in_default-at_colon.not-Some)
    (else_second g (IsBeforeLastPort g text) (IsAtDot g w) r
    (none_found g (IsBeforeLastPort g text) c.before_last_port.result c.before_last_port.ensures
    c.in_default-before_last_port.not-Some) c.at_dot.ensures))))
