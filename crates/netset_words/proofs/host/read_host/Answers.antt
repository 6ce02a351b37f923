use Rattle.std.proofs.Common.{Some, subst}
use Rattle.netset_words.specs.Places.{IsOnlyAddress, IsBeforeLastPort, IsOnlyIpv4}
use Rattle.netset_words.specs.PlaceSteps.{Finds, IsFound}
use Rattle.netset_words.proofs.PlaceLaws.{BySlashPort, BySign, AfterAddress, AfterSign}
use Rattle.netset_words.proofs.PlaceLaws.{else_first, else_second, none_found, or_first, or_second}
use Rattle.netset_words.proofs.host.read_host.Goals as goal

pub returns-in-Some : goal.returns-in-Some
returns-in-Some c =
    let g = c.args.grammar in
    let text = c.args.text.now in
    else_first g (IsOnlyAddress g text) (AfterAddress g text) c.in-Some.place c.in-Some.ensures

pub returns-in-Some-read_ipv4 : goal.returns-in-Some-read_ipv4
returns-in-Some-read_ipv4 c =
    let g = c.args.grammar in
    let text = c.args.text.now in
    let place = c.in-Some-read_ipv4.place in
    else_second g (IsOnlyAddress g text) (AfterAddress g text) (Some place)
    (none_found g (IsOnlyAddress g text) c.read_address.result c.read_address.ensures c.in_default.not-Some)
    (or_first g (BySign g text) (AfterSign g text) place
    (subst (λ z. IsFound g (IsOnlyIpv4 g z) place) c.before_sign.ensures c.in-Some-read_ipv4.ensures))

pub returns-in-Some-before_slash_port : goal.returns-in-Some-before_slash_port
returns-in-Some-before_slash_port c =
    let g = c.args.grammar in
    let text = c.args.text.now in
    let place = c.in-Some-before_slash_port.place in
    else_second g (IsOnlyAddress g text) (AfterAddress g text) (Some place)
    (none_found g (IsOnlyAddress g text) c.read_address.result c.read_address.ensures c.in_default.not-Some)
    (or_second g (BySign g text) (AfterSign g text) (Some place)
    (none_found g (BySign g text) c.read_ipv4.result
    (subst (λ z. Finds g (IsOnlyIpv4 g z) c.read_ipv4.result) c.before_sign.ensures c.read_ipv4.ensures)
    c.in_default-read_ipv4.not-Some)
    (or_first g (BySlashPort g text) (IsBeforeLastPort g text) place c.in-Some-before_slash_port.ensures))

pub returns : goal.returns
returns c =
    let g = c.args.grammar in
    let text = c.args.text.now in
    let r = c.before_last_port.result in
    else_second g (IsOnlyAddress g text) (AfterAddress g text) r
    (none_found g (IsOnlyAddress g text) c.read_address.result c.read_address.ensures c.in_default.not-Some)
    (or_second g (BySign g text) (AfterSign g text) r
    (none_found g (BySign g text) c.read_ipv4.result
    (subst (λ z. Finds g (IsOnlyIpv4 g z) c.read_ipv4.result) c.before_sign.ensures c.read_ipv4.ensures)
    c.in_default-read_ipv4.not-Some)
    (or_second g (BySlashPort g text) (IsBeforeLastPort g text) r
    (none_found g (BySlashPort g text) c.before_slash_port.result c.before_slash_port.ensures
    c.in_default-before_slash_port.not-Some) c.before_last_port.ensures))
