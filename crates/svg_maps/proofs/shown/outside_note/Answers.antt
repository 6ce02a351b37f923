use Rattle.std.proofs.Common.{◌≡◌, ◌∙◌, sym, string_bytes}
use Rattle.std.proofs.lemmas.Result.{IfOk-weaker}
use Rattle.ipnet_base.proofs.ResultLaws.{false_gives}
use Rattle.ipnet_bars.specs.Parts.{counted}
use Rattle.svg_maps.specs.Legends.{outside_line, outside_note}
use Rattle.svg_maps.proofs.LegendLaws.{none_outside, some_outside}
use Rattle.svg_maps.proofs.shown.outside_note.Goals as goal

pub returns-then-are_none : goal.returns-then-are_none
returns-then-are_none c =
    c.new.ensures.bytes
    ∙ sym (none_outside c.args.ipv4 (counted c.args.ipv6) (c.are_none.ensures.0 c.if-are_none.true))

pub returns : goal.returns
returns c =
    let ipv4 = c.args.ipv4 in
    let ipv6 = counted c.args.ipv6 in
    let some = false_gives c.are_none.result c.are_none.ensures c.if-are_none.false in
    IfOk-weaker c.outside_line.result (λ note. string_bytes note ≡ outside_line ipv4 ipv6)
    (λ note. string_bytes note ≡ outside_note ipv4 ipv6) (λ note e. e ∙ sym (some_outside ipv4 ipv6 some))
    c.outside_line.ensures
