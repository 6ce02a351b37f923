use Rattle.std.proofs.Common.{◌≡◌, true, false, sym, ◌∙◌}
use Rattle.netset_words.specs.Places.{IsOnlyAddress, IsPort}
use Rattle.netset_words.proofs.PlaceLaws.{with_so_after}
use Rattle.netset_words.proofs.host.before_port.Goals as goal

pub returns-then-not-is_port : goal.returns-then-not-is_port
returns-then-not-is_port c = λ place is.
    let clash : true ≡ false = sym (c.is_port.ensures.1 is.1) ∙ c.if-not-is_port.true in
    absurd cc

pub returns : goal.returns
returns c =
    with_so_after c.args.grammar (IsPort c.args.back.now) (IsOnlyAddress c.args.grammar c.args.front.now)
    c.read_address.result (c.is_port.ensures.0 c.if-not-is_port.false)
    c.read_address.ensures
