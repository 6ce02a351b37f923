use Rattle.std.proofs.Common.{◌≡◌, true, false, sym, ◌∙◌}
use Rattle.netset_words.specs.Places.{IsMechanism, IsWhole}
use Rattle.netset_words.proofs.PlaceLaws.{with_so}
use Rattle.netset_words.proofs.place.of_mechanism.Goals as goal

pub returns-then-not-is_mechanism : goal.returns-then-not-is_mechanism
returns-then-not-is_mechanism c = λ place is.
    let clash : true ≡ false = sym (c.is_mechanism.ensures.1 is.0) ∙ c.if-not-is_mechanism.true in
    absurd cc

pub returns : goal.returns
returns c =
    let front = c.args.parts.front.now in
    let back = c.args.parts.back.now in
    with_so c.args.grammar (IsMechanism front) (IsWhole c.args.grammar back) c.read_whole.result
    (c.is_mechanism.ensures.0 c.if-not-is_mechanism.false) c.read_whole.ensures
