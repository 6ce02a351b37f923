use Rattle.std.proofs.Common.{◌≡◌, true, false, sym, ◌∙◌, Some}
use Rattle.netset_words.specs.Places.{IsOnlyAddress, have_colons, is_path}
use Rattle.netset_words.proofs.PlaceLaws.{none_found, with_both_after}
use Rattle.netset_words.proofs.host.before_path.Goals as goal

pub returns-in_default : goal.returns-in_default
returns-in_default c = λ place is.
    none_found c.args.grammar (IsOnlyAddress c.args.grammar c.args.front.now) c.read_address.result
    c.read_address.ensures c.in_default.not-Some place is.0

pub returns-then-not-is_path : goal.returns-then-not-is_path
returns-then-not-is_path c = λ place is.
    let (address, path, other) = is in
    let clash : true ≡ false = sym path ∙ sym c.is_path.ensures ∙ c.if-not-is_path.true in
    absurd cc

pub returns-then-have_colons : goal.returns-then-have_colons
returns-then-have_colons c = λ place is.
    let (address, path, other) = is in
    let clash : true ≡ false = sym c.if-have_colons.true ∙ c.have_colons.ensures ∙ other in
    absurd cc

pub returns : goal.returns
returns c =
    let front = c.args.front.now in
    let back = c.args.back.now in
    with_both_after c.args.grammar (is_path back ≡ true) (IsOnlyAddress c.args.grammar front)
    (have_colons front back ≡ false) (Some c.in-Some.place) (sym c.is_path.ensures ∙ c.if-not-is_path.false)
    (sym c.have_colons.ensures ∙ c.if-have_colons.false) c.in-Some.ensures
