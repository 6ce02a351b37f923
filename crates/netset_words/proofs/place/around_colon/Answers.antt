use Rattle.std.proofs.Common.{◌≡◌, true, false, sym, ◌∙◌}
use Rattle.netset_words.specs.Places.{IsBefore, IsHost, is_name}
use Rattle.netset_words.proofs.PlaceLaws.{only_first, or_second, with_so}
use Rattle.netset_words.proofs.place.around_colon.Goals as goal

pub returns-then-not-is_name : goal.returns-then-not-is_name
returns-then-not-is_name c =
    let g = c.args.grammar in
    let front = c.args.parts.front.now in
    let back = c.args.parts.back.now in
    let other : is_name front ≡ false = sym c.is_name.ensures ∙ c.if-not-is_name.true in
    only_first g (λ z. (is_name front ≡ false) × IsBefore g z front back)
    (λ z. (is_name front ≡ true) × IsHost g back z) c.read_ipv4.result
    (λ place is. let clash : true ≡ false = sym is.0 ∙ other in absurd cc)
    (with_so g (is_name front ≡ false) (λ z. IsBefore g z front back) c.read_ipv4.result other c.read_ipv4.ensures)

pub returns : goal.returns
returns c =
    let g = c.args.grammar in
    let front = c.args.parts.front.now in
    let back = c.args.parts.back.now in
    let so : is_name front ≡ true = sym c.is_name.ensures ∙ c.if-not-is_name.false in
    or_second g (λ z. (is_name front ≡ false) × IsBefore g z front back)
    (λ z. (is_name front ≡ true) × IsHost g back z) c.read_host.result
    (λ place is. let clash : true ≡ false = sym so ∙ is.0 in absurd cc)
    (with_so g (is_name front ≡ true) (IsHost g back) c.read_host.result so c.read_host.ensures)
