use Rattle.std.proofs.Common.{◌↔◌, sym, subst}
use Rattle.ipnet_base.specs.Address.{Address, IsAddress}
use Rattle.ipnet_sets.specs.Members.{IsMember}
use Rattle.netset_lib.specs.declared.answerer.Answerer.TheVariants as Answerers
use Rattle.netset_lib.specs.Answering.{IsAnswererFor}
use Rattle.netset_lib.specs.Filters.{IsOnSide}
use Rattle.ipnet_lists.specs.Lists.{HaveAddresses, IsInEntries}
use Rattle.ipnet_lists.specs.Reading.{WasMadeOf}
use Rattle.netset_lib.proofs.FilterLaws.{side_same}
use Rattle.ipnet_lists.proofs.MadeLaws.{made_weaker}
use Rattle.netset_lib.proofs.answerer.read_answerer.Goals as goal

pub returns-in_ok-side_set-in-Filter : goal.returns-in_ok-side_set-in-Filter
returns-in_ok-side_set-in-Filter g c =
    let left = g.R.Read.remaining c.args.input.now in
    let left_after = g.R.Read.remaining c.read_set.new.input in
    let old = c.args.reading.now in
    let new = c.read_set.new.reading in
    let set = c.in_ok-set-in-Filter.set in
    let wanted = c.in_ok-side_set-in-Filter.field-0 in
    let side = c.in-Filter.side in
    subst (λ q. WasMadeOf left left_after old new (IsAnswererFor q (Answerers.Filter wanted))) (sym c.in-Filter.is)
    (made_weaker left left_after old new (HaveAddresses (IsMember set))
    (λ first. (x : Address) → IsAddress x → IsMember wanted x ↔ IsOnSide side (IsInEntries first) x)
    c.in_ok-set-in-Filter.ensures
    (λ first same x fits.
    let sides = side_same side (IsMember set) (IsInEntries first) x (same x) in
    let on = c.in_ok-side_set-in-Filter.ensures x fits in
    (λ m. sides.0 (on.0 m), λ o. on.1 (sides.1 o))))
