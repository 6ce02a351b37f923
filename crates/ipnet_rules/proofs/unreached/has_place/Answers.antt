-- The search finds the place if the list has it.
use Rattle.std.proofs.Common.{◌≡◌, ◌↔◌, true, Contains, subst, sym}
use Rattle.std.proofs.lemmas.List.Sorted.{searched}
use Rattle.ipnet_rules.proofs.UnreachedLaws.{found_or_not}
use Rattle.ipnet_rules.proofs.unreached.has_place.Goals as goal

pub returns : goal.returns
returns c = λ ascending.
    subst (λ b. (b ≡ true) ↔ Contains c.args.reached.now c.args.place) (sym c.is_ok.ensures.value)
    (found_or_not c.args.reached.now c.args.place c.binary_search.result
    (searched c.args.reached.now c.args.place c.binary_search.result c.binary_search.ensures.position
    (λ i j le within. ascending i j 0 le within)))
