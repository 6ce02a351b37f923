-- The sort is stable, and its key is a function of the place.
use Rattle.std.proofs.Common.{rules, of_calls}
use Rattle.std.proofs.lemmas.Fn.{always_returns_same}
use Rattle.std.proofs.lemmas.Result.{on_ok_weaker}
use Rattle.netset_entries.specs.SelectSteps.{key_of, range_at}
use Rattle.netset_entries.proofs.SortLaws.{places_sorted}
use Rattle.netset_entries.proofs.selected.sort_places.Goals as goal

pub returns : goal.returns
returns c =
    let old = c.args.places.now.items in
    let new = c.sort_by_key.new.self.items in
    on_ok_weaker c.sort_by_key.result
    (λ ascending text. (
      places_sorted text old new c.sort_by_key.ensures.permutation
          (ascending (λ p. key_of (range_at p)) (always_returns_same _ _ _ (λ a r f k. search (rules, of_calls))))
          (c.sort_by_key.ensures.stable (λ p. key_of (range_at p))
          (always_returns_same _ _ _ (λ a r f k. search (rules, of_calls)))),
      c.sort_by_key.ensures.permutation,
    ))
    c.sort_by_key.ensures.sorted
