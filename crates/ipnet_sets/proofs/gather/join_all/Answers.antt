-- The sorted ranges are the same ranges.
use Rattle.std.proofs.Common.{◌≡◌, ◌↔◌, ◌≤◌, ℕ, true, map, sym, subst}
use Rattle.std.proofs.lemmas.Result.{IfOk-weaker}
use Rattle.std.proofs.lemmas.List.Sorted.{IsPermutation-sym}
use Rattle.std.specs.List.Sorted.{IsPermutation}
use Rattle.ipnet_base.specs.Address.{greatest_number}
use Rattle.ipnet_sets.specs.Gather.{IsInSomeRange}
use Rattle.ipnet_sets.specs.Boundaries.{is_inside}
use Rattle.ipnet_sets.proofs.JoinLaws.{any_permutation}
use Rattle.ipnet_sets.proofs.gather.join_all.Goals as goal

pub returns-clause-empty : goal.returns-clause-empty
returns-clause-empty g c = λ none.
    let number = g.T.Number.number in
    let given = c.args.ranges.items in
    let sorted = c.as_slice.result.now in
    let same : IsPermutation given sorted
    = subst (IsPermutation given) (sym c.as_slice.ensures.value) c.sort.ensures.same in
    c.join_sorted.ensures.empty (λ x le a. none x le (any_permutation (λ r. (number r.first ≤ x) × (x ≤ number r.last))
    sorted given (IsPermutation-sym given sorted same) a))

pub returns-clause-members : goal.returns-clause-members
returns-clause-members g c =
    let number = g.T.Number.number in
    let f = g.T.Number.family in
    let given = c.args.ranges.items in
    let sorted = c.as_slice.result.now in
    let same : IsPermutation given sorted
    = subst (IsPermutation given) (sym c.as_slice.ensures.value) c.sort.ensures.same in
    IfOk-weaker c.join_sorted.result
    (λ boundaries. (x : ℕ) → x ≤ greatest_number f → (is_inside (map number boundaries.items) x ≡ true)
    ↔ IsInSomeRange number sorted x)
    (λ boundaries. (x : ℕ) → x ≤ greatest_number f → (is_inside (map number boundaries.items) x ≡ true)
    ↔ IsInSomeRange number given x)
    (λ boundaries h x le. (
      λ e. any_permutation (λ r. (number r.first ≤ x) × (x ≤ number r.last)) sorted given
          (IsPermutation-sym given sorted same) ((h x le).0 e),
      λ a. (h x le).1 (any_permutation (λ r. (number r.first ≤ x) × (x ≤ number r.last)) given sorted same a),
    )) c.join_sorted.ensures.members
