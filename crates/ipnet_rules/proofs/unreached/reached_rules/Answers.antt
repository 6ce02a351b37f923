-- Sorting keeps the owners of both families.
use Rattle.std.proofs.Common.{◌≡◌, ◌++◌, Contains, ap₂, subst, sym, ◌∙◌, inl, inr}
use Rattle.std.proofs.lemmas.List.Elements.{Contains-append_left, Contains-append_right, Contains-append_cases}
use Rattle.std.proofs.lemmas.List.Sorted.{Contains-permutation, IsPermutation-sym, IsNonDecreasingBy-from_sort}
use Rattle.ipnet_rules.proofs.unreached.reached_rules.Goals as goal

pub returns-clause-ascending : goal.returns-clause-ascending
returns-clause-ascending c = IsNonDecreasingBy-from_sort (λ n. n) _ c.sort_unstable.ensures.sorted

pub returns-clause-members : goal.returns-clause-members
returns-clause-members c place =
    let first = c.args.ipv4.now.owners.items in
    let second = c.args.ipv6.now.owners.items in
    let both : c.extend_from_slice-2.new.self.items ≡ first ++ second =
    c.in_ok-extend_from_slice-2.ensures.items ∙ ap₂ (λ xs ys. xs ++ ys) (c.in_ok-extend_from_slice.ensures.items
    ∙ ap₂ (λ xs ys. xs ++ ys) c.new-reached.ensures.items c.as_slice.ensures.value) c.as_slice-2.ensures.value in
    let moved = c.sort_unstable.ensures.permutation in (
      λ h. Contains-append_cases first second place (subst (λ l. Contains l place) both
          (Contains-permutation _ _ place (IsPermutation-sym _ _ moved) h)),
      λ h. Contains-permutation _ _ place moved (subst (λ l. Contains l place) (sym both) (elim h [
        | inl a ↦ Contains-append_left first second place a
        | inr b ↦ Contains-append_right first second place b
      ])),
    )
