-- Sorting keeps the entries, and two with the same place are side by side.
use Rattle.std.proofs.Common.{◌≡◌, All, None, map, refl, sym, subst, inr, rules}
use Rattle.std.proofs.lemmas.List.Sorted.{IsPermutation-map, IsNonDecreasingBy-from_sort_by_key}
use Rattle.std.proofs.lemmas.Map.Views.{All-map-IsPermutation}
use Rattle.netset_lib.specs.PrefixEntries.{AreSideBySide, place_of}
use Rattle.netset_lib.specs.PrefixEntryOf.{entry_of}
use Rattle.netset_lib.proofs.PrefixChoiceLaws.{AreApart, rising}
use Rattle.netset_lib.proofs.prefix_choice.ordered_entries.Goals as goal

pub same_number-requires : goal.same_number-requires
same_number-requires c =
    subst (λ z. All (λ e. e.number ≡ None → ⊥) (map entry_of z)) (sym c.as_slice-3.ensures.value)
    (All-map-IsPermutation entry_of (λ e. e.number ≡ None → ⊥) c.args.entries.items _
    c.sort_unstable_by_key.ensures.permutation
    (subst (λ z. All (λ e. e.number ≡ None → ⊥) (map entry_of z)) c.as_slice-2.ensures.value
    (c.all_numbered.ensures.0 c.if-not-all_numbered.false)))

pub returns-in-Some-clause-fault : goal.returns-in-Some-clause-fault
returns-in-Some-clause-fault c = (
  subst (λ z. All (λ e. e.number ≡ None → ⊥) (map entry_of z)) c.as_slice-2.ensures.value
      (c.all_numbered.ensures.0 c.if-not-all_numbered.false),
  (
    map entry_of c.sort_unstable_by_key.new.self.items,
    IsPermutation-map entry_of c.args.entries.items _ c.sort_unstable_by_key.ensures.permutation,
    subst (λ z. AreSideBySide (map entry_of z) c.in-Some.number) c.as_slice-3.ensures.value c.in-Some.ensures.some,
  ),
)

pub returns-clause-ordered : goal.returns-clause-ordered
returns-clause-ordered c = inr (
  subst (λ z. All (λ e. e.number ≡ None → ⊥) (map entry_of z)) c.as_slice-2.ensures.value
      (c.all_numbered.ensures.0 c.if-not-all_numbered.false),
  IsPermutation-map entry_of c.args.entries.items _ c.sort_unstable_by_key.ensures.permutation,
  rising c.sort_unstable_by_key.new.self.items
      (IsNonDecreasingBy-from_sort_by_key (λ e. place_of (entry_of e)) _ c.sort_unstable_by_key.ensures.sorted
      (λ a r q k. search rules))
      (subst AreApart c.as_slice-3.ensures.value (c.in-None.ensures.none refl)),
)
