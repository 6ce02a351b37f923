-- What an operation makes of sets, and of the lists that they were read from.
use Rattle.std.proofs.Common.{◌↔◌, List, [], ◌∷◌, All, inl, inr}
use Rattle.std.proofs.lemmas.List.Elements.{All-nil, All-cons, All-head, All-tail}
use Rattle.ipnet_base.specs.Address.{Address}
use Rattle.ipnet_sets.specs.declared.set.IpSet.{IpSet}
use Rattle.ipnet_sets.specs.Members.{IsMember}
use Rattle.ipnet_sets.proofs.SetRangeLaws.{any_cases, any_here, any_there}
use Rattle.netset_lib.specs.declared.operation.Families.{Families}
use Rattle.netset_lib.specs.declared.operation.Families.TheVariants.{Named, Ipv4, Ipv6, Both}
use Rattle.ipnet_lists.specs.Lists.{ListEntry, IsInEntries}
use Rattle.netset_lib.specs.ListSets.{HaveMembers}
use Rattle.ipnet_sets.specs.ManySets.{IsInSome, IsInEach}
use Rattle.netset_lib.specs.Operations.{ListOperation, Union, Intersection, Difference, SymmetricDifference, Complement}
use Rattle.netset_lib.specs.Operations.{IsInFirstAlone, IsInOneAlone, IsInComplement, IsInResult}
use Rattle.netset_lib.specs.Operations.{IsChosen}
use Rattle.ipnet_sets.proofs.ManyLaws.{some_none}

-- both ways at once
both : {A B C D : Type 0} → A ↔ B → C ↔ D → (A × C) ↔ (B × D)
both f g = (λ h. (f.0 h.0, g.0 h.1), λ h. (f.1 h.0, g.1 h.1))

nots : {A B : Type 0} → A ↔ B → (¬ A) ↔ (¬ B)
nots f = (λ h b. h (f.1 b), λ h a. h (f.0 a))

module _ (x : Address) where
  pub some_same : (sets : List IpSet) (lists : List (List ListEntry)) → HaveMembers sets lists
      → IsInSome IsMember sets x ↔ IsInSome IsInEntries lists x
  some_same [] [] h = (λ k. absurd (some_none IsMember x k), λ k. absurd (some_none IsInEntries x k))
  some_same [] (l ∷ lists) h = absurd h
  some_same (s ∷ sets) [] h = absurd h
  some_same (s ∷ sets) (l ∷ lists) h =
      let later = some_same sets lists h.1 in (
        λ k. elim (any_cases (λ y. IsMember y x) s sets k) [
          | inl here ↦ any_here (λ y. IsInEntries y x) l lists ((h.0 x).0 here)
          | inr there ↦ any_there (λ y. IsInEntries y x) l lists (later.0 there)
        ],
        λ k. elim (any_cases (λ y. IsInEntries y x) l lists k) [
          | inl here ↦ any_here (λ y. IsMember y x) s sets ((h.0 x).1 here)
          | inr there ↦ any_there (λ y. IsMember y x) s sets (later.1 there)
        ],
      )

  -- what holds of all sets, and of all lists
  all_same : (P : IpSet → Type 0) (Q : List ListEntry → Type 0)
      → ((s : IpSet) (l : List ListEntry) → (IsMember s x ↔ IsInEntries l x) → P s ↔ Q l)
      → (sets : List IpSet) (lists : List (List ListEntry)) → HaveMembers sets lists → All P sets ↔ All Q lists
  all_same P Q same [] [] h = (λ k. All-nil Q, λ k. All-nil P)
  all_same P Q same [] (l ∷ lists) h = absurd h
  all_same P Q same (s ∷ sets) [] h = absurd h
  all_same P Q same (s ∷ sets) (l ∷ lists) h =
      let one = same s l (h.0 x) in
      let later = all_same P Q same sets lists h.1 in (
        λ k. All-cons Q l lists (one.0 (All-head P s sets k)) (later.0 (All-tail P s sets k)),
        λ k. All-cons P s sets (one.1 (All-head Q l lists k)) (later.1 (All-tail Q l lists k)),
      )

  each_same : (sets : List IpSet) (lists : List (List ListEntry)) → HaveMembers sets lists
      → IsInEach IsMember sets x ↔ IsInEach IsInEntries lists x
  each_same [] [] h = (λ k. k, λ k. k)
  each_same [] (l ∷ lists) h = absurd h
  each_same (s ∷ sets) [] h = absurd h
  each_same (s ∷ sets) (l ∷ lists) h =
      both (h.0 x) (all_same (λ y. IsMember y x) (λ y. IsInEntries y x) (λ s l same. same) sets lists h.1)

  first_same : (sets : List IpSet) (lists : List (List ListEntry)) → HaveMembers sets lists
      → IsInFirstAlone IsMember sets x ↔ IsInFirstAlone IsInEntries lists x
  first_same [] [] h = (λ k. k, λ k. k)
  first_same [] (l ∷ lists) h = absurd h
  first_same (s ∷ sets) [] h = absurd h
  first_same (s ∷ sets) (l ∷ lists) h =
      both (h.0 x) (all_same (λ y. ¬ (IsMember y x)) (λ y. ¬ (IsInEntries y x)) (λ s l same. nots same) sets lists h.1)

  one_same : (sets : List IpSet) (lists : List (List ListEntry)) → HaveMembers sets lists
      → IsInOneAlone IsMember sets x ↔ IsInOneAlone IsInEntries lists x
  one_same [] [] h = (λ k. k, λ k. k)
  one_same [] (l ∷ lists) h = absurd h
  one_same (s ∷ sets) [] h = absurd h
  one_same (s ∷ []) (l ∷ []) h = (λ k. k, λ k. k)
  one_same (s ∷ []) (l ∷ m ∷ lists) h = absurd h.1
  one_same (s ∷ t ∷ sets) (l ∷ []) h = absurd h.1
  one_same (s ∷ t ∷ []) (l ∷ m ∷ []) h =
      let front = both (h.0 x) (nots (h.1.0 x)) in
      let back = both (h.1.0 x) (nots (h.0 x)) in (
        λ k. elim k [ inl a ↦ inl (front.0 a) | inr b ↦ inr (back.0 b) ],
        λ k. elim k [ inl a ↦ inl (front.1 a) | inr b ↦ inr (back.1 b) ],
      )
  one_same (s ∷ t ∷ []) (l ∷ m ∷ n ∷ lists) h = absurd h.1.1
  one_same (s ∷ t ∷ u ∷ sets) (l ∷ m ∷ []) h = absurd h.1.1
  one_same (s ∷ t ∷ u ∷ sets) (l ∷ m ∷ n ∷ lists) h = (λ k. k, λ k. k)

  chosen_same : (families : Families) (s : IpSet) (l : List ListEntry)
      → ((y : Address) → IsMember s y ↔ IsInEntries l y)
      → IsChosen IsMember families s x.family ↔ IsChosen IsInEntries families l x.family
  chosen_same Named s l same =
      (λ k. (k.0, k.1, (same k.0).0 k.2), λ k. (k.0, k.1, (same k.0).1 k.2))
  chosen_same Ipv4 s l same = (λ k. k, λ k. k)
  chosen_same Ipv6 s l same = (λ k. k, λ k. k)
  chosen_same Both s l same = (λ k. k, λ k. k)

  complement_same : (families : Families) (sets : List IpSet) (lists : List (List ListEntry)) → HaveMembers sets lists
      → IsInComplement IsMember families sets x ↔ IsInComplement IsInEntries families lists x
  complement_same families [] [] h = (λ k. k, λ k. k)
  complement_same families [] (l ∷ lists) h = absurd h
  complement_same families (s ∷ sets) [] h = absurd h
  complement_same families (s ∷ []) (l ∷ []) h =
      let chosen = chosen_same families s l h.0 in (
        λ k. (k.0, chosen.0 k.1, λ b. k.2 ((h.0 x).1 b)),
        λ k. (k.0, chosen.1 k.1, λ a. k.2 ((h.0 x).0 a)),
      )
  complement_same families (s ∷ []) (l ∷ m ∷ lists) h = absurd h.1
  complement_same families (s ∷ t ∷ sets) (l ∷ []) h = absurd h.1
  complement_same families (s ∷ t ∷ sets) (l ∷ m ∷ lists) h = (λ k. k, λ k. k)

  pub result_same : (operation : ListOperation) (sets : List IpSet) (lists : List (List ListEntry))
      → HaveMembers sets lists → IsInResult IsMember operation sets x ↔ IsInResult IsInEntries operation lists x
  result_same Union sets lists h = some_same sets lists h
  result_same Intersection sets lists h = each_same sets lists h
  result_same Difference sets lists h = first_same sets lists h
  result_same SymmetricDifference sets lists h = one_same sets lists h
  result_same (Complement families) sets lists h = complement_same families sets lists h
