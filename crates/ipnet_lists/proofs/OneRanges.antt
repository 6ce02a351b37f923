-- A set has one list of ranges that do not touch.
use Rattle.std.proofs.Common.{◌≡◌, ℕ, ◌+◌, ◌-◌, ◌≤◌, ◌⊎◌, List, [], ◌∷◌, Contains, AllPairs, refl, sym}
use Rattle.std.proofs.Common.{ap}
use Rattle.std.proofs.Common.{◌∙◌, subst, arith, inl, inr}
use Rattle.std.proofs.lemmas.Bool.{cases_order}
use Rattle.std.proofs.lemmas.List.Elements.{All-contains}
use Rattle.ipnet_base.specs.Address.{Family, Address, family_index}
use Rattle.ipnet_base.specs.Ranges.{AddressRange}
use Rattle.ipnet_base.proofs.ListLaws.{contains_cases, contains_nil, pairs_head}
use Rattle.ipnet_base.proofs.ListLaws.{pairs_tail, same_from_members, any_from_contains, pairs_from_members}
use Rattle.ipnet_sets.specs.SetRanges.{AreRangesOf, IsInRange, LiesApart}

-- two members of a list in order are one, or in order
two_members : {X : Type 0} (R : X → X → Type 0) (xs : List X) → AllPairs R xs → (x y : X) → Contains xs x
    → Contains xs y → (x ≡ y) ⊎ (R x y ⊎ R y x)
two_members R [] pairs x y c d = absurd (contains_nil x c)
two_members R (z ∷ xs) pairs x y c d =
    elim (contains_cases z xs x c) [
      | inl e ↦ elim (contains_cases z xs y d) [
        | inl k ↦ inl (sym e ∙ k)
        | inr k ↦ inr (inl (subst (λ w. R w y) e (pairs_head R z xs pairs y k)))
      ]
      | inr h ↦ elim (contains_cases z xs y d) [
        | inl k ↦ inr (inr (subst (λ w. R w x) k (pairs_head R z xs pairs x h)))
        | inr k ↦ two_members R xs (pairs_tail R z xs pairs) x y h k
      ]
    ]

same_range : (r s : AddressRange) → r.family ≡ s.family → r.start ≡ s.start → r.end ≡ s.end → r ≡ s
same_range r s f a b = λ i. record { family = f i; start = a i; end = b i }

-- ranges with addresses, in order
record AreInOrder (r s : AddressRange) : Type 0 where
  pub apart : LiesApart r s
  pub some : r.start ≤ r.end
  pub some_after : s.start ≤ s.end

order_asymmetric : (r s : AddressRange) → AreInOrder r s → AreInOrder s r → ⊥
order_asymmetric r s h k = elim h.apart [
  | inl f ↦ elim k.apart [
    | inl g ↦ omega (arith, f, g)
    | inr g ↦ omega (arith, f, ap family_index g.0)
  ]
  | inr f ↦ elim k.apart [
    | inl g ↦ omega (arith, g, ap family_index f.0)
    | inr g ↦ omega (arith, f.1, g.1, h.some, h.some_after)
  ]
]

in_order : (InSet : Address → Type 0) (ranges : List AddressRange) → AreRangesOf InSet ranges
    → AllPairs AreInOrder ranges
in_order InSet ranges h =
    pairs_from_members LiesApart AreInOrder ranges
    (λ r s c d apart. record {
      apart = apart;
      some = All-contains (λ z. z.start ≤ z.end) ranges r h.some c;
      some_after = All-contains (λ z. z.start ≤ z.end) ranges s h.some d;
    })
    h.apart

-- two ranges of the list that overlap or touch are one
touching : (InSet : Address → Type 0) (ranges : List AddressRange) → AreRangesOf InSet ranges → (r s : AddressRange)
    → Contains ranges r → Contains ranges s → r.family ≡ s.family → r.start ≤ s.end + 1 → s.start ≤ r.end + 1 → r ≡ s
touching InSet ranges h r s c d family low high =
    elim (two_members LiesApart ranges h.apart r s c d) [
      | inl e ↦ e
      | inr (inl (inl f)) ↦ absurd (omega (arith, f, ap family_index family))
      | inr (inl (inr f)) ↦ absurd (omega (arith, f.1, high))
      | inr (inr (inl f)) ↦ absurd (omega (arith, f, ap family_index family))
      | inr (inr (inr f)) ↦ absurd (omega (arith, f.1, low))
    ]

-- the range of the list that has this address of the set
range_at : (InSet : Address → Type 0) (ranges : List AddressRange) → AreRangesOf InSet ranges → (f : Family) (n : ℕ)
    → InSet (record { family = f; number = n })
    → (r : AddressRange) × Contains ranges r × (r.family ≡ f) × (r.start ≤ n) × (n ≤ r.end)
range_at InSet ranges h f n there =
    let (i, r, less, is, a) = (h.members (record { family = f; number = n })).0 there in
    (r, (i, less, is), sym a.of_family, a.from_start, a.to_end)

-- and an address of a range of the list is in the set
in_set : (InSet : Address → Type 0) (ranges : List AddressRange) → AreRangesOf InSet ranges → (r : AddressRange)
    → Contains ranges r → (n : ℕ) → r.start ≤ n → n ≤ r.end → InSet (record { family = r.family; number = n })
in_set InSet ranges h r c n low high =
    (h.members (record { family = r.family; number = n })).1
    (any_from_contains (λ z. IsInRange z (record { family = r.family; number = n })) ranges r c
    (record { of_family = refl; from_start = low; to_end = high }))

module _ (InSet : Address → Type 0) (xs ys : List AddressRange) (h : AreRangesOf InSet xs) (k : AreRangesOf InSet ys)
  where
    -- a range of the one list ends no later than the range of the other that has its start
    ends_before : (r s : AddressRange) → Contains xs r → Contains ys s → r.family ≡ s.family → s.start ≤ r.end
        → r.start ≤ s.end → r.end ≤ s.end
    ends_before r s c d family low high = elim (cases_order r.end s.end) [
      | inl e ↦ omega (arith, e)
      | inr (inl less) ↦ omega (arith, less)
      | inr (inr more) ↦
          let (t, m, f, before, after) = range_at InSet ys k r.family (s.end + 1)
          (in_set InSet xs h r c (s.end + 1) (omega (arith, high)) (omega (arith, more))) in
          let same : t ≡ s = touching InSet ys k t s m d (f ∙ family) before
          (omega (arith, All-contains (λ z. z.start ≤ z.end) ys s k.some d, after)) in
          absurd (omega (arith, after, ap (λ z. z.end) same))
    ]

    starts_after : (r s : AddressRange) → Contains xs r → Contains ys s → r.family ≡ s.family → s.start ≤ r.end
        → r.start ≤ s.end → s.start ≤ r.start
    starts_after r s c d family low high = elim (cases_order r.start s.start) [
      | inl e ↦ omega (arith, e)
      | inr (inr less) ↦ omega (arith, less)
      | inr (inl more) ↦
          let (t, m, f, before, after) = range_at InSet ys k r.family (s.start - 1)
          (in_set InSet xs h r c (s.start - 1) (omega (arith, more)) (omega (arith, low))) in
          let some = All-contains (λ z. z.start ≤ z.end) ys s k.some d in
          let same : t ≡ s = touching InSet ys k t s m d (f ∙ family) (omega (arith, before, some, more))
          (omega (arith, after, more)) in
          absurd (omega (arith, before, more, ap (λ z. z.start) same))
    ]

module _ (InSet : Address → Type 0) (xs ys : List AddressRange) (h : AreRangesOf InSet xs) (k : AreRangesOf InSet ys)
  where
    also : (r : AddressRange) → Contains xs r → Contains ys r
    also r c =
        let some = All-contains (λ z. z.start ≤ z.end) xs r h.some c in
        let (s, d, f, before, after) = range_at InSet ys k r.family r.start
        (in_set InSet xs h r c r.start (omega arith) some) in
        let low : s.start ≤ r.end = omega (arith, before, some) in
        let end : r.end ≡ s.end =
        omega (
          arith,
          ends_before InSet xs ys h k r s c d (sym f) low after,
          ends_before InSet ys xs k h s r d c f after low,
        ) in
        let start : r.start ≡ s.start =
        omega (
          arith,
          starts_after InSet xs ys h k r s c d (sym f) low after,
          starts_after InSet ys xs k h s r d c f after low,
        ) in
        subst (Contains ys) (same_range s r f (sym start) (sym end)) d

pub one_ranges : (InSet : Address → Type 0) (xs ys : List AddressRange) → AreRangesOf InSet xs
    → AreRangesOf InSet ys → xs ≡ ys
one_ranges InSet xs ys h k =
    same_from_members AreInOrder order_asymmetric xs ys (in_order InSet xs h) (in_order InSet ys k)
    (λ r c. also InSet xs ys h k r c) (λ r c. also InSet ys xs k h r c)
