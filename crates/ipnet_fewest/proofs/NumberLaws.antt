-- Lists of numbers: whether a number is in one, and the first number.
use Rattle.std.proofs.Common.{◌≡◌, ℕ, ◌+◌, ◌-◌, ◌<◌, ◌≤◌, ◌⊎◌, ◌↔◌, List, [], ◌∷◌, ◌++◌, length, get_or, take}
use Rattle.std.specs.List.{list_any}
use Rattle.std.proofs.Common.{nat_eq, true, false, IsTrue, Result, Ok, Err, is_ok, Contains}
use Rattle.std.proofs.Common.{refl, sym, ap, ◌∙◌, subst, arith, inl, inr}
use Rattle.std.proofs.lemmas.Bool.{cases_eq, cases_lt}
use Rattle.std.proofs.lemmas.List.{take_more, get_or-take, length-take-le, take_all}
use Rattle.std.proofs.lemmas.List.Elements.{Contains-append_left, Contains-append_right, Contains-append_cases}
use Rattle.std.proofs.lemmas.List.Sorted.{searched, IsNonDecreasingBy-push, Contains-permutation, IsPermutation-sym}
use Rattle.std.specs.Ordering.{nat_cmp}
use Rattle.std.specs.List.Sorted.{IsBinarySearchResult, IsNonDecreasing, IsPermutation}
use Rattle.ipnet_base.proofs.ListLaws.{contains_nil, contains_here, contains_there, contains_cases, at_place}

-- Whether the number is in the list, with the test that computes it.
pub number_decided : (xs : List ℕ) (v : ℕ) → (Contains xs v × (list_any (λ y. nat_eq y v) xs ≡ true))
    ⊎ ((Contains xs v → ⊥) × (list_any (λ y. nat_eq y v) xs ≡ false))
number_decided [] v = inr (contains_nil v, refl)
number_decided (x ∷ xs) v = elim (cases_eq x v) [
  | inl e ↦ inl (subst (Contains (x ∷ xs)) e (contains_here x xs), grind (arith, e))
  | inr out ↦ elim (number_decided xs v) [
    | inl h ↦ inl (contains_there x xs v h.0, grind (arith, h.1))
    | inr h ↦ inr (λ c. elim (contains_cases x xs v c) [ inl e ↦ out e | inr d ↦ h.0 d ], grind (arith, out, h.1))
  ]
]

pub first_number : (xs : List ℕ) → 0 < length xs → Contains xs (get_or xs 0 0)
first_number xs lt = (0, lt, at_place xs 0 (get_or xs 0 0) 0 lt)

pub one_number : (v w : ℕ) → Contains (v ∷ []) w → w ≡ v
one_number v w c = elim (contains_cases v [] w c) [ inl e ↦ sym e | inr d ↦ absurd (contains_nil w d) ]

-- ---- ascending lists

-- A search in an ascending list finds exactly its numbers.
pub found : (xs : List ℕ) (v : ℕ) (r : Result ℕ ℕ) → IsBinarySearchResult (λ y. nat_cmp y v) xs r → IsNonDecreasing xs
    → IsTrue (is_ok r) ↔ Contains xs v
found xs v (Ok i) h up =
    let p = searched xs v (Ok i) h (λ j k le lt. up j k 0 le lt) in
    (λ t. (i, p.0, at_place xs i v 0 p.0 ∙ p.1), λ c. refl)
found xs v (Err i) h up =
    let p = searched xs v (Err i) h (λ j k le lt. up j k 0 le lt) in (
      λ t. let wrong : false ≡ true = t in absurd (cc),
      λ c. elim (cases_lt c.0 i) [
        | inl lt ↦ absurd (omega (arith, p.1 c.0 lt, at_place xs c.0 v 0 c.1, c.2))
        | inr le ↦ absurd (omega (arith, p.2 c.0 le c.1, at_place xs c.0 v 0 c.1, c.2))
      ],
    )

-- The numbers of the first list, up to a place, that are in the second list.
pub record AreCommonTo (first second : List ℕ) (i : ℕ) (common : List ℕ) : Type 0 where
  pub sorted : IsNonDecreasing common
  pub members : (v : ℕ) → Contains common v ↔ (Contains (take i first) v × Contains second v)

pub common_start : (first second common : List ℕ) → common ≡ [] → AreCommonTo first second 0 common
common_start first second common e = subst (AreCommonTo first second 0) (sym e) (record {
  sorted = λ j k d le lt. absurd (omega (arith, lt));
  members = λ v. (λ c. absurd (contains_nil v c), λ c. absurd (contains_nil v c.0));
})

module _ (first second : List ℕ) (i : ℕ) (common : List ℕ) (x : ℕ) (lt : i < length first)
    (here : get_or first i x ≡ x) (h : AreCommonTo first second i common) where
  more : take (i + 1) first ≡ take i first ++ x ∷ []
  more = take_more first i x lt ∙ ap (λ z. take i first ++ z ∷ []) here

  cases : (v : ℕ) → Contains (take (i + 1) first) v → Contains (take i first) v ⊎ (x ≡ v)
  cases v c = elim (Contains-append_cases (take i first) (x ∷ []) v (subst (λ z. Contains z v) more c)) [
    | inl d ↦ inl d
    | inr d ↦ inr (sym (one_number x v d))
  ]

  before : (v : ℕ) → Contains (take i first) v → Contains (take (i + 1) first) v
  before v c = subst (λ z. Contains z v) (sym more) (Contains-append_left (take i first) (x ∷ []) v c)

  this : Contains (take (i + 1) first) x
  this = subst (λ z. Contains z x) (sym more) (Contains-append_right (take i first) (x ∷ []) x (contains_here x []))

  pub common_same : (Contains second x → ⊥) → AreCommonTo first second (i + 1) common
  common_same out = record {
    sorted = h.sorted;
    members = λ v. (
      λ c. let m = (h.members v).0 c in (before v m.0, m.1),
      λ m. elim (cases v m.0) [
        | inl c ↦ (h.members v).1 (c, m.1)
        | inr e ↦ absurd (out (subst (Contains second) (sym e) m.1))
      ],
    );
  }

  at_most : IsNonDecreasing first → (d : ℕ) → 0 < length common → get_or common (length common - 1) d ≤ x
  at_most up d some =
      let v = get_or common (length common - 1) d in
      let c : Contains common v = (
        length common - 1,
        omega (arith, some),
        at_place common (length common - 1) v d (omega (arith, some)),
      ) in
      let m : Contains (take i first) v = ((h.members v).0 c).0 in
      let size : length (take i first) ≡ i = length-take-le i first (omega (arith, lt)) in
      let small : m.0 < i = omega (arith, m.1, size) in
      omega (
        arith,
        up m.0 i v (omega (arith, small)) lt,
        get_or-take i first m.0 v small,
        m.2,
        at_place first i v x lt,
        here,
      )

  pub common_more : (new : List ℕ) → new ≡ common ++ x ∷ [] → IsNonDecreasing first → Contains second x
      → AreCommonTo first second (i + 1) new
  common_more new e up has = subst (AreCommonTo first second (i + 1)) (sym e) (record {
    sorted = IsNonDecreasingBy-push (λ z. z) common x h.sorted (at_most up);
    members = λ v. (
      λ c. elim (Contains-append_cases common (x ∷ []) v c) [
        | inl d ↦ let m = (h.members v).0 d in (before v m.0, m.1)
        | inr d ↦
            let same : x ≡ v = sym (one_number x v d) in
            (subst (Contains (take (i + 1) first)) same this, subst (Contains second) same has)
      ],
      λ m. elim (cases v m.0) [
        | inl c ↦ Contains-append_left common (x ∷ []) v ((h.members v).1 (c, m.1))
        | inr same ↦ subst (Contains (common ++ x ∷ [])) same
            (Contains-append_right common (x ∷ []) x (contains_here x []))
      ],
    );
  })

pub common_end : (first second : List ℕ) (i : ℕ) (common : List ℕ) → length first ≤ i
    → AreCommonTo first second i common → (v : ℕ) → Contains common v ↔ (Contains first v × Contains second v)
common_end first second i common le h v =
    subst (λ z. Contains common v ↔ (Contains z v × Contains second v)) (take_all i first le) (h.members v)

pub in_other_order : (first second common : List ℕ)
    → ((v : ℕ) → Contains common v ↔ (Contains first v × Contains second v)) → (v : ℕ)
    → Contains common v ↔ (Contains second v × Contains first v)
in_other_order first second common h v =
    (λ c. let m = (h v).0 c in (m.1, m.0), λ m. (h v).1 (m.1, m.0))

-- The numbers of a sorted list of the numbers of two lists.
pub all_members : (first second both sorted : List ℕ) → both ≡ first ++ second → IsPermutation both sorted → (v : ℕ)
    → Contains sorted v ↔ (Contains first v ⊎ Contains second v)
all_members first second both sorted e moved v = (
  λ c. Contains-append_cases first second v (subst (λ z. Contains z v) e
      (Contains-permutation sorted both v (IsPermutation-sym both sorted moved) c)),
  λ m. Contains-permutation both sorted v moved (subst (λ z. Contains z v) (sym e) (elim m [
    | inl c ↦ Contains-append_left first second v c
    | inr c ↦ Contains-append_right first second v c
  ])),
)
