-- The last boundary of a set of numbers, and its least and its greatest number.
use Rattle.std.proofs.Common.{◌≡◌, ℕ, suc, ◌+◌, ◌-◌, ◌%◌, ◌<◌, ◌≤◌, true, false, not}
use Rattle.std.proofs.Common.{List, [], ◌∷◌, ◌++◌, length, take, get_or, All}
use Rattle.std.proofs.Common.{sym, ap, ◌∙◌, subst, arith, inl, inr, le-leb, eq-eqb}
use Rattle.std.proofs.lemmas.Bool.{cases_lt, ne_eqb}
use Rattle.std.proofs.lemmas.List.{take_more, take_all, length_push, get_or_push, get_or_append_left}
use Rattle.std.proofs.lemmas.List.Elements.{All-push, All-weaker}
use Rattle.ipnet_base.specs.Address.{Family, greatest_number}
use Rattle.ipnet_sets.specs.Boundaries.{is_inside, AreBoundaries}
use Rattle.ipnet_sets.specs.Boundaries.{IsLeastInside, IsGreatestInside}
use Rattle.ipnet_sets.proofs.InsideLaws.{inside_push_before}
use Rattle.ipnet_sets.proofs.InsideLaws.{inside_before, inside_from, ascending_push}

-- the front of the boundaries, and the last of them
pub front_boundaries : (family : Family) (ts : List ℕ) (t : ℕ) → AreBoundaries family (ts ++ t ∷ [])
    → AreBoundaries family ts
front_boundaries family ts t h =
    let size = length_push ts t in
    record {
      ascending = λ k l d lt m.
          let lower = get_or_append_left ts (t ∷ []) d k (omega (arith, lt, m)) in
          let upper = get_or_append_left ts (t ∷ []) d l m in
          omega (arith, h.ascending k l d lt (omega (arith, m, size)), lower, upper);
      fits = λ k d l.
          let same = get_or_append_left ts (t ∷ []) d k l in
          omega (arith, h.fits k d (omega (arith, l, size)), same);
    }

pub front_below : (family : Family) (ts : List ℕ) (t : ℕ) → AreBoundaries family (ts ++ t ∷ []) → All (λ u. u < t) ts
front_below family ts t h k d l =
    let size = length_push ts t in
    let lower = get_or_append_left ts (t ∷ []) d k l in
    let upper = get_or_push ts t d (length ts) (omega arith) in
    omega (arith, h.ascending k (length ts) d l (omega (arith, size)), lower, upper)

pub boundaries_push : (family : Family) (ts : List ℕ) (t : ℕ) → AreBoundaries family ts → All (λ u. u < t) ts
    → t ≤ greatest_number family → AreBoundaries family (ts ++ t ∷ [])
boundaries_push family ts t h below le = record {
  ascending = ascending_push ts t h.ascending below;
  fits = All-push (λ u. u ≤ greatest_number family) ts t h.fits le;
}

-- the first boundary is the least number
least_inside : (family : Family) (t : ℕ) (ts : List ℕ) → AreBoundaries family (t ∷ ts) → IsLeastInside family (t ∷ ts) t
least_inside family t ts h = record {
  fits = h.fits 0 t (omega arith);
  inside = rw (le-leb t t (omega arith))
      (ap not (inside_before ts t (λ k d l. h.ascending 0 (suc k) d (omega arith) (omega (arith, l)))));
  least = λ x e. elim (cases_lt x t) [
    | inr ge ↦ ge
    | inl lt ↦
        let out : is_inside (t ∷ ts) x ≡ false = inside_before (t ∷ ts) x (λ k d l. elim (cases_lt 0 k) [
          | inl later ↦ omega (arith, lt, h.ascending 0 k d later l)
          | inr zero ↦ let same : 0 ≡ k = omega (arith, zero) in
              subst (λ z. x < get_or (t ∷ ts) z d) same lt
        ]) in absurd (cc)
  ];
}

-- with an odd count of boundaries the set has the family's last number
pub greatest_open : (family : Family) (ts : List ℕ) → AreBoundaries family ts → length ts % 2 ≡ 1
    → IsGreatestInside family ts (greatest_number family)
greatest_open family ts h odd = record {
  fits = omega arith;
  inside = inside_from ts (greatest_number family) h.fits ∙ eq-eqb (length ts % 2) 1 odd;
  greatest = λ x le e. le;
}

-- with an even count it ends before its last boundary
greatest_closed : (family : Family) (ts : List ℕ) (t n : ℕ) → AreBoundaries family (ts ++ t ∷ []) → n + 1 ≡ t
    → (length (ts ++ t ∷ []) % 2 ≡ 1 → ⊥) → IsGreatestInside family (ts ++ t ∷ []) n
greatest_closed family ts t n h e even =
    let size = length_push ts t in
    let below : All (λ u. u < t) ts = front_below family ts t h in
    let last : t ≤ greatest_number family
    = omega (arith, h.fits (length ts) 0 (omega (arith, size)), get_or_push ts t 0 (length ts) (omega arith)) in
    let odd : length ts % 2 ≡ 1 = elim (cases_lt (length ts % 2) 1) [
      | inl lt ↦ absurd (even (omega (arith, size, lt)))
      | inr ge ↦ omega (arith, ge)
    ] in
    record {
      fits = omega (arith, e, last);
      inside = inside_push_before ts t n (omega (arith, e))
          ∙ inside_from ts n (All-weaker (λ u. u < t) (λ u. u ≤ n) (λ u l. omega (arith, l, e)) ts below)
          ∙ eq-eqb (length ts % 2) 1 odd;
      greatest = λ x le inside. elim (cases_lt n x) [
        | inr ge ↦ ge
        | inl lt ↦
            let all : All (λ u. u ≤ x) (ts ++ t ∷ []) = All-push (λ u. u ≤ x) ts t
            (All-weaker (λ u. u < t) (λ u. u ≤ x) (λ u l. omega (arith, l, e, lt)) ts below)
            (omega (arith, e, lt)) in
            let out : is_inside (ts ++ t ∷ []) x ≡ false
            = inside_from (ts ++ t ∷ []) x all ∙ ne_eqb (length (ts ++ t ∷ []) % 2) 1 even in
            absurd (cc)
      ];
    }

-- the last boundary, apart from the front
pub split_last : (ts : List ℕ) (t : ℕ) → 0 < length ts → ((d : ℕ) → get_or ts (length ts - 1) d ≡ t)
    → ts ≡ take (length ts - 1) ts ++ t ∷ []
split_last ts t some at =
    sym (take_all (length ts - 1 + 1) ts (omega arith)) ∙ take_more ts (length ts - 1) t (omega arith)
    ∙ ap (λ z. take (length ts - 1) ts ++ z ∷ []) (at t)

pub least_inside_at : (family : Family) (ts : List ℕ) (t : ℕ) → AreBoundaries family ts → 0 < length ts
    → ((d : ℕ) → get_or ts 0 d ≡ t) → IsLeastInside family ts t
least_inside_at family [] t h some at = absurd (omega (arith, some))
least_inside_at family (u ∷ us) t h some at = subst (IsLeastInside family (u ∷ us)) (at t) (least_inside family u us h)

pub greatest_closed_at : (family : Family) (ts : List ℕ) (t n : ℕ) → AreBoundaries family ts → 0 < length ts
    → ((d : ℕ) → get_or ts (length ts - 1) d ≡ t) → n + 1 ≡ t → (length ts % 2 ≡ 1 → ⊥)
    → IsGreatestInside family ts n
greatest_closed_at family ts t n h some at e even =
    let whole : ts ≡ take (length ts - 1) ts ++ t ∷ [] = split_last ts t some at in
    subst (λ z. IsGreatestInside family z n) (sym whole)
    (greatest_closed family (take (length ts - 1) ts) t n (subst (AreBoundaries family) whole h) e
    (subst (λ z. length z % 2 ≡ 1 → ⊥) whole even))

-- an even count of boundaries above 0 is two at least
pub last_above_zero : (family : Family) (ts : List ℕ) (t : ℕ) → AreBoundaries family ts → 0 < length ts
    → ((d : ℕ) → get_or ts (length ts - 1) d ≡ t) → (length ts % 2 ≡ 1 → ⊥) → 0 < t
last_above_zero family ts t h some at even = elim (cases_lt 1 (length ts)) [
  | inl more ↦ omega (arith, h.ascending 0 (length ts - 1) 0 (omega (arith, more)) (omega (arith, some)), at 0)
  | inr one ↦ absurd (even (ap (λ n. n % 2) (single one)))
]
  where
    single : length ts ≤ 1 → length ts ≡ 1
    single le = omega (arith, some, le)

-- a number of the set shows that it is not empty
pub least_shows_some : (family : Family) (ts : List ℕ) (n : ℕ) → IsLeastInside family ts n
    → ((x : ℕ) → x ≤ greatest_number family → is_inside ts x ≡ false) → ⊥
least_shows_some family ts n h never =
    let none : is_inside ts n ≡ false = never n h.fits in
    let some : is_inside ts n ≡ true = h.inside in
    cc

pub greatest_shows_some : (family : Family) (ts : List ℕ) (n : ℕ) → IsGreatestInside family ts n
    → ((x : ℕ) → x ≤ greatest_number family → is_inside ts x ≡ false) → ⊥
greatest_shows_some family ts n h never =
    let none : is_inside ts n ≡ false = never n h.fits in
    let some : is_inside ts n ≡ true = h.inside in
    cc
