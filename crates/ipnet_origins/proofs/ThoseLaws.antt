-- The payloads of a list that have a property.
use Rattle.std.proofs.Common.{◌≡◌, ◌↔◌, ℕ, zero, suc, ◌+◌, ◌<◌, ◌≤◌, List, [], ◌∷◌, length, take, drop}
use Rattle.std.proofs.Common.{get_or, Contains, refl, sym, subst, inl, inr, arith}
use Rattle.ipnet_base.proofs.ListLaws.{contains_nil, contains_here, contains_there, contains_cases}
use Rattle.ipnet_origins.specs.declared.payload.Payload.{Payload}
use Rattle.ipnet_origins.specs.Groups.{AreThose}

-- no payload has it
pub those_none : (Is : Payload → Type 0) (vrps : List Payload) → ((vrp : Payload) → Contains vrps vrp → ¬ (Is vrp))
    → AreThose Is vrps []
those_none Is [] none = refl
those_none Is (v ∷ vrps) none =
    inr (none v (contains_here v vrps), those_none Is vrps (λ vrp c. none vrp (contains_there v vrps vrp c)))

-- the same payloads have two properties
pub those_same : (Is Other : Payload → Type 0) (vrps those : List Payload)
    → ((vrp : Payload) → Contains vrps vrp → Is vrp ↔ Other vrp) → AreThose Is vrps those → AreThose Other vrps those
those_same Is Other [] those same h = h
those_same Is Other (v ∷ vrps) those same (inl (is, more, spelled, h)) =
    inl (
      (same v (contains_here v vrps)).0 is,
      more,
      spelled,
      those_same Is Other vrps more (λ vrp c. same vrp (contains_there v vrps vrp c)) h,
    )
those_same Is Other (v ∷ vrps) those same (inr (not, h)) =
    inr (
      λ other. not ((same v (contains_here v vrps)).1 other),
      those_same Is Other vrps those (λ vrp c. same vrp (contains_there v vrps vrp c)) h,
    )

module _ (Is : Payload → Type 0) (v : Payload) (vrps : List Payload) (vrp : Payload) where
  with_it : (those more : List Payload) → Is v → those ≡ v ∷ more
      → (Contains more vrp ↔ (Contains vrps vrp × Is vrp)) → Contains those vrp ↔ (Contains (v ∷ vrps) vrp × Is vrp)
  with_it those more is spelled same = (
    λ c. elim (contains_cases v more vrp (subst (λ z. Contains z vrp) spelled c)) [
      | inl e ↦ (subst (Contains (v ∷ vrps)) e (contains_here v vrps), subst Is e is)
      | inr there ↦ let (old, has) = same.0 there in (contains_there v vrps vrp old, has)
    ],
    λ (c, has). subst (λ z. Contains z vrp) (sym spelled)
        (elim (contains_cases v vrps vrp c) [
          | inl e ↦ subst (Contains (v ∷ more)) e (contains_here v more)
          | inr there ↦ contains_there v more vrp (same.1 (there, has))
        ]),
  )

  without_it : (those : List Payload) → ¬ (Is v) → (Contains those vrp ↔ (Contains vrps vrp × Is vrp))
      → Contains those vrp ↔ (Contains (v ∷ vrps) vrp × Is vrp)
  without_it those not same = (
    λ c. let (old, has) = same.0 c in (contains_there v vrps vrp old, has),
    λ (c, has). elim (contains_cases v vrps vrp c) [
      | inl e ↦ absurd (not (subst Is (sym e) has))
      | inr there ↦ same.1 (there, has)
    ],
  )

-- the members of the list with the property
pub those_members : (Is : Payload → Type 0) (vrps those : List Payload) → AreThose Is vrps those → (vrp : Payload)
    → Contains those vrp ↔ (Contains vrps vrp × Is vrp)
those_members Is [] those h vrp = (
  λ c. absurd (contains_nil vrp (subst (λ z. Contains z vrp) h c)),
  λ (c, is). absurd (contains_nil vrp c),
)
those_members Is (v ∷ vrps) those (inl (is, more, spelled, h)) vrp =
    with_it Is v vrps vrp those more is spelled (those_members Is vrps more h vrp)
those_members Is (v ∷ vrps) those (inr (not, h)) vrp =
    without_it Is v vrps vrp those not (those_members Is vrps those h vrp)

-- neighbours that have it, if no other payload does
pub those_slice : (Is : Payload → Type 0) (vrps : List Payload) (start count : ℕ)
    → ((i : ℕ) (d : Payload) → i < start → i < length vrps → ¬ (Is (get_or vrps i d)))
    → ((i : ℕ) (d : Payload) → start ≤ i → i < start + count → i < length vrps → Is (get_or vrps i d))
    → ((i : ℕ) (d : Payload) → start + count ≤ i → i < length vrps → ¬ (Is (get_or vrps i d)))
    → AreThose Is vrps (take count (drop start vrps))
those_slice Is [] zero zero before within behind = refl
those_slice Is [] zero (suc count) before within behind = refl
those_slice Is [] (suc start) zero before within behind = refl
those_slice Is [] (suc start) (suc count) before within behind = refl
those_slice Is (v ∷ vrps) zero zero before within behind =
    inr (
      behind 0 v (omega arith) (omega arith),
      those_slice Is vrps zero zero (λ i d l. absurd (omega (arith, l))) (λ i d l m. absurd (omega (arith, l, m)))
          (λ i d l m. behind (suc i) d (omega arith) (omega (arith, m))),
    )
those_slice Is (v ∷ vrps) zero (suc count) before within behind =
    inl (
      within 0 v (omega arith) (omega arith) (omega arith),
      take count vrps,
      refl,
      those_slice Is vrps zero count (λ i d l. absurd (omega (arith, l)))
          (λ i d l m k. within (suc i) d (omega arith) (omega (arith, m)) (omega (arith, k)))
          (λ i d l m. behind (suc i) d (omega (arith, l)) (omega (arith, m))),
    )
those_slice Is (v ∷ vrps) (suc start) count before within behind =
    inr (
      before 0 v (omega arith) (omega arith),
      those_slice Is vrps start count (λ i d l m. before (suc i) d (omega (arith, l)) (omega (arith, m)))
          (λ i d l m k. within (suc i) d (omega (arith, l)) (omega (arith, m)) (omega (arith, k)))
          (λ i d l m. behind (suc i) d (omega (arith, l)) (omega (arith, m))),
    )
