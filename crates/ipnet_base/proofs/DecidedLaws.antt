-- Sets of addresses that can be decided: covers, ranges and sets with a test; and whether a block lies inside one.
use Rattle.std.proofs.Common.{◌≡◌, ℕ, zero, suc, ◌+◌, ◌-◌, ◌/◌, ◌^◌, ◌<◌, ◌⊎◌, ◌↔◌, List, [], ◌∷◌, Bool, true, false}
use Rattle.std.proofs.Common.{IsTrue, refl, sym, subst, arith, inl, inr, pow_pos}
use Rattle.std.proofs.lemmas.Bool.{cases_lt, cases_eq}
use Rattle.ipnet_base.specs.Address.{Family, Address, IsBetween, IsAcceptedBy}
use Rattle.ipnet_base.specs.Network.{Network, host_bits, InBlock, first_of, last_of}
use Rattle.ipnet_base.specs.Blocks.{IsCoveredBy}
use Rattle.ipnet_base.proofs.BlockLaws.{at, between_from_block, block_from_between}
use Rattle.ipnet_base.proofs.FamilyLaws.{cases_family}
use Rattle.ipnet_base.proofs.ListLaws.{contains_here, contains_there, contains_cases, any_from_contains}

-- a set that can be decided
abbrev pub IsDecided : (Address → Type 0) → Type 0
IsDecided InSet = (x : Address) → InSet x ⊎ (InSet x → ⊥)

all_below : (P : ℕ → Type 0) → ((i : ℕ) → P i ⊎ (P i → ⊥)) → (n : ℕ) → ((i : ℕ) → i < n → P i)
    ⊎ (((i : ℕ) → i < n → P i) → ⊥)
all_below P dec zero = inl (λ i l. absurd (omega arith))
all_below P dec (suc n) =
    elim (all_below P dec n) [
      | inr fails ↦ inr (λ h. fails (λ i l. h i (omega arith)))
      | inl holds ↦ elim (dec n) [
        | inr fails ↦ inr (λ h. fails (h n (omega arith)))
        | inl last ↦ inl (λ i l. elim (cases_eq i n) [
          | inl same ↦ subst P (sym same) last
          | inr other ↦ holds i (omega arith)
        ])
      ]
    ]

-- whether a block lies in such a set
pub block_decided : (InSet : Address → Type 0) → IsDecided InSet → (n : Network)
    → ((x : Address) → InBlock n x → InSet x) ⊎ (((x : Address) → InBlock n x → InSet x) → ⊥)
block_decided InSet dec n =
    elim (all_below (λ i. InSet (at n (first_of n + i))) (λ i. dec (at n (first_of n + i))) (2 ^ host_bits n)) [
      | inl all ↦ inl (λ x a.
          let b : IsBetween n.family (first_of n) (last_of n) x = between_from_block n x a in
          let place : first_of n + (x.number - first_of n) ≡ x.number = omega (arith, b.from_start) in
          let here : InSet (at n (first_of n + (x.number - first_of n))) =
          all (x.number - first_of n) (omega (arith, b.to_end, b.from_start, pow_pos (host_bits n))) in
          let same : at n (first_of n + (x.number - first_of n)) ≡ x =
          λ i. record { family = sym a.same_family i; number = place i } in
          subst InSet same here)
      | inr fails ↦
          inr (λ h. fails
          (λ i l. h (at n (first_of n + i))
          (block_from_between n (at n (first_of n + i))
          (record { of_family = refl; from_start = omega arith; to_end = omega (arith, l) }))))
    ]

block_dec : (n : Network) (x : Address) → InBlock n x ⊎ (InBlock n x → ⊥)
block_dec n x =
    elim (cases_family x.family n.family) [
      | inr other ↦ inr (λ a. other a.same_family)
      | inl f ↦ elim (cases_eq (x.number / 2 ^ host_bits n) (n.number / 2 ^ host_bits n)) [
        | inl e ↦ inl (record { same_family = f; same_prefix = e })
        | inr other ↦ inr (λ a. other a.same_prefix)
      ]
    ]

-- a cover can be decided
pub IsDecided-cover : (networks : List Network) → IsDecided (IsCoveredBy networks)
IsDecided-cover [] x = inr (λ h. omega (arith, h.2))
IsDecided-cover (n ∷ ns) x =
    elim (block_dec n x) [
      | inl a ↦ inl (any_from_contains (λ m. InBlock m x) (n ∷ ns) n (contains_here n ns) a)
      | inr out ↦ elim (IsDecided-cover ns x) [
        | inl h ↦ inl (any_from_contains (λ m. InBlock m x) (n ∷ ns) h.1 (contains_there n ns h.1 (h.0, h.2, h.3)) h.4)
        | inr none ↦ inr (λ h. elim (contains_cases n ns h.1 (h.0, h.2, h.3)) [
          | inl e ↦ out (subst (λ m. InBlock m x) (sym e) h.4)
          | inr c ↦ none (any_from_contains (λ m. InBlock m x) ns h.1 c h.4)
        ])
      ]
    ]

-- whether an address lies in a range
pub IsDecided-between : (f : Family) (s e : ℕ) → IsDecided (IsBetween f s e)
IsDecided-between f s e x =
    elim (cases_family x.family f) [
      | inr other ↦ inr (λ b. other b.of_family)
      | inl same ↦ elim (cases_lt x.number s) [
        | inl early ↦ inr (λ b. omega (arith, early, b.from_start))
        | inr from_start ↦ elim (cases_lt e x.number) [
          | inl late ↦ inr (λ b. omega (arith, late, b.to_end))
          | inr to_end ↦ inl (record { of_family = same; from_start = from_start; to_end = to_end })
        ]
      ]
    ]

-- a set that can be decided has a test
answer_of : {P : Type 0} → P ⊎ (P → ⊥) → Bool
answer_of (inl holds) = true
answer_of (inr fails) = false

answer_is : {P : Type 0} (decided : P ⊎ (P → ⊥)) → P ↔ IsTrue (answer_of decided)
unfolding answer_of
answer_is (inl holds) = (λ p. refl, λ t. holds)
answer_is (inr fails) = (λ p. absurd (fails p), λ t. cc)

pub test_of_decided : (InSet : Address → Type 0) → IsDecided InSet → (test : Address → Bool)
    × ((x : Address) → InSet x ↔ IsAcceptedBy test x)
test_of_decided InSet decided = (λ x. answer_of (decided x), λ x. answer_is (decided x))
