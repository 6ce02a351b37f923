-- Eight searches in step: each lane has its own number, and the place that its search has reached.
use Rattle.std.proofs.Common.{◌≡◌, ℕ, ◌+◌, ◌-◌, ◌^◌, ◌<◌, ◌≤◌, ◌⊎◌, ◌↔◌, Bool, false, IsTrue, List, length, get_or}
use Rattle.std.proofs.Common.{slice_set, sym, ap, ◌∙◌, subst, arith, inl, inr}
use Rattle.std.proofs.lemmas.Bool.{cases_lt}
use Rattle.std.proofs.lemmas.Grind.{get_or-set_at}
use Rattle.std.proofs.lemmas.List.{get_or-set_other}
use Rattle.ipnet_base.specs.Address.{IPv4, address_at}
use Rattle.ipnet_sets.specs.Boundaries.{AreBoundaries, IsSplitAt, is_inside}
use Rattle.ipnet_sets.specs.Members.{IsMember, boundaries_of}
use Rattle.ipnet_sets.specs.declared.set.IpSet.{IpSet}
use Rattle.ipnet_sets.proofs.ImageSetLaws.{boundaries_are}
use Rattle.ipnet_sets.proofs.InsideLaws.{AreAscending, is_odd}
use Rattle.ipnet_sets.proofs.SplitLaws.{IsSplitBetween, split_start, split_up, split_down, split_end}
use Rattle.ipnet_sets.proofs.SplitLaws.{inside_from_split}

-- Each lane from `first` up to `end` looks for the place of its number among the `left` boundaries from its low on.
pub record AreBetween (boundaries numbers low : List ℕ) (first end left : ℕ) : Type 0 where
  pub within : (lane : ℕ) → first ≤ lane → lane < end → get_or low lane 0 + left ≤ length boundaries
  pub split : AreBoundaries IPv4 boundaries → (lane : ℕ) → first ≤ lane → lane < end
      → IsSplitBetween boundaries (get_or numbers lane 0) (get_or low lane 0) (get_or low lane 0 + left)

pub between_start : (boundaries numbers low : List ℕ) (left : ℕ) → left ≡ length boundaries
    → ((lane : ℕ) → lane < 8 → get_or low lane 0 ≡ 0) → AreBetween boundaries numbers low 0 8 left
between_start boundaries numbers low left e zeros = record {
  within = λ lane a b. omega (arith, zeros lane b, e);
  split = λ h lane a b. subst (λ z. IsSplitBetween boundaries (get_or numbers lane 0) z (z + left))
      (sym (zeros lane b)) (split_start boundaries (get_or numbers lane 0) (0 + left) (omega (arith, e)));
}

-- no lane
pub between_none : (boundaries numbers low : List ℕ) (place left : ℕ)
    → AreBetween boundaries numbers low place place left
between_none boundaries numbers low place left = record {
  within = λ lane a b. absurd (omega (arith, a, b));
  split = λ h lane a b. absurd (omega (arith, a, b));
}

split_wider : (boundaries : List ℕ) (number low high wider : ℕ) → high ≤ wider → wider ≤ length boundaries
    → IsSplitBetween boundaries number low high → IsSplitBetween boundaries number low wider
split_wider boundaries number low high wider le fits h = record {
  ordered = omega (arith, h.ordered, le);
  within = fits;
  up_to = h.up_to;
  above = λ k d m n. h.above k d (omega (arith, le, m)) n;
}

-- the step of one lane
split_stepped : (boundaries : List ℕ) → AreAscending boundaries → (number low left half place boundary : ℕ) → 0 < half
    → half ≤ left → half ≤ left - half + 1 → low + left ≤ length boundaries
    → ((d : ℕ) → get_or boundaries (low + half - 1) d ≡ boundary)
    → ((place ≡ low + half) × (boundary ≤ number)) ⊎ ((place ≡ low) × (number < boundary))
    → IsSplitBetween boundaries number low (low + left)
    → IsSplitBetween boundaries number place (place + (left - half))
split_stepped boundaries asc number low left half place boundary some fits enough within at (inl (is, le)) h =
    let up =
    split_up boundaries asc number low (low + left) (low + half - 1) boundary (omega (arith, some, fits)) at le h in
    let low_is : low + half - 1 + 1 ≡ place = omega (arith, some, is) in
    let high_is : low + left ≡ place + (left - half) = omega (arith, some, fits, is) in
    subst (λ z. IsSplitBetween boundaries number place z) high_is
    (subst (λ z. IsSplitBetween boundaries number z (low + left)) low_is up)
split_stepped boundaries asc number low left half place boundary some fits enough within at (inr (is, lt)) h =
    let down = split_down boundaries asc number low (low + left) (low + half - 1) boundary (omega (arith, some))
    (omega (arith, some, fits)) at lt h in
    subst (λ z. IsSplitBetween boundaries number z (z + (left - half))) (sym is)
    (split_wider boundaries number low (low + half - 1) (low + (left - half)) (omega (arith, some, enough))
    (omega (arith, within, fits)) down)

place_within : (low left half place size : ℕ) (A B : Type 0) → half ≤ left → low + left ≤ size
    → ((place ≡ low + half) × A) ⊎ ((place ≡ low) × B) → place + (left - half) ≤ size
place_within low left half place size A B fits within (inl (is, a)) = omega (arith, fits, within, is)
place_within low left half place size A B fits within (inr (is, b)) = omega (arith, fits, within, is)

-- one lane more has made its step
pub lane_stepped : (boundaries numbers low : List ℕ) (lane left half place boundary : ℕ) → lane < length low → lane < 8
    → 0 < half → half ≤ left → half ≤ left - half + 1
    → ((d : ℕ) → get_or boundaries (get_or low lane 0 + half - 1) d ≡ boundary)
    → ((place ≡ get_or low lane 0 + half) × (boundary ≤ get_or numbers lane 0))
    ⊎ ((place ≡ get_or low lane 0) × (get_or numbers lane 0 < boundary))
    → AreBetween boundaries numbers low 0 lane (left - half) → AreBetween boundaries numbers low lane 8 left
    → AreBetween boundaries numbers (slice_set low lane place) 0 (lane + 1) (left - half)
lane_stepped boundaries numbers low lane left half place boundary room eight some fits enough at step done h = record {
  within = λ i a b. elim (cases_lt i lane) [
    | inl before ↦ subst (λ z. z + (left - half) ≤ length boundaries) (sym (other i before)) (done.within i a before)
    | inr not ↦ subst (λ z. z + (left - half) ≤ length boundaries) (sym (here i (omega (arith, b, not))))
        (place_within (get_or low lane 0) left half place (length boundaries) (boundary ≤ get_or numbers lane 0)
        (get_or numbers lane 0 < boundary) fits (h.within lane (omega arith) eight) step)
  ];
  split = λ are i a b. elim (cases_lt i lane) [
    | inl before ↦ subst (λ z. IsSplitBetween boundaries (get_or numbers i 0) z (z + (left - half)))
        (sym (other i before)) (done.split are i a before)
    | inr not ↦ let same : i ≡ lane = omega (arith, b, not) in
        subst (λ z. IsSplitBetween boundaries (get_or numbers i 0) z (z + (left - half))) (sym (here i same))
        (subst (λ j. IsSplitBetween boundaries (get_or numbers j 0) place (place + (left - half))) (sym same)
        (split_stepped boundaries are.ascending (get_or numbers lane 0) (get_or low lane 0) left half place boundary
        some fits enough (h.within lane (omega arith) eight) at step (h.split are lane (omega arith) eight)))
  ];
}
  where
    other : (i : ℕ) → i < lane → get_or (slice_set low lane place) i 0 ≡ get_or low i 0
    other i before = get_or-set_other low lane i place 0
        (λ same. let wrong : ⊥ = omega (arith, same, before) in wrong)

    here : (i : ℕ) → i ≡ lane → get_or (slice_set low lane place) i 0 ≡ place
    here i same = get_or-set_at low lane i place 0 same room

-- and the others wait
pub lanes_left : (boundaries numbers low : List ℕ) (lane left place : ℕ)
    → AreBetween boundaries numbers low lane 8 left
    → AreBetween boundaries numbers (slice_set low lane place) (lane + 1) 8 left
lanes_left boundaries numbers low lane left place h = record {
  within = λ i a b. subst (λ z. z + left ≤ length boundaries) (sym (other i a)) (h.within i (omega (arith, a)) b);
  split = λ are i a b. subst (λ z. IsSplitBetween boundaries (get_or numbers i 0) z (z + left)) (sym (other i a))
      (h.split are i (omega (arith, a)) b);
}
  where
    other : (i : ℕ) → lane + 1 ≤ i → get_or (slice_set low lane place) i 0 ≡ get_or low i 0
    other i a = get_or-set_other low lane i place 0 (λ same. let wrong : ⊥ = omega (arith, same, a) in wrong)

-- no boundary is left
pub lanes_end : (boundaries numbers low : List ℕ) (left lane : ℕ) → left ≤ 0 → lane < 8 → AreBoundaries IPv4 boundaries
    → AreBetween boundaries numbers low 0 8 left → IsSplitAt boundaries (get_or numbers lane 0) (get_or low lane 0)
lanes_end boundaries numbers low left lane none fits are h =
    split_end boundaries (get_or numbers lane 0) (get_or low lane 0) (get_or low lane 0 + left) (omega (arith, none))
    (h.split are lane (omega arith) fits)

-- ---- what the places mean

-- one lane more is known to be inside, or outside
pub parities_more : (turned : List ℕ) (inside : List Bool) (lane : ℕ) (value : Bool) → lane < length inside
    → value ≡ is_odd (get_or turned lane 0)
    → ((i : ℕ) → i < lane → get_or inside i false ≡ is_odd (get_or turned i 0))
    → (i : ℕ) → i < lane + 1 → get_or (slice_set inside lane value) i false ≡ is_odd (get_or turned i 0)
parities_more turned inside lane value room is h i less = elim (cases_lt i lane) [
  | inl before ↦
      get_or-set_other inside lane i value false (λ same. let wrong : ⊥ = omega (arith, same, before) in wrong)
      ∙ h i before
  | inr not ↦ let same : i ≡ lane = omega (arith, less, not) in
      get_or-set_at inside lane i value false same room ∙ is ∙ ap (λ j. is_odd (get_or turned j 0)) (sym same)
]

-- an odd number of boundaries up to a number means that its address is in the set
pub member_by_place : (s : IpSet) (boundaries : List ℕ) (number place : ℕ) (inside : Bool) → number < 2 ^ 32
    → boundaries ≡ boundaries_of s IPv4 → (AreBoundaries IPv4 boundaries → IsSplitAt boundaries number place)
    → inside ≡ is_odd place → IsTrue inside ↔ IsMember s (address_at IPv4 number)
member_by_place s boundaries number place inside fits same split odd = (
  λ yes. record { fits = fits; inside = sym is ∙ yes },
  λ member. is ∙ member.inside,
)
  where
    is : inside ≡ is_inside (boundaries_of s IPv4) number
    is = odd
        ∙ sym (inside_from_split boundaries number place
        (split (subst (AreBoundaries IPv4) (sym same) (boundaries_are s IPv4))))
        ∙ ap (λ z. is_inside z number) same
