-- The rank of a value among values in order.
use Rattle.std.proofs.Common.{◌≡◌, ◌≢◌, ℕ, zero, suc, ◌+◌, ◌<◌, ◌≤◌, List, [], ◌∷◌, length, get_or}
use Rattle.std.proofs.Common.{true, false}
use Rattle.std.proofs.Common.{Ordering, Less, Equal, Greater, refl, sym, ap, ◌∙◌, arith, inl, inr}
use Rattle.std.proofs.lemmas.Bool.{cases_lt}
use Rattle.std.proofs.lemmas.Cmp.{tied_itself, alike_right}
use Rattle.std.proofs.lemmas.List.Sorted.{sorted_far, ranks_by}
use Rattle.std.specs.Cmp.{IsTotalOrder}
use Rattle.std.specs.Ordering.{is_lt, ordering_reverse}
use Rattle.std.specs.List.Sorted.{IsSorted}
use Rattle.ipnet_base.proofs.ListLaws.{at_place}
use Rattle.ipnet_fewest.specs.Numbers.{IsRank, HasEqual}

-- ---- the test of a comparison

pub less_from_test : (o : Ordering) → is_lt o ≡ true → o ≡ Less
less_from_test Less e = refl
less_from_test Equal e = absurd (cc)
less_from_test Greater e = absurd (cc)

pub not_less_from_test : (o : Ordering) → is_lt o ≡ false → o ≢ Less
not_less_from_test o e less = let yes_too : is_lt o ≡ true = ap is_lt less in absurd (cc)

-- ---- a number for every value

-- one more if the value is less
abbrev more_if : Ordering → ℕ → ℕ
more_if Less n = n + 1
more_if Equal n = n
more_if Greater n = n

more_if_less : (o : Ordering) (n : ℕ) → o ≡ Less → more_if o n ≡ n + 1
more_if_less o n e = ap (λ z. more_if z n) e

more_if_not : (o : Ordering) (n : ℕ) → o ≢ Less → more_if o n ≡ n
more_if_not Less n out = absurd (out refl)
more_if_not Equal n out = refl
more_if_not Greater n out = refl

-- how many of the values are less than this one
abbrev pub count_less : {V : Type 0} → (V → V → Ordering) → List V → V → ℕ
count_less cmp [] v = 0
count_less cmp (w ∷ values) v = more_if (cmp w v) (count_less cmp values v)

pub rank_is_count : {V : Type 0} (cmp : V → V → Ordering) (values : List V) (v : V) (n : ℕ) → IsRank cmp values v n
    → n ≡ count_less cmp values v
rank_is_count cmp [] v n r = omega (arith, r.within)
rank_is_count cmp (w ∷ values) v zero r =
    let rest : 0 ≡ count_less cmp values v = rank_is_count cmp values v 0 (record {
      within = omega arith;
      less = λ i d lt. absurd (omega (arith, lt));
      from = λ i d le lt. r.from (suc i) d (omega arith) (omega (arith, lt));
    }) in
    rest ∙ sym (more_if_not (cmp w v) (count_less cmp values v) (r.from 0 w (omega arith) (omega arith)))
rank_is_count cmp (w ∷ values) v (suc n) r =
    let rest : n ≡ count_less cmp values v = rank_is_count cmp values v n (record {
      within = omega (arith, r.within);
      less = λ i d lt. r.less (suc i) d (omega (arith, lt));
      from = λ i d le lt. r.from (suc i) d (omega (arith, le)) (omega (arith, lt));
    }) in
    omega (arith, rest, more_if_less (cmp w v) (count_less cmp values v) (r.less 0 w (omega arith)))

module _ {V : Type 0} (cmp : V → V → Ordering) (o : IsTotalOrder cmp) where
  pub count_same : (values : List V) (v w : V) → cmp v w ≡ Equal → count_less cmp values v ≡ count_less cmp values w
  count_same [] v w e = refl
  count_same (x ∷ values) v w e =
      ap (λ z. more_if z (count_less cmp values v)) (alike_right o v w x e)
      ∙ ap (more_if (cmp x w)) (count_same values v w e)

  not_less_itself : (v : V) → cmp v v ≡ Less → ⊥
  not_less_itself v e = let same : cmp v v ≡ Equal = tied_itself o v in absurd (cc)

  reversed : (v w : V) → cmp v w ≡ Greater → cmp w v ≡ Less
  reversed v w e = o.antisymm w v ∙ ap ordering_reverse e

  -- ---- ranks of values of the list

  module _ (values : List V) where
    value_in : (v : V) (h : HasEqual cmp values v) (w : V) (n : ℕ) → IsRank cmp values w n → cmp v w ≡ Less
        → h.member.0 < n
    value_in v h w n r e = elim (cases_lt h.member.0 n) [
      | inl lt ↦ lt
      | inr le ↦ absurd (r.from h.member.0 h.found le h.member.1
          (ap (λ z. cmp z w) h.member.2 ∙ o.congr h.found v w h.equal ∙ e))
    ]

    rank_to : (v : V) (h : HasEqual cmp values v) (n : ℕ) → IsRank cmp values v n → n ≤ h.member.0
    rank_to v h n r = elim (cases_lt h.member.0 n) [
      | inl lt ↦
          let less : cmp h.found v ≡ Less = ap (λ z. cmp z v) (sym h.member.2) ∙ r.less h.member.0 h.found lt in
          let wrong : Equal ≡ Less = sym h.equal ∙ less in
          absurd (cc)
      | inr le ↦ le
    ]

    pub rank_below : (v : V) → HasEqual cmp values v → (n : ℕ) → IsRank cmp values v n → n < length values
    rank_below v h n r = omega (arith, rank_to v h n r, h.member.1)

    -- values with one rank are equal
    pub same_rank : (v w : V) → HasEqual cmp values v → HasEqual cmp values w → (n : ℕ) → IsRank cmp values v n
        → IsRank cmp values w n → cmp v w ≡ Equal
    same_rank v w c d n r s = go (cmp v w) refl
      where
        go : (z : Ordering) → cmp v w ≡ z → cmp v w ≡ Equal
        go Equal e = e
        go Less e = absurd (omega (arith, value_in v c w n s e, rank_to v c n r))
        go Greater e = absurd (omega (arith, value_in w d v n r (reversed v w e), rank_to w d n s))

    -- ---- values in order

    module _ (sorted : IsSorted cmp values) where
      not_back : (i j : ℕ) (d : V) → i ≤ j → j < length values → cmp (get_or values j d) (get_or values i d) ≡ Less → ⊥
      not_back i j d le lt e =
          let far : is_lt (cmp (get_or values j d) (get_or values i d)) ≡ false =
          sorted_far (λ x y. is_lt (cmp x y)) (ranks_by o (λ x. x)) values sorted i j d le lt in
          let less : is_lt (cmp (get_or values j d) (get_or values i d)) ≡ true = ap is_lt e in
          absurd (cc)

      -- a value before one that is less is less too
      pub less_before : (i j : ℕ) (d v : V) → i ≤ j → j < length values → cmp (get_or values j d) v ≡ Less
          → cmp (get_or values i d) v ≡ Less
      less_before i j d v le lt e = go (cmp (get_or values i d) (get_or values j d)) refl
        where
          go : (z : Ordering) → cmp (get_or values i d) (get_or values j d) ≡ z → cmp (get_or values i d) v ≡ Less
          go Less g = o.trans (get_or values i d) (get_or values j d) v g e
          go Equal g = o.congr (get_or values i d) (get_or values j d) v g ∙ e
          go Greater g = absurd (not_back i j d le lt (reversed (get_or values i d) (get_or values j d) g))

      -- the value at the rank of a value is equal to it
      pub value_at_rank : (v : V) → HasEqual cmp values v → (n : ℕ) → IsRank cmp values v n → (d : V)
          → cmp (get_or values n d) v ≡ Equal
      value_at_rank v h n r d = go (cmp (get_or values n d) v) refl
        where
          place : ℕ
          place = h.member.0

          le : n ≤ place
          le = rank_to v h n r

          here : get_or values place d ≡ h.found
          here = at_place values place d h.found h.member.1 ∙ h.member.2

          go : (z : Ordering) → cmp (get_or values n d) v ≡ z → cmp (get_or values n d) v ≡ Equal
          go Equal e = e
          go Less e = absurd (r.from n d (omega arith) (omega (arith, le, h.member.1)) e)
          go Greater e = absurd (not_back n place d le h.member.1
              (ap (λ z. cmp z (get_or values n d)) here ∙ o.congr h.found v (get_or values n d) h.equal
              ∙ reversed (get_or values n d) v e))

-- ---- the search for a rank

pub record IsRankWithin {V : Type 0} (cmp : V → V → Ordering) (values : List V) (value : V) (low high : ℕ) : Type 0
  where
    pub ordered : low ≤ high
    pub within : high ≤ length values
    pub less : (i : ℕ) (d : V) → i < low → cmp (get_or values i d) value ≡ Less
    pub from : (i : ℕ) (d : V) → high ≤ i → i < length values → cmp (get_or values i d) value ≢ Less

module _ {V : Type 0} (cmp : V → V → Ordering) (o : IsTotalOrder cmp) (values : List V) (sorted : IsSorted cmp values)
    (value : V) where
  pub rank_start : IsRankWithin cmp values value 0 (length values)
  rank_start = record {
    ordered = omega arith;
    within = omega arith;
    less = λ i d lt. absurd (omega (arith, lt));
    from = λ i d le lt. absurd (omega (arith, le, lt));
  }

  pub rank_up : (low high middle : ℕ) (v : V) → low ≤ middle → middle < high → get_or values middle v ≡ v
      → cmp v value ≡ Less → IsRankWithin cmp values value low high
      → IsRankWithin cmp values value (middle + 1) high
  rank_up low high middle v ge lt is e h = record {
    ordered = omega (arith, lt);
    within = h.within;
    less = λ i d l. less_before cmp o values sorted i middle d value (omega (arith, l)) (omega (arith, lt, h.within))
        (ap (λ z. cmp z value) (at_place values middle d v (omega (arith, lt, h.within)) ∙ is) ∙ e);
    from = h.from;
  }

  pub rank_down : (low high middle : ℕ) (v : V) → low ≤ middle → middle < high → get_or values middle v ≡ v
      → cmp v value ≢ Less → IsRankWithin cmp values value low high
      → IsRankWithin cmp values value low middle
  rank_down low high middle v ge lt is out h = record {
    ordered = ge;
    within = omega (arith, lt, h.within);
    less = h.less;
    from = λ i d le l e. out
        (ap (λ z. cmp z value) (sym (at_place values middle d v (omega (arith, lt, h.within)) ∙ is))
        ∙ less_before cmp o values sorted middle i d value le l e);
  }

  pub rank_end : (low high : ℕ) → high ≤ low → IsRankWithin cmp values value low high → IsRank cmp values value low
  rank_end low high le h = record {
    within = omega (arith, h.ordered, h.within);
    less = h.less;
    from = λ i d ge lt. h.from i d (omega (arith, le, ge)) lt;
  }
