-- Any mix of calls on a range: each address comes at most once, and exactly once if no call passes one over.
use Rattle.std.proofs.Common.{◌≡◌, ◌≢◌, ℕ, ◌+◌, ◌-◌, ◌<◌, ◌≤◌, Option, Some, None, List, [], ◌∷◌, ◌++◌, All}
use Rattle.std.proofs.Common.{AllPairs, Any, Contains, IfSome, IfNone, MatchOption, IsPermutation, refl, sym, ap, ap₂}
use Rattle.std.proofs.Common.{◌∙◌, subst, arith, suc, inl, inr}
use Rattle.std.specs.List.{cons_option}
use Rattle.std.proofs.lemmas.Bool.{cases_lt, cases_eq}
use Rattle.std.proofs.lemmas.List.{append-nil, length-append, nil_from_length}
use Rattle.std.proofs.lemmas.List.Sorted.{length_permutation, IsPermutation-refl, IsPermutation-sym}
use Rattle.std.proofs.lemmas.List.Sorted.{IsPermutation-to_front, IsPermutation-cons, IsPermutation-trans}
use Rattle.ipnet_base.specs.Address.{Address, IsBetween, address_at}
use Rattle.ipnet_base.specs.Ranges.{AddressRange, addresses_of, address_count, with_ends, IsNext, IsNextBack, IsNth}
use Rattle.ipnet_base.specs.Ranges.{IsNthBack, Call, Next, NextBack, Nth, NthBack, IsCall, SkipsNone, Step, IsRun}
use Rattle.ipnet_base.specs.Ranges.{given}
use Rattle.ipnet_base.proofs.ListLaws.{contains_nil, contains_cases, pairs_cons, all_from_members}
use Rattle.ipnet_base.proofs.RangeLaws.{addresses_none, addresses_first, addresses_last, used_up, addresses_one}
use Rattle.ipnet_base.proofs.RangeLaws.{contains_from_between}
use Rattle.ipnet_base.proofs.RangeCallLaws.{IsNext-yields, IsNextBack-yields}

-- the address lies in the range
abbrev IsIn : AddressRange → Address → Type 0
IsIn r x = IsBetween r.family r.start r.end x

-- The effect of one call on the addresses of a range: if it returns an address, this was one of them and is not left;
-- all that are left were there before. If it returns `None`, none is left.
record TakesOut (r : AddressRange) (answer : Option Address) (t : AddressRange) : Type 0 where
  kept : (y : Address) → IsIn t y → IsIn r y
  item : IfSome answer (λ x. IsIn r x × ((y : Address) → IsIn t y → x ≢ y))
  over : IfNone answer ((y : Address) → IsIn t y → ⊥)

takes_one : (r : AddressRange) (m a b : ℕ) → r.start ≤ m → m ≤ r.end
    → ((n : ℕ) → a ≤ n → n ≤ b → (r.start ≤ n) × (n ≤ r.end) × (m ≢ n))
    → TakesOut r (Some (address_at r.family m)) (with_ends r a b)
takes_one r m a b low high rest = record {
  kept = λ y p. let q = rest y.number p.from_start p.to_end in
      record { of_family = p.of_family; from_start = q.0; to_end = q.1 };
  item = (
    record { of_family = refl; from_start = low; to_end = high },
    λ y p e. (rest y.number p.from_start p.to_end).2 (ap (λ x. x.number) e),
  );
  over = tt;
}

takes_none : (r : AddressRange) (a b : ℕ) → b < a → TakesOut r None (with_ends r a b)
takes_none r a b empty = record {
  kept = λ y p. absurd (omega (arith, p.from_start, p.to_end));
  item = tt;
  over = λ y p. omega (arith, p.from_start, p.to_end);
}

IsNext-takes_out : (r : AddressRange) (answer : Option Address) (t : AddressRange) → IsNext r answer t
    → TakesOut r answer t
IsNext-takes_out r answer t h = elim (cases_lt r.end r.start) [
  | inl empty ↦ let n = h.none empty in rw (n.0, n.1) (takes_none r r.start r.end empty)
  | inr start_le ↦ elim (cases_lt r.start r.end) [
    | inl below ↦ let n = h.several below in
        rw (n.0, n.1) (takes_one r r.start (r.start + 1) r.end (omega arith) (omega arith)
        (λ k lo hi. (omega arith, omega arith, omega arith)))
    | inr end_le ↦ let n = h.one (omega arith) in
        rw (n.0, n.1) (takes_one r r.start 1 0 (omega arith) (omega arith) (λ k lo hi. absurd (omega arith)))
  ]
]

IsNextBack-takes_out : (r : AddressRange) (answer : Option Address) (t : AddressRange) → IsNextBack r answer t
    → TakesOut r answer t
IsNextBack-takes_out r answer t h = elim (cases_lt r.end r.start) [
  | inl empty ↦ let n = h.none empty in rw (n.0, n.1) (takes_none r r.start r.end empty)
  | inr start_le ↦ elim (cases_lt r.start r.end) [
    | inl below ↦ let n = h.several below in
        rw (n.0, n.1) (takes_one r r.end r.start (r.end - 1) (omega arith) (omega arith)
        (λ k lo hi. (omega arith, omega arith, omega arith)))
    | inr end_le ↦ let n = h.one (omega arith) in
        rw (n.0, n.1) (takes_one r r.start 1 0 (omega arith) (omega arith) (λ k lo hi. absurd (omega arith)))
  ]
]

IsNth-takes_out : (n : ℕ) (r : AddressRange) (answer : Option Address) (t : AddressRange) → IsNth n r answer t
    → TakesOut r answer t
IsNth-takes_out n r answer t h = elim (cases_lt n (address_count r)) [
  | inr past ↦ let g = h.past past in rw (g.0, g.1) (takes_none r 1 0 (omega arith))
  | inl within ↦ elim (cases_eq (n + 1) (address_count r)) [
    | inl e ↦ let g = h.last e in
        rw (g.0, g.1) (takes_one r r.end 1 0 (omega arith) (omega arith) (λ k lo hi. absurd (omega arith)))
    | inr ne ↦ let g = h.before (omega arith) in
        rw (g.0, g.1) (takes_one r (r.start + n) (r.start + n + 1) r.end (omega arith) (omega arith)
        (λ k lo hi. (omega arith, omega arith, omega arith)))
  ]
]

IsNthBack-takes_out : (n : ℕ) (r : AddressRange) (answer : Option Address) (t : AddressRange) → IsNthBack n r answer t
    → TakesOut r answer t
IsNthBack-takes_out n r answer t h = elim (cases_lt n (address_count r)) [
  | inr past ↦ let g = h.past past in rw (g.0, g.1) (takes_none r 1 0 (omega arith))
  | inl within ↦ elim (cases_eq (n + 1) (address_count r)) [
    | inl e ↦ let g = h.first e in
        rw (g.0, g.1) (takes_one r r.start 1 0 (omega arith) (omega arith) (λ k lo hi. absurd (omega arith)))
    | inr ne ↦ let g = h.after (omega arith) in
        rw (g.0, g.1) (takes_one r (r.end - n) r.start (r.end - n - 1) (omega arith) (omega arith)
        (λ k lo hi. (omega arith, omega arith, omega arith)))
  ]
]

takes_out : (call : Call) (r : AddressRange) (answer : Option Address) (t : AddressRange) → IsCall call r answer t
    → TakesOut r answer t
takes_out Next r answer t h = IsNext-takes_out r answer t h
takes_out NextBack r answer t h = IsNextBack-takes_out r answer t h
takes_out (Nth n) r answer t h = IsNth-takes_out n r answer t h
takes_out (NthBack n) r answer t h = IsNthBack-takes_out n r answer t h

-- ---- each at most once

-- the addresses of the steps after a first one are left after it
left_after : (step : Step) (r t : AddressRange) (later : List Address) → TakesOut r step.answer t
    → ((x : Address) → Contains later x → IsIn t x) → (x : Address) → Contains (cons_option step.answer later) x
    → IsIn r x
left_after step r t later out left x c = go step.answer out c
  where
    go : (answer : Option Address) → TakesOut r answer t → Contains (cons_option answer later) x → IsIn r x
    go None out' c' = out'.kept x (left x c')
    go (Some y) out' c' = elim (contains_cases y later x c') [
      | inl e ↦ subst (IsIn r) e out'.item.0
      | inr there ↦ out'.kept x (left x there)
    ]

given_is_in : (r s : AddressRange) (steps : List Step) → IsRun r steps s → (x : Address) → Contains (given steps) x
    → IsIn r x
given_is_in r s [] h x c = absurd (contains_nil x c)
given_is_in r s (step ∷ steps) h x c =
    left_after step r h.0 (given steps) (takes_out step.call r step.answer h.0 h.1) (given_is_in h.0 s steps h.2) x c

-- and an address in front of these is none of them
apart : (step : Step) (r t : AddressRange) (later : List Address) → TakesOut r step.answer t
    → ((x : Address) → Contains later x → IsIn t x) → AllPairs (λ x y. x ≢ y) later
    → AllPairs (λ x y. x ≢ y) (cons_option step.answer later)
apart step r t later out left pairs = go step.answer out
  where
    go : (answer : Option Address) → TakesOut r answer t → AllPairs (λ x y. x ≢ y) (cons_option answer later)
    go None out' = pairs
    go (Some x) out' = pairs_cons (λ y z. y ≢ z) x later (λ y c. out'.item.1 y (left y c)) pairs

pub given_once : (r s : AddressRange) (steps : List Step) → IsRun r steps s → AllPairs (λ x y. x ≢ y) (given steps)
given_once r s [] h = λ i j d lt l. absurd (omega arith)
given_once r s (step ∷ steps) h =
    apart step r h.0 (given steps) (takes_out step.call r step.answer h.0 h.1) (given_is_in h.0 s steps h.2)
    (given_once h.0 s steps h.2)

pub given_from_range : (r s : AddressRange) (steps : List Step) → IsRun r steps s
    → All (Contains (addresses_of r)) (given steps)
given_from_range r s steps h =
    all_from_members (Contains (addresses_of r)) (given steps)
    (λ x c. contains_from_between r x (given_is_in r s steps h x c))

-- ---- after None comes None

no_answer : (r : AddressRange) (answer : Option Address) (t : AddressRange) → TakesOut r answer t
    → ((y : Address) → IsIn r y → ⊥) → answer ≡ None
no_answer r None t out empty = refl
no_answer r (Some x) t out empty = absurd (empty x out.item.0)

none_left : (r s : AddressRange) (steps : List Step) → ((y : Address) → IsIn r y → ⊥) → IsRun r steps s → (step : Step)
    → Contains steps step → step.answer ≡ None
none_left r s [] empty h step c = absurd (contains_nil step c)
none_left r s (first ∷ steps) empty h step c =
    let out = takes_out first.call r first.answer h.0 h.1 in
    elim (contains_cases first steps step c) [
      | inl e ↦ subst (λ (k : Step). k.answer ≡ None) e (no_answer r first.answer h.0 out empty)
      | inr later ↦ none_left h.0 s steps (λ y p. empty y (out.kept y p)) h.2 step later
    ]

empty_after : (r : AddressRange) (answer : Option Address) (t : AddressRange) → TakesOut r answer t → answer ≡ None
    → (y : Address) → IsIn t y → ⊥
empty_after r None t out e = out.over
empty_after r (Some x) t out e = absurd (cc)

pub none_stays : (r s : AddressRange) (steps : List Step) → IsRun r steps s
    → AllPairs (λ step later. step.answer ≡ None → later.answer ≡ None) steps
none_stays r s [] h = λ i j d lt l. absurd (omega arith)
none_stays r s (first ∷ steps) h =
    pairs_cons (λ step later. step.answer ≡ None → later.answer ≡ None) first steps
    (λ later c e. none_left h.0 s steps (empty_after r first.answer h.0 (takes_out first.call r first.answer h.0 h.1)
    e) h.2 later c)
    (none_stays h.0 s steps h.2)

-- ---- each exactly once, if no call passes one over

same_list : {xs ys : List Address} → xs ≡ ys → IsPermutation xs ys
same_list {xs} e = subst (IsPermutation xs) e (IsPermutation-refl xs)

-- A call that passes over no address returns one of those that were there, and the others are left; or it
-- returns `None`, and none was there.
abbrev Spends : AddressRange → Option Address → AddressRange → Type 0
Spends r answer t =
    MatchOption answer ((addresses_of r ≡ []) × (addresses_of t ≡ []))
    (λ x. IsPermutation (x ∷ addresses_of t) (addresses_of r))

next_spends : (r : AddressRange) (answer : Option Address) (t : AddressRange)
    → MatchOption answer ((addresses_of r ≡ []) × (addresses_of t ≡ [])) (λ x. addresses_of r ≡ x ∷ addresses_of t)
    → Spends r answer t
next_spends r None t h = h
next_spends r (Some x) t h = same_list (sym h)

next_back_spends : (r : AddressRange) (answer : Option Address) (t : AddressRange)
    → MatchOption answer ((addresses_of r ≡ []) × (addresses_of t ≡ []))
    (λ x. addresses_of r ≡ addresses_of t ++ x ∷ []) → Spends r answer t
next_back_spends r None t h = h
next_back_spends r (Some x) t h =
    IsPermutation-trans (x ∷ addresses_of t) (addresses_of t ++ x ∷ []) (addresses_of r)
    (IsPermutation-sym (addresses_of t ++ x ∷ []) (x ∷ addresses_of t) (IsPermutation-to_front (addresses_of t) x))
    (same_list (sym h))

-- `nth(0)` returns the same as `next`
IsNth-is_next : (n : ℕ) (r : AddressRange) (answer : Option Address) (t : AddressRange) → n ≡ 0 → IsNth n r answer t
    → MatchOption answer ((addresses_of r ≡ []) × (addresses_of t ≡ [])) (λ x. addresses_of r ≡ x ∷ addresses_of t)
IsNth-is_next n r answer t zero_is h = elim (cases_lt n (address_count r)) [
  | inr past ↦ let g = h.past past in rw (g.0, g.1) (addresses_none r (omega arith), used_up r)
  | inl within ↦ elim (cases_eq (n + 1) (address_count r)) [
    | inl e ↦ let g = h.last e in
        let one : r.start ≡ r.end = omega arith in
        rw (g.0, g.1, used_up r) (addresses_one r one ∙ ap (λ m. address_at r.family m ∷ []) one)
    | inr ne ↦ let g = h.before (omega arith) in
        rw (g.0, g.1) (addresses_first r (omega arith)
        ∙ ap₂ (λ m k. address_at r.family m ∷ addresses_of (with_ends r k r.end)) (omega arith) (omega arith))
  ]
]

IsNthBack-is_next_back : (n : ℕ) (r : AddressRange) (answer : Option Address) (t : AddressRange) → n ≡ 0
    → IsNthBack n r answer t
    → MatchOption answer ((addresses_of r ≡ []) × (addresses_of t ≡ []))
    (λ x. addresses_of r ≡ addresses_of t ++ x ∷ [])
IsNthBack-is_next_back n r answer t zero_is h = elim (cases_lt n (address_count r)) [
  | inr past ↦ let g = h.past past in rw (g.0, g.1) (addresses_none r (omega arith), used_up r)
  | inl within ↦ elim (cases_eq (n + 1) (address_count r)) [
    | inl e ↦ let g = h.first e in rw (g.0, g.1, used_up r) (addresses_one r (omega arith))
    | inr ne ↦ let g = h.after (omega arith) in
        rw (g.0, g.1) (addresses_last r (omega arith) (omega arith)
        ∙ ap₂ (λ m k. addresses_of (with_ends r r.start k) ++ address_at r.family m ∷ []) (omega arith)
        (omega arith))
  ]
]

spends : (call : Call) (r : AddressRange) (answer : Option Address) (t : AddressRange) → SkipsNone call
    → IsCall call r answer t → Spends r answer t
spends Next r answer t none h = next_spends r answer t (IsNext-yields r answer t h)
spends NextBack r answer t none h = next_back_spends r answer t (IsNextBack-yields r answer t h)
spends (Nth n) r answer t none h = next_spends r answer t (IsNth-is_next n r answer t none h)
spends (NthBack n) r answer t none h = next_back_spends r answer t (IsNthBack-is_next_back n r answer t none h)

one_more : (r : AddressRange) (answer : Option Address) (t : AddressRange) (later rest : List Address)
    → Spends r answer t
    → IsPermutation (later ++ rest) (addresses_of t) → IsPermutation (cons_option answer later ++ rest) (addresses_of r)
one_more r None t later rest out h = subst (IsPermutation (later ++ rest)) (out.1 ∙ sym out.0) h
one_more r (Some x) t later rest out h =
    IsPermutation-trans (x ∷ (later ++ rest)) (x ∷ addresses_of t) (addresses_of r)
    (IsPermutation-cons x (later ++ rest) (addresses_of t) h) out

-- what was given and what is left are together the addresses of the range
given_and_left : (r s : AddressRange) (steps : List Step) → IsRun r steps s → All (λ step. SkipsNone step.call) steps
    → IsPermutation (given steps ++ addresses_of s) (addresses_of r)
given_and_left r s [] h none = same_list (ap addresses_of (sym h))
given_and_left r s (step ∷ steps) h none =
    one_more r step.answer h.0 (given steps) (addresses_of s)
    (spends step.call r step.answer h.0 (none 0 step (omega arith)) h.1)
    (given_and_left h.0 s steps h.2 (λ k d l. none (suc k) d (omega arith)))

nothing_left : (xs ys : List Address) → IsPermutation (xs ++ ys) [] → ys ≡ []
nothing_left xs ys h =
    let len = length_permutation (xs ++ ys) [] h in
    nil_from_length ys (omega (arith, length-append xs ys, len))

left_after_none : (r : AddressRange) (answer : Option Address) (t : AddressRange) → Spends r answer t → answer ≡ None
    → addresses_of t ≡ []
left_after_none r None t out e = out.1
left_after_none r (Some x) t out e = absurd (cc)

none_empties : (r s : AddressRange) (steps : List Step) → IsRun r steps s → All (λ step. SkipsNone step.call) steps
    → (step : Step) → Contains steps step → step.answer ≡ None → addresses_of s ≡ []
none_empties r s [] h none step c e = absurd (contains_nil step c)
none_empties r s (first ∷ steps) h none step c e =
    let later_none : All (λ k. SkipsNone k.call) steps = λ k d l. none (suc k) d (omega arith) in
    elim (contains_cases first steps step c) [
      | inl same ↦
          let empty : addresses_of h.0 ≡ [] =
          left_after_none r first.answer h.0
          (spends first.call r first.answer h.0 (none 0 first (omega arith)) h.1)
          (ap (λ (k : Step). k.answer) same ∙ e) in
          nothing_left (given steps) (addresses_of s)
          (subst (IsPermutation (given steps ++ addresses_of s)) empty (given_and_left h.0 s steps h.2 later_none))
      | inr later ↦ none_empties h.0 s steps h.2 later_none step later e
    ]

pub given_exactly_once : (r s : AddressRange) (steps : List Step) → IsRun r steps s
    → All (λ step. SkipsNone step.call) steps
    → Any (λ step. step.answer ≡ None) steps → IsPermutation (given steps) (addresses_of r)
given_exactly_once r s steps h none ended =
    let empty : addresses_of s ≡ [] = none_empties r s steps h none ended.1 (ended.0, ended.2, ended.3) ended.4 in
    let all : given steps ++ addresses_of s ≡ given steps =
    ap (λ (rest : List Address). given steps ++ rest) empty ∙ append-nil (given steps) in
    subst (λ xs. IsPermutation xs (addresses_of r)) all (given_and_left r s steps h none)
