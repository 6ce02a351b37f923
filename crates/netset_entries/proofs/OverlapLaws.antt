-- The pairs of spans that share an address are the pairs of entries that do.
use Rattle.std.proofs.Common.{◌≡◌, ℕ, ◌-◌, ◌<◌, ◌≤◌, Bool, true, false, List, [], ◌∷◌, ◌++◌, length}
use Rattle.std.proofs.Common.{take, drop, take_all}
use Rattle.std.proofs.Common.{get_or, All, AllPairs, Contains, Option, None, refl, sym, ap, ap₂, ◌∙◌, subst, subst₂}
use Rattle.std.proofs.Common.{arith, inl, inr, leb}
use Rattle.std.specs.List.{prefix_len}
use Rattle.std.specs.List.Sorted.{IsNonDecreasingBy, IsPartitionPoint}
use Rattle.std.proofs.lemmas.Bool.{cases_lt, leb-true, leb-false, true≢false}
use Rattle.std.proofs.lemmas.List.{length-drop, get_or-take}
use Rattle.std.proofs.lemmas.List.Elements.{Contains-append_left, Contains-append_right, Contains-append_cases}
use Rattle.std.proofs.lemmas.List.Sums.{prefix_len_is, prefix_len_passes, prefix_len_stops, prefix_len-le-length}
use Rattle.std.proofs.lemmas.List.Folds.{length-prefix_len}
use Rattle.ipnet_base.specs.Address.{Family, IPv4, IPv6, Address, address_at, family_index}
use Rattle.ipnet_base.proofs.ListLaws.{at_place, pairs_head, pairs_tail, pairs_append}
use Rattle.ipnet_base.proofs.ListLaws.{contains_nil, contains_here, contains_there, contains_cases}
use Rattle.ipnet_sets.specs.SetRanges.{range_of, IsInRange}
use Rattle.netset_entries.specs.declared.span.Span.{Span}
use Rattle.netset_entries.specs.EntryPlaces.{IsEntryAt}
use Rattle.netset_entries.specs.NumberedEntries.{NumberedEntry}
use Rattle.netset_entries.specs.Overlaps.{Placed, Pair, BeginsBefore, is_asked, IsOverlap, IsPairBefore, AreOverlaps}
use Rattle.netset_entries.specs.Overlaps.{HasOverlap}
use Rattle.netset_entries.specs.Spans.{IsSpanIn, IsBeforeSpan, AreSpans}
use Rattle.netset_entries.specs.Sweeps.{no_entry, placed, pair_of, met, if_asked, asked_pairs, pairs_of, has_some}
use Rattle.netset_entries.specs.Sweeps.{AreAllSpans, IsPlaced}

-- ---- the order of spans

first_le : (s t : Span) → IsBeforeSpan s t → s.first ≤ t.first
first_le s t (inl lt) = omega (arith, lt)
first_le s t (inr tie) = omega (arith, tie.0)

not_both : (s t : Span) → IsBeforeSpan s t → IsBeforeSpan t s → ⊥
not_both s t (inl a) (inl b) = omega (arith, a, b)
not_both s t (inl a) (inr b) = omega (arith, a, b.0)
not_both s t (inr a) (inl b) = omega (arith, a.0, b)
not_both s t (inr a) (inr b) = omega (arith, a.1, b.1)

starts_rise : (spans : List Span) → AllPairs IsBeforeSpan spans → IsNonDecreasingBy (λ s. s.first) spans
starts_rise spans up i j d le less = elim (cases_lt i j) [
  | inl lt ↦ first_le (get_or spans i d) (get_or spans j d) (up i j d lt less)
  | inr ge ↦
      let same : i ≡ j = omega (arith, le, ge) in
      omega (arith, ap (λ k. (get_or spans k d).first) same)
]

-- all that is left
pub rest_of : {X : Type 0} (n : ℕ) (xs : List X) → take (length xs - n) (drop n xs) ≡ drop n xs
rest_of n xs = take_all (length xs - n) (drop n xs) (omega (arith, length-drop n xs))

-- ---- the spans that a span meets

-- two searches find them
pub met_found : (s : Span) (rest : List Span) (end : ℕ)
    → IsPartitionPoint (λ t. leb t.first s.last ≡ true) (λ t. leb t.first s.last ≡ false) rest end
    → end ≤ length rest → take end rest ≡ met s rest
met_found s rest end point within =
    ap (λ n. take n rest) (sym (prefix_len_is (λ t. leb t.first s.last) rest end s within
    (λ k less. point.0 k s (omega arith) less) (λ less. point.1 end s (omega arith) less)))

module _ (s : Span) (rest : List Span) (up : AllPairs IsBeforeSpan rest) where
  abbrev test : Span → Bool
  test t = leb t.first s.last

  abbrev reach : ℕ
  reach = prefix_len test rest

  met_known : (t : Span) → Contains (met s rest) t → Contains rest t × (t.first ≤ s.last)
  met_known t c =
      let less : c.0 < reach = omega (arith, c.1, length-prefix_len test rest) in
      let at : get_or rest c.0 t ≡ t = sym (get_or-take reach rest c.0 t less) ∙ c.2 in
      let passes = prefix_len_passes test rest c.0 t less in (
        (c.0, omega (arith, less, prefix_len-le-length test rest), at),
        leb-true t.first s.last (subst (λ z. test z ≡ true) at passes),
      )

  met_all : (t : Span) → Contains rest t → t.first ≤ s.last → Contains (met s rest) t
  met_all t c le = elim (cases_lt c.0 reach) [
    | inl less ↦ (
      c.0,
      omega (arith, less, length-prefix_len test rest),
      get_or-take reach rest c.0 t less ∙ c.2,
    )
    | inr past ↦
        let stop = prefix_len_stops test rest t (omega (arith, past, c.1)) in
        let beyond = leb-false (get_or rest reach t).first s.last stop in
        let rises = starts_rise rest up reach c.0 t past c.1 in
        let wrong : ⊥ = omega (arith, beyond, rises, ap (λ z. z.first) c.2, le) in absurd wrong
  ]

  met_ordered : AllPairs IsBeforeSpan (met s rest)
  met_ordered i j d lt less =
      let second : j < reach = omega (arith, less, length-prefix_len test rest) in
      subst₂ IsBeforeSpan (sym (get_or-take reach rest i d (omega (arith, lt, second))))
      (sym (get_or-take reach rest j d second))
      (up i j d lt (omega (arith, second, prefix_len-le-length test rest)))

-- ---- the pairs of a span

asked_known : (entries : List NumberedEntry) (count : Option ℕ) (s : Span) (others : List Span) (p : Pair)
    → Contains (asked_pairs entries count s others) p
    → (t : Span) × Contains others t × (is_asked count s.place t.place ≡ true) × (p ≡ pair_of entries s t)
asked_known entries count s [] p c = absurd (contains_nil p c)
asked_known entries count s (t ∷ others) p c =
    elim (Contains-append_cases (if_asked (is_asked count s.place t.place) (pair_of entries s t))
    (asked_pairs entries count s others) p c) [
      | inl one ↦ go (is_asked count s.place t.place) refl one
      | inr more ↦
          let (u, there, asked, is) = asked_known entries count s others p more in
          (u, contains_there t others u there, asked, is)
    ]
  where
    go : (b : Bool) → is_asked count s.place t.place ≡ b → Contains (if_asked b (pair_of entries s t)) p
        → (u : Span) × Contains (t ∷ others) u × (is_asked count s.place u.place ≡ true) × (p ≡ pair_of entries s u)
    go true asked one = elim (contains_cases (pair_of entries s t) [] p one) [
      | inl same ↦ (t, contains_here t others, asked, sym same)
      | inr none ↦ absurd (contains_nil p none)
    ]
    go false asked one = absurd (contains_nil p one)

asked_all : (entries : List NumberedEntry) (count : Option ℕ) (s : Span) (others : List Span) (t : Span)
    → Contains others t → is_asked count s.place t.place ≡ true
    → Contains (asked_pairs entries count s others) (pair_of entries s t)
asked_all entries count s [] t c asked = absurd (contains_nil t c)
asked_all entries count s (u ∷ others) t c asked = elim (contains_cases u others t c) [
  | inl same ↦
      Contains-append_left (if_asked (is_asked count s.place u.place) (pair_of entries s u))
      (asked_pairs entries count s others) (pair_of entries s t)
      (subst (λ z. Contains (if_asked (is_asked count s.place z.place) (pair_of entries s z)) (pair_of entries s t))
      (sym same)
      (subst (λ b. Contains (if_asked b (pair_of entries s t)) (pair_of entries s t)) (sym asked)
      (contains_here (pair_of entries s t) [])))
  | inr there ↦
      Contains-append_right (if_asked (is_asked count s.place u.place) (pair_of entries s u))
      (asked_pairs entries count s others) (pair_of entries s t)
      (asked_all entries count s others t there asked)
]

-- ---- the pairs of all spans

-- a pair of spans that meet
record IsMeeting (entries : List NumberedEntry) (count : Option ℕ) (spans : List Span) (p : Pair) : Type 0 where
  pub one : Span
  pub other : Span
  pub has_one : Contains spans one
  pub has_other : Contains spans other
  pub before : IsBeforeSpan one other
  pub meets : other.first ≤ one.last
  pub asked : is_asked count one.place other.place ≡ true
  pub is : p ≡ pair_of entries one other

pairs_known : (entries : List NumberedEntry) (count : Option ℕ) (spans : List Span) → AllPairs IsBeforeSpan spans
    → (p : Pair) → Contains (pairs_of entries count spans) p → IsMeeting entries count spans p
pairs_known entries count [] up p c = absurd (contains_nil p c)
pairs_known entries count (s ∷ spans) up p c =
    elim (Contains-append_cases (asked_pairs entries count s (met s spans)) (pairs_of entries count spans) p c) [
      | inl here ↦
          let (t, in_met, asked, is) = asked_known entries count s (met s spans) p here in
          let known = met_known s spans (pairs_tail IsBeforeSpan s spans up) t in_met in record {
            one = s;
            other = t;
            has_one = contains_here s spans;
            has_other = contains_there s spans t known.0;
            before = pairs_head IsBeforeSpan s spans up t known.0;
            meets = known.1;
            asked = asked;
            is = is;
          }
      | inr later ↦
          let h = pairs_known entries count spans (pairs_tail IsBeforeSpan s spans up) p later in record {
            one = h.one;
            other = h.other;
            has_one = contains_there s spans h.one h.has_one;
            has_other = contains_there s spans h.other h.has_other;
            before = h.before;
            meets = h.meets;
            asked = h.asked;
            is = h.is;
          }
    ]

pairs_all : (entries : List NumberedEntry) (count : Option ℕ) (spans : List Span) → AllPairs IsBeforeSpan spans
    → (s t : Span) → Contains spans s → Contains spans t → IsBeforeSpan s t → t.first ≤ s.last
    → is_asked count s.place t.place ≡ true → Contains (pairs_of entries count spans) (pair_of entries s t)
pairs_all entries count [] up s t has_s has_t before meets asked = absurd (contains_nil s has_s)
pairs_all entries count (u ∷ spans) up s t has_s has_t before meets asked =
    elim (contains_cases u spans s has_s) [
      | inl first ↦ elim (contains_cases u spans t has_t) [
        | inl both ↦
            absurd (not_both s t before (subst (λ z. IsBeforeSpan z s) (sym first ∙ both)
            (subst (λ z. IsBeforeSpan s z) (sym both ∙ first) before)))
        | inr later ↦
            Contains-append_left (asked_pairs entries count u (met u spans)) (pairs_of entries count spans)
            (pair_of entries s t)
            (subst (λ z. Contains (asked_pairs entries count z (met z spans)) (pair_of entries s t)) (sym first)
            (asked_all entries count s (met s spans) t
            (met_all s spans (pairs_tail IsBeforeSpan u spans up) t later meets) asked))
      ]
      | inr after ↦ elim (contains_cases u spans t has_t) [
        | inl second ↦
            absurd (not_both s t before
            (subst (λ z. IsBeforeSpan z s) second (pairs_head IsBeforeSpan u spans up s after)))
        | inr later ↦
            Contains-append_right (asked_pairs entries count u (met u spans)) (pairs_of entries count spans)
            (pair_of entries s t)
            (pairs_all entries count spans (pairs_tail IsBeforeSpan u spans up) s t after later before meets asked)
      ]
    ]

-- ---- in one family

module _ (entries : List NumberedEntry) (count : Option ℕ) (f : Family) (flags : List Bool) where
  abbrev IsIn : Span → Type 0
  IsIn = IsSpanIn entries flags f

  -- the entry of a span
  pub placed_at : (s : Span) → IsIn s → IsEntryAt entries s.place (placed entries s).entry
  placed_at s h = (h.at.0, at_place entries s.place (placed entries s).entry no_entry h.at.0)

  pub placed_range : (s : Span) → IsIn s → (placed entries s).entry.range ≡ range_of f s.first s.last
  placed_range s h =
      ap (λ e. e.range) (at_place entries s.place no_entry h.entry h.at.0 ∙ h.at.1) ∙ h.range

  begins : (s t : Span) → IsIn s → IsIn t → IsBeforeSpan s t → BeginsBefore (placed entries s) (placed entries t)
  begins s t in_s in_t before =
      let range_s = placed_range s in_s in
      let range_t = placed_range t in_t in
      inr (
        ap (λ r. r.family) range_s ∙ sym (ap (λ r. r.family) range_t),
        elim before [
          | inl lt ↦ inl (omega (arith, lt, ap (λ r. r.start) range_s, ap (λ r. r.start) range_t))
          | inr tie ↦ inr (
            ap (λ r. r.start) range_s ∙ tie.0 ∙ sym (ap (λ r. r.start) range_t),
            tie.1,
          )
        ],
      )

  overlap : (spans : List Span) → ((s : Span) → Contains spans s → IsIn s) → (p : Pair)
      → IsMeeting entries count spans p → IsOverlap entries count p
  overlap spans each p h =
      let one = each h.one h.has_one in
      let other = each h.other h.has_other in
      subst (IsOverlap entries count) (sym h.is) (record {
        first = placed_at h.one one;
        second = placed_at h.other other;
        begins = begins h.one h.other one other h.before;
        asked = h.asked;
        address = address_at f h.other.first;
        in_first = subst (λ r. IsInRange r (address_at f h.other.first)) (sym (placed_range h.one one)) (record {
          of_family = refl;
          from_start = first_le h.one h.other h.before;
          to_end = h.meets;
        });
        in_second = subst (λ r. IsInRange r (address_at f h.other.first)) (sym (placed_range h.other other)) (record {
          of_family = refl;
          from_start = omega arith;
          to_end = other.some;
        });
      })

  -- the pairs are in order
  asked_ordered : (s : Span) (others : List Span) → ((t : Span) → Contains others t → IsIn t)
      → AllPairs IsBeforeSpan others → AllPairs IsPairBefore (asked_pairs entries count s others)
  asked_ordered s [] each up = λ i j d lt less. absurd (let wrong : ⊥ = omega (arith, less) in wrong)
  asked_ordered s (t ∷ others) each up =
      pairs_append IsPairBefore (if_asked (is_asked count s.place t.place) (pair_of entries s t))
      (asked_pairs entries count s others) (one_ordered (is_asked count s.place t.place))
      (asked_ordered s others (λ u c. each u (contains_there t others u c)) (pairs_tail IsBeforeSpan t others up))
      (λ p q in_p in_q.
      let (u, there, asked, is) = asked_known entries count s others q in_q in
      let same = one_known (is_asked count s.place t.place) p in_p in
      subst (λ z. IsPairBefore z q) (sym same)
      (subst (λ z. IsPairBefore (pair_of entries s t) z) (sym is)
      (inr (
        refl,
        begins t u (each t (contains_here t others)) (each u (contains_there t others u there))
            (pairs_head IsBeforeSpan t others up u there),
      ))))
    where
      one_ordered : (b : Bool) → AllPairs IsPairBefore (if_asked b (pair_of entries s t))
      one_ordered true = λ i j d lt less. absurd (let wrong : ⊥ = omega (arith, lt, less) in wrong)
      one_ordered false = λ i j d lt less. absurd (let wrong : ⊥ = omega (arith, less) in wrong)

      one_known : (b : Bool) (p : Pair) → Contains (if_asked b (pair_of entries s t)) p → p ≡ pair_of entries s t
      one_known true p c = elim (contains_cases (pair_of entries s t) [] p c) [
        | inl same ↦ sym same
        | inr none ↦ absurd (contains_nil p none)
      ]
      one_known false p c = absurd (contains_nil p c)

  pairs_ordered : (spans : List Span) → ((s : Span) → Contains spans s → IsIn s) → AllPairs IsBeforeSpan spans
      → AllPairs IsPairBefore (pairs_of entries count spans)
  pairs_ordered [] each up = λ i j d lt less. absurd (let wrong : ⊥ = omega (arith, less) in wrong)
  pairs_ordered (s ∷ spans) each up =
      let tail = pairs_tail IsBeforeSpan s spans up in
      let later : (t : Span) → Contains spans t → IsIn t = λ t c. each t (contains_there s spans t c) in
      pairs_append IsPairBefore (asked_pairs entries count s (met s spans)) (pairs_of entries count spans)
      (asked_ordered s (met s spans) (λ t c. later t (met_known s spans tail t c).0) (met_ordered s spans tail))
      (pairs_ordered spans later tail)
      (λ p q in_p in_q.
      let (t, there, asked, is) = asked_known entries count s (met s spans) p in_p in
      let h = pairs_known entries count spans tail q in_q in
      subst (λ z. IsPairBefore z q) (sym is)
      (subst (λ z. IsPairBefore (pair_of entries s t) z) (sym h.is)
      (inl (begins s h.one (each s (contains_here s spans)) (later h.one h.has_one)
      (pairs_head IsBeforeSpan s spans up h.one h.has_one)))))

  -- a pair of entries of the family is a pair of its spans
  module _ (spans : List Span) (flag_count : length flags ≡ length entries) (all_true : All (λ flag. flag ≡ true) flags)
      (are : AreSpans entries flags f spans) where
    span_for : (i : ℕ) (e : NumberedEntry) (x : Address) → IsEntryAt entries i e → e.range.family ≡ f
        → IsInRange e.range x → (s : Span) × Contains spans s × (s.place ≡ i)
    span_for i e x at of_family inside = are.all i (record {
      entry = e;
      at = at;
      of_family = of_family;
      flag = all_true i false (omega (arith, at.0, flag_count));
      some = omega (arith, inside.from_start, inside.to_end);
    })

    same_placed : (s : Span) (p : Placed) → IsIn s → s.place ≡ p.index → IsEntryAt entries p.index p.entry
        → p ≡ placed entries s
    same_placed s p h here at =
        ap₂ make (sym here)
        (sym at.1 ∙ at_place entries p.index p.entry no_entry at.0 ∙ ap (λ k. get_or entries k no_entry) (sym here))
      where
        make : ℕ → NumberedEntry → Placed
        make i e = record { index = i; entry = e }

    in_family : (p : Pair) → IsOverlap entries count p → p.first.entry.range.family ≡ f
        → Contains (pairs_of entries count spans) p
    in_family p h of_family =
        let (s, has_s, at_s) = span_for p.first.index p.first.entry h.address h.first of_family h.in_first in
        let second_family : p.second.entry.range.family ≡ f =
        sym h.in_second.of_family ∙ h.in_first.of_family ∙ of_family in
        let (t, has_t, at_t) = span_for p.second.index p.second.entry h.address h.second second_family h.in_second in
        let in_s = are.each s has_s in
        let in_t = are.each t has_t in
        let first : p.first ≡ placed entries s = same_placed s p.first in_s at_s h.first in
        let second : p.second ≡ placed entries t = same_placed t p.second in_t at_t h.second in
        let range_s = ap (λ q. q.entry.range) first ∙ placed_range s in_s in
        let range_t = ap (λ q. q.entry.range) second ∙ placed_range t in_t in
        let before : IsBeforeSpan s t = elim h.begins [
          | inl other ↦
              let wrong : ⊥ = omega (arith, other, ap family_index of_family, ap family_index second_family) in
              absurd wrong
          | inr same ↦ elim same.1 [
            | inl lt ↦ inl (omega (arith, lt, ap (λ r. r.start) range_s, ap (λ r. r.start) range_t))
            | inr tie ↦ inr (
              sym (ap (λ r. r.start) range_s) ∙ tie.0 ∙ ap (λ r. r.start) range_t,
              omega (arith, tie.1, at_s, at_t),
            )
          ]
        ] in
        subst (Contains (pairs_of entries count spans)) (sym (ap₂ both first second))
        (pairs_all entries count spans are.ordered s t has_s has_t before
        (omega (
          arith,
          h.in_second.from_start,
          h.in_first.to_end,
          ap (λ r. r.start) range_t,
          ap (λ r. r.end) range_s,
        ))
        (ap₂ (is_asked count) at_s at_t ∙ h.asked))
      where
        both : Placed → Placed → Pair
        both q r = record { first = q; second = r }

-- each span is of an entry of the family
pub all_placed : (entries : List NumberedEntry) (f : Family) (spans : List Span) → AreAllSpans entries f spans
    → All (IsPlaced entries f) spans
all_placed entries f spans h i d less =
    let s = get_or spans i d in
    let is = h.are.each s (i, less, at_place spans i s d less) in
    (is.at.0, ap (λ r. r.family) (placed_range entries None f h.flags s is))

-- ---- both families

pub overlaps_found : (entries : List NumberedEntry) (count : Option ℕ) (ipv4 ipv6 : List Span)
    → AreAllSpans entries IPv4 ipv4 → AreAllSpans entries IPv6 ipv6
    → AreOverlaps entries count (pairs_of entries count ipv4 ++ pairs_of entries count ipv6)
overlaps_found entries count ipv4 ipv6 h k = record {
  ordered = pairs_append IsPairBefore (pairs_of entries count ipv4) (pairs_of entries count ipv6)
      (pairs_ordered entries count IPv4 h.flags ipv4 h.are.each h.are.ordered)
      (pairs_ordered entries count IPv6 k.flags ipv6 k.are.each k.are.ordered)
      (λ p q in_p in_q.
      let m = pairs_known entries count ipv4 h.are.ordered p in_p in
      let n = pairs_known entries count ipv6 k.are.ordered q in_q in
      let first = ap (λ z. z.first.entry.range.family) m.is
      ∙ ap (λ r. r.family) (placed_range entries count IPv4 h.flags m.one (h.are.each m.one m.has_one)) in
      let second = ap (λ z. z.first.entry.range.family) n.is
      ∙ ap (λ r. r.family) (placed_range entries count IPv6 k.flags n.one (k.are.each n.one n.has_one)) in
      inl (inl (omega (arith, ap family_index first, ap family_index second))));
  each = λ p c. elim (Contains-append_cases (pairs_of entries count ipv4) (pairs_of entries count ipv6) p c) [
    | inl a ↦
        overlap entries count IPv4 h.flags ipv4 h.are.each p (pairs_known entries count ipv4 h.are.ordered p a)
    | inr b ↦
        overlap entries count IPv6 k.flags ipv6 k.are.each p (pairs_known entries count ipv6 k.are.ordered p b)
  ];
  all = λ p o. go p o p.first.entry.range.family refl;
}
  where
    go : (p : Pair) → IsOverlap entries count p → (f : Family) → p.first.entry.range.family ≡ f
        → Contains (pairs_of entries count ipv4 ++ pairs_of entries count ipv6) p
    go p o IPv4 of_family =
        Contains-append_left (pairs_of entries count ipv4) (pairs_of entries count ipv6) p
        (in_family entries count IPv4 h.flags ipv4 h.count h.each h.are p o of_family)
    go p o IPv6 of_family =
        Contains-append_right (pairs_of entries count ipv4) (pairs_of entries count ipv6) p
        (in_family entries count IPv6 k.flags ipv6 k.count k.each k.are p o of_family)

-- ---- whether there are some

pub some_overlap : (entries : List NumberedEntry) (count : Option ℕ) (pairs : List Pair)
    → AreOverlaps entries count pairs → has_some pairs ≡ true → HasOverlap entries count
some_overlap entries count [] h some = absurd (true≢false (sym some))
some_overlap entries count (p ∷ pairs) h some = (p, h.each p (contains_here p pairs))

pub no_overlap : (entries : List NumberedEntry) (count : Option ℕ) (pairs : List Pair)
    → AreOverlaps entries count pairs → has_some pairs ≡ false → HasOverlap entries count → ⊥
no_overlap entries count [] h none o = contains_nil o.0 (h.all o.0 o.1)
no_overlap entries count (p ∷ pairs) h none o = true≢false none
