-- The fewest kept entries that cover an entry: in the order of their addresses they are neighbours.
use Rattle.std.proofs.Common.{◌≡◌, ◌≢◌, ◌↔◌, ℕ, zero, suc, ◌+◌, ◌-◌, ◌<◌, ◌≤◌, Bool, List, [], ◌∷◌, length}
use Rattle.std.proofs.Common.{map}
use Rattle.std.proofs.Common.{take, drop, get_or, All, Any, AllPairs, Contains, arith, refl, sym, ap, subst, ◌∙◌, inl}
use Rattle.std.proofs.Common.{inr}
use Rattle.std.proofs.lemmas.Bool.{cases_lt}
use Rattle.std.proofs.lemmas.List.{get_or-drop, get_or-take, get_or-map, length-drop, length-take-le, length-map}
use Rattle.std.proofs.lemmas.List.Elements.{All-map}
use Rattle.ipnet_base.specs.Address.{Family, Address, address_at}
use Rattle.ipnet_base.proofs.ListLaws.{at_place, pair_at, pairs_cons, partners_no_more, all_from_members}
use Rattle.ipnet_base.proofs.ListLaws.{all_at, contains_cases}
use Rattle.ipnet_rules.specs.KeptRules.{IsKept}
use Rattle.ipnet_rules.proofs.KeptLaws.{kept_enough, kept_needed}
use Rattle.ipnet_sets.specs.SetRanges.{IsInRange}
use Rattle.netset_entries.specs.NumberedEntries.{NumberedEntry}
use Rattle.netset_entries.specs.declared.span.Span.{Span}
use Rattle.netset_entries.specs.EntryPlaces.{IsEntryAt, HasAt}
use Rattle.netset_entries.specs.Redundancy.{AreKeptEntries, IsShortestWitness}
use Rattle.netset_entries.specs.Spans.{IsSpanIn, IsBeforeSpan, AreSpans}
use Rattle.netset_entries.specs.Covers.{IsSpanAt, IsReach, Rises, IsInNumbers}

-- the address has the family, and its number is one of the span
abbrev pub IsInSpan : Family → Span → Address → Type 0
IsInSpan f s x = (x.family ≡ f) × (s.first ≤ x.number) × (x.number ≤ s.last)

-- two entries at one index are one
pub one_entry : (entries : List NumberedEntry) (i : ℕ) (d e : NumberedEntry) → IsEntryAt entries i d
    → IsEntryAt entries i e
    → d ≡ e
one_entry entries i d e h k = sym h.1 ∙ at_place entries i d e h.0 ∙ k.1

-- the addresses of a span are those of its entry
in_span : (entries : List NumberedEntry) (flags : List Bool) (f : Family) (s : Span) → IsSpanIn entries flags f s
    → (x : Address) → HasAt entries s.place x ↔ IsInSpan f s x
in_span entries flags f s h x = (
  λ has.
      let same = one_entry entries s.place has.0 h.entry has.1 h.at in
      let inside = subst (λ r. IsInRange r x) h.range (subst (λ e. IsInRange e.range x) same has.2) in
      (inside.of_family, inside.from_start, inside.to_end),
  λ inside. (
    h.entry,
    h.at,
    subst (λ r. IsInRange r x) (sym h.range)
        (record { of_family = inside.0; from_start = inside.1; to_end = inside.2 }),
  ),
)

-- two spans at one index are one
one_span : (spans : List Span) (j k : ℕ) (s t : Span) → IsSpanAt spans j s → IsSpanAt spans k t → j ≡ k → s ≡ t
one_span spans j k s t at there same =
    sym at.1 ∙ at_place spans j s t at.0 ∙ ap (λ z. get_or spans z t) same ∙ there.1

-- what is at an index of a list
pub some_at : {X : Type 0} (xs : List X) (k : ℕ) → k < length xs → (x : X) × (get_or xs k x ≡ x)
some_at [] k less = absurd (omega (arith, less))
some_at (x ∷ xs) zero less = (x, refl)
some_at (x ∷ xs) (suc k) less = some_at xs k (omega (arith, less))

module _ (entries : List NumberedEntry) (kept : List Bool) (keeps : AreKeptEntries entries kept) (f : Family)
    (spans : List Span) (are : AreSpans entries kept f spans) where
  span_is : (k : ℕ) (s : Span) → IsSpanAt spans k s → IsSpanIn entries kept f s
  span_is k s at = are.each s (k, at.0, at.1)

  has : (k : ℕ) (s : Span) → IsSpanAt spans k s → (x : Address) → HasAt entries s.place x ↔ IsInSpan f s x
  has k s at x = in_span entries kept f s (span_is k s at) x

  before : (j k : ℕ) (s t : Span) → IsSpanAt spans j s → IsSpanAt spans k t → j < k → IsBeforeSpan s t
  before j k s t at there less =
      pair_at IsBeforeSpan spans are.ordered s t (j, at.0, at.1) (k, there.0, there.1) less

  -- spans at two indexes are of two entries
  other_place : (j k : ℕ) (s t : Span) → IsSpanAt spans j s → IsSpanAt spans k t → j < k → s.place ≢ t.place
  other_place j k s t at there less same = elim (before j k s t at there less) [
    | inl earlier ↦
        let h = span_is j s at in
        let g = span_is k t there in
        let one = one_entry entries t.place h.entry g.entry (subst (λ z. IsEntryAt entries z h.entry) same h.at) g.at in
        let firsts : s.first ≡ t.first = ap (λ r. r.start) (sym h.range ∙ ap (λ e. e.range) one ∙ g.range) in
        let wrong : ⊥ = omega (arith, earlier, firsts) in wrong
    | inr tie ↦ let wrong : ⊥ = omega (arith, tie.1, same) in wrong
  ]

  -- no other kept span has all numbers of a span
  not_inside : (j k : ℕ) (s t : Span) → IsSpanAt spans j s → IsSpanAt spans k t → t.place ≢ s.place
      → s.first ≤ t.first → t.last ≤ s.last → ⊥
  not_inside j k s t at there other low high =
      kept_needed (HasAt entries) (length entries) kept keeps t.place (span_is k t there).flag (λ x m.
      let inside = (has k t there x).0 m in (
        s.place,
        (λ e. other (sym e)),
        (span_is j s at).flag,
        (has j s at x).1 (inside.0, omega (arith, low, inside.1), omega (arith, high, inside.2)),
      ))

  -- both ends rise
  rises : (j k : ℕ) (s t : Span) → IsSpanAt spans j s → IsSpanAt spans k t → j < k
      → (s.first < t.first) × (s.last < t.last)
  rises j k s t at there less = (firsts, lasts)
    where
      other : s.place ≢ t.place
      other = other_place j k s t at there less

      low : s.first ≤ t.first
      low = elim (before j k s t at there less) [ inl a ↦ omega (arith, a) | inr a ↦ omega (arith, a.0) ]

      lasts : s.last < t.last
      lasts = elim (cases_lt s.last t.last) [
        | inl lt ↦ lt
        | inr ge ↦ absurd (not_inside j k s t at there (λ e. other (sym e)) low ge)
      ]

      firsts : s.first < t.first
      firsts = elim (cases_lt s.first t.first) [
        | inl lt ↦ lt
        | inr ge ↦ absurd (not_inside k j t s there at other ge (omega (arith, lasts)))
      ]

  -- a span after the next one does not touch it
  gaps : (a b m : ℕ) (s t u : Span) → IsSpanAt spans a s → IsSpanAt spans b t → IsSpanAt spans m u → a < b → b < m
      → s.last + 1 < u.first
  gaps a b m s t u at there far ab bm = elim (cases_lt (s.last + 1) u.first) [
    | inl lt ↦ lt
    | inr ge ↦ absurd (kept_needed (HasAt entries) (length entries) kept keeps t.place (span_is b t there).flag (λ x h.
        let inside = (has b t there x).0 h in
        elim (cases_lt s.last x.number) [
          | inl after ↦ (
            u.place,
            (λ e. other_place b m t u there far bm (sym e)),
            (span_is m u far).flag,
            (has m u far x).1 (
              inside.0,
              omega (arith, ge, after),
              omega (arith, inside.2, (rises b m t u there far bm).1),
            ),
          )
          | inr up_to ↦ (
            s.place,
            other_place a b s t at there ab,
            (span_is a s at).flag,
            (has a s at x).1 (
              inside.0,
              omega (arith, inside.1, (rises a b s t at there ab).0),
              up_to,
            ),
          )
        ]))
  ]

  -- a kept entry of the family has a span
  span_of_kept : (j : ℕ) → IsKept kept j → (x : Address) → HasAt entries j x → x.family ≡ f
      → (k : ℕ) × (s : Span) × IsSpanAt spans k s × (s.place ≡ j)
  span_of_kept j is x h of_family =
      let (s, in_list, place) = are.all j (record {
        entry = h.0;
        at = h.1;
        of_family = sym h.2.of_family ∙ of_family;
        flag = is;
        some = omega (arith, h.2.from_start, h.2.to_end);
      }) in
      (in_list.0, s, (in_list.1, in_list.2), place)

  -- an address of the family that an entry has is in a span
  spanned : (i : ℕ) (x : Address) → HasAt entries i x → x.family ≡ f
      → (k : ℕ) × (s : Span) × IsSpanAt spans k s × IsInSpan f s x
  spanned i x h of_family =
      let one = kept_enough (HasAt entries) (length entries) kept keeps x i h.1.0 h in
      let (k, s, at, place) = span_of_kept one.0 one.1 x one.2 of_family in
      (k, s, at, (has k s at x).0 (subst (λ z. HasAt entries z x) (sym place) one.2))

  pub all_rise : AllPairs Rises spans
  all_rise i j d lt less =
      rises i j (get_or spans i d) (get_or spans j d)
      (omega (arith, lt, less), at_place spans i (get_or spans i d) d (omega (arith, lt, less)))
      (less, at_place spans j (get_or spans j d) d less) lt

  pub has_number : (i n : ℕ) → HasAt entries i (address_at f n) → Any (IsInNumbers n) spans
  has_number i n h =
      let (k, s, at, inside) = spanned i (address_at f n) h refl in
      (k, s, at.0, at.1, (inside.1, inside.2))

  -- ---- spans that reach from the first number of an entry to its last cover it

  module _ (first last start end : ℕ) (i : ℕ) (ordered : first ≤ last)
      (is : (x : Address) → HasAt entries i x ↔ ((x.family ≡ f) × (first ≤ x.number) × (x.number ≤ last)))
      (reach : IsReach spans first last start end) where
    -- the entry has its numbers
    numbered : (n : ℕ) → first ≤ n → n ≤ last → HasAt entries i (address_at f n)
    numbered n low high = (is (address_at f n)).1 (refl, low, high)

    first_at : (s : Span) × IsSpanAt spans start s
    first_at =
        let less : start < length spans = omega (arith, reach.some, reach.within) in
        let (s, same) = some_at spans start less in (s, (less, same))

    last_at : (k : ℕ) × (k + 1 ≡ end) × (s : Span) × IsSpanAt spans k s
    last_at =
        let less : end - 1 < length spans = omega (arith, reach.some, reach.within) in
        let (s, same) = some_at spans (end - 1) less in (end - 1, omega (arith, reach.some), s, (less, same))

    -- the span at the start has the first number
    begins_inside : (s : Span) → IsSpanAt spans start s → first ≤ s.last
    begins_inside s at =
        let (m, t, there, inside) = spanned i (address_at f first) (numbered first (omega arith) ordered) refl in
        elim (cases_lt start m) [
          | inl past ↦
              let far = reach.after m t past there in
              let wrong : ⊥ = omega (arith, far, inside.1) in absurd wrong
          | inr up_to ↦ elim (cases_lt m start) [
            | inl before_it ↦ omega (arith, inside.2, (rises m start t s there at before_it).1)
            | inr too ↦
                let same : m ≡ start = omega (arith, up_to, too) in
                let one = one_span spans m start t s there at same in
                omega (arith, inside.2, ap (λ z. z.last) one)
          ]
        ]

    abbrev count : ℕ
    count = end - start

    abbrev run : List Span
    run = take count (drop start spans)

    run_length : length run ≡ count
    run_length = length-take-le count (drop start spans)
        (omega (arith, length-drop start spans, reach.within, reach.some))

    -- a span of the run
    in_run : (k : ℕ) (s : Span) → k < count → get_or run k s ≡ s → IsSpanAt spans (start + k) s
    in_run k s less same = (
      omega (arith, less, reach.within, reach.some),
      sym (get_or-drop start spans k s) ∙ sym (get_or-take count (drop start spans) k s less) ∙ same,
    )

    to_run : (m k : ℕ) (s : Span) → IsSpanAt spans m s → m ≡ start + k → k < count → get_or run k s ≡ s
    to_run m k s at here less =
        get_or-take count (drop start spans) k s less ∙ get_or-drop start spans k s
        ∙ ap (λ z. get_or spans z s) (sym here) ∙ at.1

    abbrev chosen : List ℕ
    chosen = map (λ s. s.place) run

    chosen_length : length chosen ≡ count
    chosen_length = length-map run (λ s. s.place) ∙ run_length

    -- a span of the run that has an address is one of the chosen
    chosen_has : (m k : ℕ) (s : Span) (x : Address) → IsSpanAt spans m s → m ≡ start + k → k < count
        → IsInSpan f s x → Any (λ j. HasAt entries j x) chosen
    chosen_has m k s x at here less inside = (
      k,
      s.place,
      omega (arith, less, chosen_length),
      get_or-map (λ t. t.place) run k s s.place (omega (arith, less, run_length))
          ∙ ap (λ t. t.place) (to_run m k s at here less),
      (has m s at x).1 inside,
    )

    covered : (x : Address) → HasAt entries i x → Any (λ j. HasAt entries j x) chosen
    covered x h =
        let inside = (is x).0 h in
        let (m, s, at, in_s) = spanned i x h inside.0 in
        elim (cases_lt m start) [
          | inl early ↦
              let (p, there) = first_at in
              chosen_has start 0 p x there (omega arith) (omega (arith, reach.some)) (
                inside.0,
                omega (arith, inside.1, reach.begins p there),
                omega (arith, in_s.2, (rises m start s p at there early).1),
              )
          | inr not ↦ elim (cases_lt m end) [
            | inl within ↦
                chosen_has m (m - start) s x at (omega (arith, not)) (omega (arith, not, within)) in_s
            | inr late ↦
                let (k, next, t, there) = last_at in
                chosen_has k (k - start) t x there (omega (arith, next, reach.some))
                (omega (arith, next, reach.some)) (
                  inside.0,
                  omega (arith, in_s.1, (rises k m t s there at (omega (arith, next, late))).0),
                  omega (arith, inside.2, reach.reaches k t next there),
                )
          ]
        ]

    kept_run : All (IsKept kept) chosen
    kept_run = All-map (IsKept kept) (λ s. s.place) run (all_from_members (λ s. IsKept kept s.place) run (λ s c.
        (span_is (start + c.0) s (in_run c.0 s (omega (arith, c.1, run_length)) c.2)).flag))

    -- ---- no fewer do

    -- the numbers of which no kept entry has two: the first, and the one after each span of the run but the last
    abbrev tail : List Span
    tail = take (count - 1) (drop start spans)

    tail_length : length tail ≡ count - 1
    tail_length = length-take-le (count - 1) (drop start spans)
        (omega (arith, length-drop start spans, reach.within, reach.some))

    abbrev next_number : Span → ℕ
    next_number s = s.last + 1

    abbrev numbers : List ℕ
    numbers = first ∷ map next_number tail

    in_tail : (k : ℕ) (s : Span) → k < count - 1 → get_or tail k s ≡ s → IsSpanAt spans (start + k) s
    in_tail k s less same = (
      omega (arith, less, reach.within, reach.some),
      sym (get_or-drop start spans k s) ∙ sym (get_or-take (count - 1) (drop start spans) k s less) ∙ same,
    )

    -- a number after a span, and the span
    after_span : (k d : ℕ) → k < count - 1
        → (s : Span) × IsSpanAt spans (start + k) s × (get_or (map next_number tail) k d ≡ s.last + 1)
    after_span k d less =
        let inside : k < length tail = omega (arith, less, tail_length) in
        let (s, same) = some_at tail k inside in (
          s,
          in_tail k s less same,
          get_or-map next_number tail k s d inside ∙ ap next_number same,
        )

    -- the kept entry at the index has the address of the number
    abbrev HasNumber : ℕ → ℕ → Type 0
    HasNumber n j = IsKept kept j × HasAt entries j (address_at f n)

    -- it has a span, which has all numbers that the entry has
    span_for : (n j : ℕ) → HasNumber n j → (m : ℕ) × (u : Span) × IsSpanAt spans m u
        × ((q : ℕ) → HasNumber q j → (u.first ≤ q) × (q ≤ u.last))
    span_for n j h =
        let (m, u, at, place) = span_of_kept j h.0 (address_at f n) h.1 refl in (
          m,
          u,
          at,
          λ q g.
              let inside = (has m u at (address_at f q)).0
              (subst (λ z. HasAt entries z (address_at f q)) (sym place) g.1) in
              (inside.1, inside.2),
        )

    inside_range : (n : ℕ) → Contains numbers n → (first ≤ n) × (n ≤ last)
    inside_range n c = elim (contains_cases first (map next_number tail) n c) [
      | inl same ↦ (omega (arith, same), omega (arith, same, ordered))
      | inr there ↦
          let less : there.0 < count - 1 = omega (arith, there.1, length-map tail next_number, tail_length) in
          let (s, at, is_next) = after_span there.0 n less in
          let short = reach.short (start + there.0) s (omega arith) (omega (arith, less)) at in
          let (p, there_p) = first_at in
          let begun = begins_inside p there_p in
          let high : p.last ≤ s.last = elim (cases_lt 0 there.0) [
            | inl later ↦
                let up = (rises start (start + there.0) p s there_p at (omega (arith, later))).1 in
                omega (arith, up)
            | inr zero_th ↦
                let one = one_span spans start (start + there.0) p s there_p at (omega (arith, zero_th)) in
                omega (arith, ap (λ z. z.last) one)
          ] in
          (omega (arith, begun, high, is_next, there.2), omega (arith, short, is_next, there.2))
    ]

    first_apart : (n : ℕ) → Contains (map next_number tail) n → (j : ℕ) → HasNumber first j → HasNumber n j → ⊥
    first_apart n c j h g =
        let less : c.0 < count - 1 = omega (arith, c.1, length-map tail next_number, tail_length) in
        let (s, at, is_next) = after_span c.0 n less in
        let (m, u, there, all) = span_for first j h in
        let low = (all first h).0 in
        let high = (all n g).1 in
        elim (cases_lt start m) [
          | inl past ↦ let far = reach.after m u past there in let wrong : ⊥ = omega (arith, far, low) in wrong
          | inr up_to ↦ elim (cases_lt m (start + c.0)) [
            | inl early ↦
                let up = (rises m (start + c.0) u s there at early).1 in
                let wrong : ⊥ = omega (arith, up, high, is_next, c.2) in wrong
            | inr not ↦
                let one = one_span spans m (start + c.0) u s there at (omega (arith, up_to, not)) in
                let wrong : ⊥ = omega (arith, ap (λ z. z.last) one, high, is_next, c.2) in wrong
          ]
        ]

    tail_apart : AllPairs (λ n q. (j : ℕ) → HasNumber n j → HasNumber q j → ⊥) (map next_number tail)
    tail_apart a b d ab inside j h g =
        let less : b < count - 1 = omega (arith, inside, length-map tail next_number, tail_length) in
        let (s, at_s, is_s) = after_span a d (omega (arith, ab, less)) in
        let (t, at_t, is_t) = after_span b d less in
        let (m, u, there, all) = span_for (get_or (map next_number tail) a d) j h in
        let low = (all (get_or (map next_number tail) a d) h).0 in
        let high = (all (get_or (map next_number tail) b d) g).1 in
        elim (cases_lt (start + b) m) [
          | inl past ↦
              let gap = gaps (start + a) (start + b) m s t u at_s at_t there (omega (arith, ab)) past in
              let wrong : ⊥ = omega (arith, gap, low, is_s) in wrong
          | inr up_to ↦ elim (cases_lt m (start + b)) [
            | inl early ↦
                let up = (rises m (start + b) u t there at_t early).1 in
                let wrong : ⊥ = omega (arith, up, high, is_t) in wrong
            | inr not ↦
                let one = one_span spans m (start + b) u t there at_t (omega (arith, up_to, not)) in
                let wrong : ⊥ = omega (arith, ap (λ z. z.last) one, high, is_t) in wrong
          ]
        ]

    pub reach_is_shortest : IsShortestWitness entries kept i chosen
    reach_is_shortest = record {
      witness = record { of_kept = kept_run; covers = covered };
      shortest = λ other w.
          let no_more = partners_no_more HasNumber numbers other
          (λ n c.
          let range = inside_range n c in
          let one = w.covers (address_at f n) (numbered n range.0 range.1) in (
            one.1,
            (one.0, one.2, one.3),
            (all_at (IsKept kept) other w.of_kept one.1 (one.0, one.2, one.3), one.4),
          ))
          (pairs_cons (λ n q. (j : ℕ) → HasNumber n j → HasNumber q j → ⊥) first (map next_number tail) first_apart
          tail_apart) in
          omega (arith, no_more, chosen_length, length-map tail next_number, tail_length, reach.some);
    }
