-- The dropped entries of a list, one after the other, and the rules of entries.
use Rattle.std.proofs.Common.{◌≡◌, ◌≢◌, ◌⊎◌, ◌↔◌, ℕ, ◌+◌, ◌-◌, ◌<◌, ◌≤◌, Bool, true, false, List, [], ◌∷◌, ◌++◌}
use Rattle.std.proofs.Common.{length, map}
use Rattle.std.proofs.Common.{zero, suc, take, drop, get_or, All, Any, AllPairs, arith, refl, sym, ap}
use Rattle.std.proofs.Common.{subst, ◌∙◌, inl, inr}
use Rattle.std.proofs.lemmas.Bool.{cases_lt, eqb-false, eqb-true}
use Rattle.std.proofs.lemmas.List.{get_or-map, get_or_append_left, get_or_push, length-map, length-append}
use Rattle.std.proofs.lemmas.List.Elements.{All-push, All-map}
use Rattle.std.proofs.lemmas.List.Quantifiers.{all_pairs_push}
use Rattle.ipnet_base.specs.Address.{Family, Address, address_at}
use Rattle.ipnet_base.proofs.ListLaws.{at_place}
use Rattle.std.proofs.Common.{Result, Ok, not, eqb}
use Rattle.ipnet_rules.specs.declared.rules.Rule.{Rule}
use Rattle.ipnet_rules.specs.KeptRules.{IsKept, AreKept}
use Rattle.ipnet_rules.specs.Rules.{Matches}
use Rattle.ipnet_rules.specs.UnreachedRules.{MatchesAt}
use Rattle.ipnet_rules.proofs.VerdictLaws.{any_push}
use Rattle.ipnet_sets.specs.SetRanges.{range_of, IsInRange}
use Rattle.netset_entries.specs.declared.entry_list.EntryLine.{EntryLine}
use Rattle.netset_entries.specs.EntryLineOf.{numbered}
use Rattle.ipnet_lists.specs.EntryOf.{entry_range}
use Rattle.netset_entries.specs.NumberedEntries.{NumberedEntry}
use Rattle.netset_entries.specs.declared.redundancy.Covered.{Covered}
use Rattle.netset_entries.specs.declared.redundancy.Kept.{Kept}
use Rattle.netset_entries.specs.declared.span.Family.{Family as SpanFamily}
use Rattle.netset_entries.specs.declared.span.Family.TheVariants.{Ipv4, Ipv6}
use Rattle.netset_entries.specs.declared.span.Span.{Span}
use Rattle.netset_entries.specs.Covers.{IsKeptOf, IsReach, dropped_of, IsInNumbers, Rises}
use Rattle.netset_entries.specs.EntryPlaces.{IsEntryAt, HasAt}
use Rattle.netset_entries.specs.Redundancy.{AreKeptEntries, Dropped, IsShortestWitness, AreDropped}
use Rattle.netset_entries.specs.Redundancy.{HasDropped, AreAllKept, IsRedundantText}
use Rattle.netset_entries.specs.Redundancy.{dropped_lines}
use Rattle.netset_entries.specs.Spans.{AreSpans, family_of, for_family}
use Rattle.netset_entries.proofs.WitnessLaws.{reach_is_shortest, some_at, all_rise, has_number, one_entry}

-- ---- rules

-- a rule for each entry before the index, which matches its addresses
pub record AreRulesTo (lines : List EntryLine) (n : ℕ) (rules : List Rule) : Type 0 where
  pub count : length rules ≡ n
  pub matched : (i : ℕ) (r : Rule) (l : EntryLine) → i < n → get_or rules i r ≡ r → get_or lines i l ≡ l → (x : Address)
      → Matches r x ↔ IsInRange (entry_range l.entry) x

pub rules_start : (lines : List EntryLine) (rules : List Rule) → rules ≡ [] → AreRulesTo lines 0 rules
rules_start lines rules none = record {
  count = ap length none;
  matched = λ i r l less. absurd (let wrong : ⊥ = omega (arith, less) in wrong);
}

pub rules_push : (lines : List EntryLine) (n : ℕ) (rules : List Rule) (r : Rule) (line : EntryLine) → n < length lines
    → get_or lines n line ≡ line → AreRulesTo lines n rules
    → ((x : Address) → Matches r x ↔ IsInRange (entry_range line.entry) x)
    → AreRulesTo lines (n + 1) (rules ++ r ∷ [])
rules_push lines n rules r line within this h same = record {
  count = omega (arith, length-append rules (r ∷ []), h.count);
  matched = λ i q l less at there x. elim (cases_lt i n) [
    | inl before ↦
        h.matched i q l before
        (sym (get_or_append_left rules (r ∷ []) q i (omega (arith, before, h.count))) ∙ at) there x
    | inr not ↦
        let here : i ≡ n = omega (arith, less, not) in
        let rule : r ≡ q = sym (get_or_push rules r q i (omega (arith, here, h.count))) ∙ at in
        let lines_same : line ≡ l =
        sym this ∙ at_place lines n line l within ∙ ap (λ k. get_or lines k l) (sym here) ∙ there in
        subst (λ z. Matches z x ↔ IsInRange (entry_range l.entry) x) rule
        (subst (λ z. Matches r x ↔ IsInRange (entry_range z.entry) x) lines_same (same x))
  ];
}

-- the line of an entry
pub line_of : (lines : List EntryLine) (i : ℕ) (e : NumberedEntry) → IsEntryAt (map numbered lines) i e
    → (l : EntryLine) × (get_or lines i l ≡ l) × (numbered l ≡ e)
line_of [] i e at = absurd (let wrong : ⊥ = omega (arith, at.0) in wrong)
line_of (l ∷ lines) zero e at = (l, refl, at.1)
line_of (l ∷ lines) (suc i) e at = line_of lines i e (omega (arith, at.0), at.1)

-- the entry of a line
pub entry_of_line : (lines : List EntryLine) (i : ℕ) (l : EntryLine) → i < length lines → get_or lines i l ≡ l
    → IsEntryAt (map numbered lines) i (numbered l)
entry_of_line lines i l less at = (
  omega (arith, less, length-map lines numbered),
  get_or-map numbered lines i l (numbered l) less ∙ ap numbered at,
)

pub rules_end : (lines : List EntryLine) (n : ℕ) (rules : List Rule) → AreRulesTo lines n rules → n ≡ length lines
    → (i : ℕ) (x : Address) → MatchesAt rules i x ↔ HasAt (map numbered lines) i x
rules_end lines n rules h ended i x = (
  λ m.
      let less : i < length lines = omega (arith, m.1, h.count, ended) in
      let (l, at) = some_at lines i less in (
        numbered l,
        entry_of_line lines i l less at,
        (h.matched i m.0 l (omega (arith, m.1, h.count)) m.2 at x).0 m.3,
      ),
  λ has.
      let (l, at, same) = line_of lines i has.0 has.1 in
      let less : i < length rules = omega (arith, has.1.0, length-map lines numbered, h.count, ended) in
      let (r, there) = some_at rules i less in (
        r,
        less,
        there,
        (h.matched i r l (omega (arith, less, h.count)) there at x).1
            (subst (λ e. IsInRange e.range x) (sym same) has.2),
      ),
)

-- kept rules are kept entries
pub kept_same : (lines : List EntryLine) (rules : List Rule) (kept : List Bool) → length rules ≡ length lines
    → ((i : ℕ) (x : Address) → MatchesAt rules i x ↔ HasAt (map numbered lines) i x)
    → AreKept (MatchesAt rules) (length rules) kept → AreKeptEntries (map numbered lines) kept
kept_same lines rules kept count same h = record {
  flags = h.flags ∙ count ∙ sym (length-map lines numbered);
  dropped = λ i less.
      let old = h.dropped i (omega (arith, less, length-map lines numbered, count)) in (
        λ out x has.
            let (j, there, m) = old.0 out x ((same i x).1 has) in (j, there, (same j x).0 m),
        λ covered. old.1 (λ x m.
            let (j, there, has) = covered x ((same i x).0 m) in (j, there, (same j x).1 has)),
      );
}

-- ---- dropped entries

-- the dropped entries before the place
pub record AreDroppedTo (entries : List NumberedEntry) (k : Kept) (place : ℕ) (covered : List Covered) : Type 0 where
  pub ascending : AllPairs (λ c d. c.entry < d.entry) covered
  pub members : (i : ℕ) → Any (λ c. c.entry ≡ i) covered ↔ ((i < place) × ¬ (IsKept k.flags.items i))
  pub witnesses : All (λ c. IsShortestWitness entries k.flags.items c.entry
      (dropped_of k.ipv4.items k.ipv6.items c).witness) covered

pub dropped_push : (entries : List NumberedEntry) (k : Kept) (place : ℕ) (covered : List Covered) (c : Covered)
    → AreDroppedTo entries k place covered → ¬ (IsKept k.flags.items place) → c.entry ≡ place
    → IsShortestWitness entries k.flags.items place (dropped_of k.ipv4.items k.ipv6.items c).witness
    → AreDroppedTo entries k (place + 1) (covered ++ c ∷ [])
dropped_push entries k place covered c h out here shortest = record {
  ascending = all_pairs_push (λ d e. d.entry < e.entry) covered c h.ascending (λ i d less.
      let e = get_or covered i d in
      let below = ((h.members e.entry).0 (i, e, less, at_place covered i e d less, refl)).0 in
      omega (arith, below, here));
  members = λ i. (
    λ any. elim ((any_push (λ d. d.entry ≡ i) covered c).0 any) [
      | inl old ↦ let known = (h.members i).0 old in (omega (arith, known.0), known.1)
      | inr last ↦ (omega (arith, last, here), subst (λ z. ¬ (IsKept k.flags.items z)) (sym here ∙ last) out)
    ],
    λ known. (any_push (λ d. d.entry ≡ i) covered c).1 (elim (cases_lt i place) [
      | inl old ↦ inl ((h.members i).1 (old, known.1))
      | inr not ↦ inr (omega (arith, here, known.0, not))
    ]),
  );
  witnesses = All-push (λ d. IsShortestWitness entries k.flags.items d.entry
      (dropped_of k.ipv4.items k.ipv6.items d).witness) covered c h.witnesses
      (subst (λ z. IsShortestWitness entries k.flags.items z (dropped_of k.ipv4.items k.ipv6.items c).witness)
      (sym here) shortest);
}

pub dropped_skip : (entries : List NumberedEntry) (k : Kept) (place : ℕ) (covered : List Covered)
    → AreDroppedTo entries k place covered → IsKept k.flags.items place → AreDroppedTo entries k (place + 1) covered
dropped_skip entries k place covered h is = record {
  ascending = h.ascending;
  members = λ i. (
    λ any. let known = (h.members i).0 any in (omega (arith, known.0), known.1),
    λ known. elim (cases_lt i place) [
      | inl old ↦ (h.members i).1 (old, known.1)
      | inr not ↦
          let same : place ≡ i = omega (arith, known.0, not) in
          absurd (known.1 (subst (IsKept k.flags.items) same is))
    ],
  );
  witnesses = h.witnesses;
}

pub dropped_end : (entries : List NumberedEntry) (k : Kept) (place : ℕ) (covered : List Covered)
    → AreDroppedTo entries k place covered → place ≡ length entries
    → AreDropped entries k.flags.items (map (dropped_of k.ipv4.items k.ipv6.items) covered)
dropped_end entries k place covered h ended = record {
  ascending = map_pairs covered h.ascending;
  members = λ i. (
    λ any.
        let known = (h.members i).0 (any_of_map i covered any) in (omega (arith, known.0, ended), known.1),
    λ known. any_to_map i covered ((h.members i).1 (omega (arith, known.0, ended), known.1)),
  );
  witnesses = All-map (λ d. IsShortestWitness entries k.flags.items d.index d.witness) make covered h.witnesses;
}
  where
    make : Covered → Dropped
    make = dropped_of k.ipv4.items k.ipv6.items

    map_pairs : (cs : List Covered) → AllPairs (λ c d. c.entry < d.entry) cs
        → AllPairs (λ d e. d.index < e.index) (map make cs)
    map_pairs cs up i j d lt less =
        let j_less : j < length cs = omega (arith, less, length-map cs make) in
        let (c, at) = some_at cs j j_less in
        let first = get_or-map make cs i c d (omega (arith, lt, j_less)) in
        let second = get_or-map make cs j c d j_less in
        let rises = up i j c lt j_less in
        omega (arith, rises, ap (λ z. z.index) first, ap (λ z. z.index) second)

    any_of_map : (i : ℕ) (cs : List Covered) → Any (λ d. d.index ≡ i) (map make cs) → Any (λ c. c.entry ≡ i) cs
    any_of_map i cs any =
        let less : any.0 < length cs = omega (arith, any.2, length-map cs make) in
        let (c, at) = some_at cs any.0 less in
        let same : make c ≡ any.1 = ap make (sym at) ∙ sym (get_or-map make cs any.0 c any.1 less) ∙ any.3 in
        (any.0, c, less, at, ap (λ z. z.index) same ∙ any.4)

    any_to_map : (i : ℕ) (cs : List Covered) → Any (λ c. c.entry ≡ i) cs → Any (λ d. d.index ≡ i) (map make cs)
    any_to_map i cs any = (
      any.0,
      make any.1,
      omega (arith, any.2, length-map cs make),
      get_or-map make cs any.0 any.1 (make any.1) any.2 ∙ ap make any.3,
      any.4,
    )

-- ---- the cover of one entry

-- the spans of an entry without an address
none_needed : (entries : List NumberedEntry) (kept : List Bool) (i : ℕ) → ((x : Address) → ¬ (HasAt entries i x))
    → IsShortestWitness entries kept i []
none_needed entries kept i none = record {
  witness = record {
    of_kept = λ k d less. absurd (let wrong : ⊥ = omega (arith, less) in wrong);
    covers = λ x has. absurd (none x has);
  };
  shortest = λ other w. omega arith;
}

module _ (entries : List NumberedEntry) (k : Kept) (h : IsKeptOf entries k) (fam : SpanFamily) (place : ℕ)
    (e : NumberedEntry) (at : IsEntryAt entries place e) (first last : ℕ)
    (range : e.range ≡ range_of (family_of fam) first last) where
  abbrev f : Family
  f = family_of fam

  abbrev spans : List Span
  spans = for_family fam k.ipv4.items k.ipv6.items

  are : AreSpans entries k.flags.items f spans
  are = go fam
    where
      go : (g : SpanFamily) → AreSpans entries k.flags.items (family_of g) (for_family g k.ipv4.items k.ipv6.items)
      go Ipv4 = h.ipv4
      go Ipv6 = h.ipv6

  -- the entry has its numbers
  numbers : (x : Address) → HasAt entries place x ↔ ((x.family ≡ f) × (first ≤ x.number) × (x.number ≤ last))
  numbers x = (
    λ has.
        let same = one_entry entries place has.0 e has.1 at in
        let inside = subst (λ r. IsInRange r x) range (subst (λ z. IsInRange z.range x) same has.2) in
        (inside.of_family, inside.from_start, inside.to_end),
    λ inside. (
      e,
      at,
      subst (λ r. IsInRange r x) (sym range)
          (record { of_family = inside.0; from_start = inside.1; to_end = inside.2 }),
    ),
  )

  pub spans_rise : AllPairs Rises spans
  spans_rise = all_rise entries k.flags.items h.kept f spans are

  pub ends_inside : first ≤ last → Any (IsInNumbers first) spans × Any (IsInNumbers last) spans
  ends_inside ordered = (
    has_number entries k.flags.items h.kept f spans are place first
        ((numbers (address_at f first)).1 (refl, omega arith, ordered)),
    has_number entries k.flags.items h.kept f spans are place last
        ((numbers (address_at f last)).1 (refl, ordered, omega arith)),
  )

  pub cover_shortest : (start end : ℕ) → (first ≤ last → IsReach spans first last start end)
      → (last < first → (start ≡ 0) × (end ≡ 0))
      → IsShortestWitness entries k.flags.items place (map (λ s. s.place) (take (end - start) (drop start spans)))
  cover_shortest start end reach none = elim (cases_lt last first) [
    | inl empty ↦
        let zeros = none empty in
        let count : end - start ≡ 0 = omega (arith, zeros.1) in
        subst (λ z. IsShortestWitness entries k.flags.items place (map (λ s. s.place) (take z (drop start spans))))
        (sym count)
        (none_needed entries k.flags.items place (λ x has.
        let inside = (numbers x).0 has in
        let wrong : ⊥ = omega (arith, empty, inside.1, inside.2) in wrong))
    | inr ordered ↦
        reach_is_shortest entries k.flags.items h.kept f spans are first last start end place ordered numbers
        (reach ordered)
  ]

  pub cover_within : (start end : ℕ) → (first ≤ last → IsReach spans first last start end)
      → (last < first → (start ≡ 0) × (end ≡ 0)) → (start ≤ end) × (end ≤ length spans)
  cover_within start end reach none = elim (cases_lt last first) [
    | inl empty ↦ let zeros = none empty in (omega (arith, zeros.0, zeros.1), omega (arith, zeros.1))
    | inr ordered ↦ let r = reach ordered in (omega (arith, r.some), r.within)
  ]

-- ---- the answer

flag_of : (b : Bool) → (b ≡ true) ⊎ (b ≡ true → ⊥)
flag_of true = inl refl
flag_of false = inr (λ e. absurd cc)

some_dropped : (entries : List NumberedEntry) (k : Kept) → IsKeptOf entries k → (covered : List Covered)
    → AreDropped entries k.flags.items (map (dropped_of k.ipv4.items k.ipv6.items) covered) → 0 < length covered
    → HasDropped entries
some_dropped entries k h [] are some = absurd (let wrong : ⊥ = omega (arith, some) in wrong)
some_dropped entries k h (c ∷ covered) are some =
    let known = (are.members c.entry).0 (0, dropped_of k.ipv4.items k.ipv6.items c, omega arith, refl, refl) in
    record { kept = k.flags.items; are_kept = h.kept; index = c.entry; within = known.0; dropped = known.1 }

none_dropped : (entries : List NumberedEntry) (k : Kept) → IsKeptOf entries k → (covered : List Covered)
    → AreDropped entries k.flags.items (map (dropped_of k.ipv4.items k.ipv6.items) covered) → length covered ≡ 0
    → AreAllKept entries
none_dropped entries k h (c ∷ covered) are none = absurd (let wrong : ⊥ = omega (arith, none) in wrong)
none_dropped entries k h [] are none = record {
  kept = k.flags.items;
  are_kept = h.kept;
  all = λ i less. elim (flag_of (get_or k.flags.items i false)) [
    | inl is ↦ is
    | inr out ↦
        let any = (are.members i).1 (less, out) in absurd (let wrong : ⊥ = omega (arith, any.2) in wrong)
  ];
}

pub text_is : (entries : List NumberedEntry) (k : Kept) → IsKeptOf entries k → (covered : List Covered)
    → AreDropped entries k.flags.items (map (dropped_of k.ipv4.items k.ipv6.items) covered)
    → IsRedundantText entries (dropped_lines entries (map (dropped_of k.ipv4.items k.ipv6.items) covered))
text_is entries k h covered are = record {
  kept = k.flags.items;
  are_kept = h.kept;
  dropped = map (dropped_of k.ipv4.items k.ipv6.items) covered;
  are_dropped = are;
  spelled = refl;
}

-- the answer of a value that says whether nothing is dropped
pub dropped_if : {E : Type 0} (entries : List NumberedEntry) (k : Kept) → IsKeptOf entries k → (covered : List Covered)
    → AreDropped entries k.flags.items (map (dropped_of k.ipv4.items k.ipv6.items) covered) → (empty : Bool)
    → empty ≡ eqb (length covered) 0 → ◌≡◌ {A = Result Bool E} (Ok (not empty)) (Ok true) → HasDropped entries
dropped_if entries k h covered are true is ok = absurd cc
dropped_if entries k h covered are false is ok =
    let some = eqb-false (length covered) 0 (sym is) in
    some_dropped entries k h covered are (positive (length covered) some)
  where
    positive : (n : ℕ) → n ≢ 0 → 0 < n
    positive zero other = absurd (other refl)
    positive (suc n) other = omega arith

pub kept_if : {E : Type 0} (entries : List NumberedEntry) (k : Kept) → IsKeptOf entries k → (covered : List Covered)
    → AreDropped entries k.flags.items (map (dropped_of k.ipv4.items k.ipv6.items) covered) → (empty : Bool)
    → empty ≡ eqb (length covered) 0 → ◌≡◌ {A = Result Bool E} (Ok (not empty)) (Ok false) → AreAllKept entries
kept_if entries k h covered are true is ok =
    none_dropped entries k h covered are (eqb-true (length covered) 0 (sym is))
kept_if entries k h covered are false is ok = absurd cc
