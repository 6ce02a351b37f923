-- The routes of a table whose networks contain an entry, and the lines of the entries of a list.
use Rattle.std.proofs.Common.{◌≡◌, ◌<◌, ◌+◌, ◌↔◌, ◌∷◌, ◌++◌, [], ℕ, false, List, take}
use Rattle.std.proofs.Common.{length, get_or, Contains, AllPairs, inl, inr, refl, sym, ap, ◌∙◌, subst, arith}
use Rattle.std.proofs.Common.{append-nil, string_bytes}
use Rattle.std.proofs.lemmas.List.{flat_map_more, get_or-take, get_or_append_left, get_or_push, length-take}
use Rattle.std.proofs.lemmas.List.{length_push, map-append, take_more}
use Rattle.std.proofs.lemmas.List.Elements.{Contains-append_left, Contains-push, Contains-push_cases}
use Rattle.std.proofs.lemmas.List.Quantifiers.{all_pairs_push}
use Rattle.std.specs.Borrow.{Bor}
use Rattle.std.specs.List.{flat_map}
use Rattle.ipnet_base.proofs.ListLaws.{at_place, contains_nil}
use Rattle.ipnet_base.specs.Address.{address_at}
use Rattle.ipnet_base.specs.Network.{InBlock, Network}
use Rattle.ipnet_base.specs.Ranges.{AddressRange}
use Rattle.ipnet.specs.NetworkOf.{ip_network}
use Rattle.ipnet.specs.declared.net.IpNet.{IpNet}
use Rattle.ipnet.specs.declared.parser.Grammar.{Grammar}
use Rattle.ipnet_lists.proofs.RefusalLaws.{none_refused, some_refused}
use Rattle.ipnet_lists.specs.ListTexts.{IsMadeList}
use Rattle.ipnet_lists.specs.Lists.{ListEntry, Refusal, IsListRead}
use Rattle.ipnet_lists.specs.RefusedLines.{AreRefused, RefusedLines}
use Rattle.ipnet_routes.specs.Routes.{AreMatches, Route, ip_routes}
use Rattle.ipnet_routes.specs.RoutesOf.{routes_of}
use Rattle.netset_lib.proofs.EntryAnswerLaws.{answers_append, answers_same, found_none, found_push, found_same}
use Rattle.netset_lib.proofs.RouteLaws.{HasSome, ends_hold, entries_some}
use Rattle.netset_lib.specs.EntryAnswers.{AreAnswers}
use Rattle.netset_lib.specs.Routing.{HasEnds, HoldsEnds}
use Rattle.netset_lib.specs.TextTables.{HasRefusedEntries}
use Rattle.netset_routes.specs.AllRouteSteps.{AddsRoutes, AreLinesBy, AreRoutesBy, IsMissingBy}
use Rattle.netset_routes.specs.AllRoutes.{AreEntryLines, AreHolders, HasNoHolder, IsAllRoutesAnswer, TextTable}
use Rattle.netset_routes.specs.AllRoutes.{holder_line, holder_lines}
use Rattle.netset_routes.specs.declared.all_routes.EntryRoutes.{EntryRoutes}

-- a route of a table, by reference
abbrev pub Text : Type 0
Text = Bor (List ℕ)

abbrev pub LongerFirst : Route Text → Route Text → Type 0
LongerFirst r s = s.0.prefix_len < r.0.prefix_len

-- ---- the walk over the routes that contain the first address

-- The kept routes are the routes of the walk whose networks have the property, the longest first.
pub record HasKept (Has : Network → Type 0) (walked kept : List (Route Text)) : Type 0 where
  pub longest_first : AllPairs LongerFirst kept
  pub members : (r : Route Text) → Contains kept r ↔ (Contains walked r × Has r.0)

pub none_kept : (Has : Network → Type 0) → HasKept Has [] []
none_kept Has = record {
  longest_first = λ i j d l m. absurd (omega (arith, m));
  members = λ r. (λ c. absurd (contains_nil r c), λ c. absurd (contains_nil r c.0));
}

module _ (Has : Network → Type 0) (walked kept : List (Route Text)) (next : Route Text)
    (longest : AllPairs LongerFirst (walked ++ next ∷ [])) (h : HasKept Has walked kept) where
  -- the routes of the walk so far are longer than the next one
  all_longer : (r : Route Text) → Contains walked r → LongerFirst r next
  all_longer r (i, l, e) =
      let at_i : get_or (walked ++ next ∷ []) i r ≡ r = get_or_append_left walked (next ∷ []) r i l ∙ e in
      let at_end : get_or (walked ++ next ∷ []) (length walked) r ≡ next =
      get_or_push walked next r (length walked) refl in
      let pair = longest i (length walked) r l (omega (arith, length_push walked next)) in
      subst (λ s. LongerFirst s next) at_i
      (subst (LongerFirst (get_or (walked ++ next ∷ []) i r)) at_end pair)

  -- the next one is kept
  pub one_kept : Has next.0 → HasKept Has (walked ++ next ∷ []) (kept ++ next ∷ [])
  one_kept has = record {
    longest_first = all_pairs_push LongerFirst kept next h.longest_first
        (λ k d l.
        let here = (h.members (get_or kept k d)).0 (k, l, at_place kept k (get_or kept k d) d l) in
        all_longer (get_or kept k d) here.0);
    members = λ r. (
      λ c. elim (Contains-push_cases kept next r c) [
        | inl old ↦
            let (there, is) = (h.members r).0 old in (Contains-append_left walked (next ∷ []) r there, is)
        | inr e ↦ (subst (Contains (walked ++ next ∷ [])) e (Contains-push walked next), subst (λ s. Has s.0) e has)
      ],
      λ (c, is). elim (Contains-push_cases walked next r c) [
        | inl old ↦ Contains-append_left kept (next ∷ []) r ((h.members r).1 (old, is))
        | inr e ↦ subst (Contains (kept ++ next ∷ [])) e (Contains-push kept next)
      ],
    );
  }

  -- the next one is passed over
  pub one_passed : ¬ (Has next.0) → HasKept Has (walked ++ next ∷ []) kept
  one_passed lacks = record {
    longest_first = h.longest_first;
    members = λ r. (
      λ c. let (there, is) = (h.members r).0 c in (Contains-append_left walked (next ∷ []) r there, is),
      λ (c, is). elim (Contains-push_cases walked next r c) [
        | inl old ↦ (h.members r).1 (old, is)
        | inr e ↦ absurd (lacks (subst (λ s. Has s.0) (sym e) is))
      ],
    );
  }

-- the front of a list in order is in order
front_pairs : (all front : List (Route Text)) (k : ℕ) → AllPairs LongerFirst all → front ≡ take k all
    → AllPairs LongerFirst front
front_pairs all front k pairs is = subst (AllPairs LongerFirst) (sym is) (λ i j d l m.
    let short : j < k = omega (arith, m, length-take k all) in
    let long : j < length all = omega (arith, m, length-take k all) in
    subst (λ s. LongerFirst s (get_or (take k all) j d)) (sym (get_or-take k all i d (omega (arith, l, short))))
    (subst (LongerFirst (get_or all i d)) (sym (get_or-take k all j d short)) (pairs i j d l long)))

-- the walk so far, and the next route, are in order
pub walk_pairs : (all walked : List (Route Text)) (next : Route Text) → AllPairs LongerFirst all
    → walked ≡ take (length walked) all → length walked < length all → next ≡ get_or all (length walked) next
    → AllPairs LongerFirst (walked ++ next ∷ [])
walk_pairs all walked next pairs so_far inside is =
    front_pairs all (walked ++ next ∷ []) (length walked + 1) pairs
    (ap (λ z. z ++ next ∷ []) so_far ∙ ap (λ z. take (length walked) all ++ z ∷ []) is
    ∙ sym (take_more all (length walked) next inside))

-- after the walk
pub all_kept : (table : TextTable) (range : AddressRange) (walked kept : List (Route Text))
    → AreMatches (routes_of table) (address_at range.family range.start) walked
    → HasKept (λ n. InBlock n (address_at range.family range.end)) walked kept → AreHolders table (HasEnds range) kept
all_kept table range walked kept matches h = record {
  longest_first = h.longest_first;
  members = λ r. (
    λ c.
        let (there, last) = (h.members r).0 c in
        let (old, first) = (matches.members r).0 there in
        (old, (first, last)),
    λ (c, (first, last)). (h.members r).1 ((matches.members r).1 (c, first), last),
  );
}

-- ---- the lines of an entry

-- some routes have a line each
pub some_lines : (written : List ℕ) (routes : List (Route Text)) → ¬ (length routes ≡ 0)
    → flat_map (λ r. holder_line written r.0 r.1.now) routes ≡ holder_lines written routes
some_lines written [] some = absurd (some refl)
some_lines written (r ∷ routes) some = refl

-- one route more has its line
pub one_line_more : (written before now old : List ℕ) (all : List (IpNet × Text)) (i : ℕ) (r : IpNet × Text)
    → i < length all → r ≡ get_or all i r
    → old ≡ before ++ flat_map (λ q. holder_line written q.0 q.1.now) (ip_routes (take i all))
    → now ≡ old ++ holder_line written (ip_network r.0) r.1.now
    → now ≡ before ++ flat_map (λ q. holder_line written q.0 q.1.now) (ip_routes (take (i + 1) all))
one_line_more written before now old all i r within is h line =
    let f : Route Text → List ℕ = λ q. holder_line written q.0 q.1.now in
    let more : take (i + 1) all ≡ take i all ++ r ∷ [] =
    take_more all i r within ∙ ap (λ z. take i all ++ z ∷ []) (sym is) in
    line ∙ ap (λ z. z ++ f (ip_network r.0, r.1)) h
    ∙ flat_map_more f before (ip_routes (take i all)) (ip_network r.0, r.1)
    ∙ ap (λ z. before ++ flat_map f z)
    (sym (ap (λ z. ip_routes z) more ∙ map-append (λ q. (ip_network q.0, q.1)) (take i all) (r ∷ [])))

-- ---- the entries of a list

pub no_routes_made : (table : TextTable) (made : EntryRoutes) → string_bytes made.text ≡ [] → made.missing ≡ false
    → AreRoutesBy table made []
no_routes_made table made empty none =
    record { text = empty; missing = found_none (IsMissingBy table) made.missing none }

pub routes_push : (table : TextTable) (old new : EntryRoutes) (entries : List ListEntry) (e : ListEntry)
    → AreRoutesBy table old entries → AddsRoutes table old new e → AreRoutesBy table new (entries ++ e ∷ [])
routes_push table old new entries e h adds = record {
  text = subst (AreAnswers (AreLinesBy table) (entries ++ e ∷ [])) (sym adds.text)
      (answers_append (AreLinesBy table) entries (e ∷ []) (string_bytes old.text) adds.lines h.text
      (adds.lines, [], sym (append-nil adds.lines), adds.right, refl));
  missing = found_push (IsMissingBy table) entries e old.missing new.missing h.missing adds.missing;
}

-- no route contains the entry if none is kept
pub none_missing : (table : TextTable) (e : ListEntry) (holders : List (Route Text))
    → AreHolders table (HoldsEnds e) holders → length holders ≡ 0 → IsMissingBy table e
none_missing table e [] h none r c holds = contains_nil r ((h.members r).1 (c, holds))
none_missing table e (s ∷ holders) h none r c holds = absurd (omega (arith, none))

-- a route contains the entry if one is kept
pub some_there : (table : TextTable) (e : ListEntry) (holders : List (Route Text))
    → AreHolders table (HoldsEnds e) holders → ¬ (length holders ≡ 0) → ¬ (IsMissingBy table e)
some_there table e [] h some none = some refl
some_there table e (s ∷ holders) h some none =
    let (there, holds) = (h.members s).0 (0, omega arith, refl) in none s there holds

-- the holders of both ends contain the entry, which has an address
lines_same : (table : TextTable) (e : ListEntry) (text : List ℕ) → HasSome e → AreLinesBy table e text
    → AreEntryLines table e text
lines_same table e text some (holders, h, is) = (
  holders,
  record {
    longest_first = h.longest_first;
    members = λ r. (
      λ c. let (there, ends) = (h.members r).0 c in (there, (ends_hold e.range r.0 some).0 ends),
      λ (c, holds). (h.members r).1 (c, (ends_hold e.range r.0 some).1 holds),
    );
  },
  is,
)

missing_same : (table : TextTable) (e : ListEntry) → HasSome e → IsMissingBy table e ↔ HasNoHolder table e
missing_same table e some = (
  λ none r c holds. none r c ((ends_hold e.range r.0 some).1 holds),
  λ none r c holds. none r c ((ends_hold e.range r.0 some).0 holds),
)

-- the answer to a list without refused lines
pub routes_answer : (grammar : Grammar) (table : TextTable) (list : List ℕ) (made : EntryRoutes)
    (refused : RefusedLines) → IsMadeList grammar list (AreRoutesBy table made) refused → refused.count ≡ 0
    → IsAllRoutesAnswer grammar table list made.missing (string_bytes made.text)
routes_answer grammar table list made refused h none =
    let empty : h.refusals ≡ [] = none_refused refused h.refusals h.kept none in
    let whole = subst (IsListRead grammar 0 list h.entries) empty h.read in
    let (texts, contents, are) = whole in
    let some = entries_some grammar 0 1 texts h.entries [] are in
    record {
      entries = h.entries;
      read = whole;
      right = answers_same (AreLinesBy table) (AreEntryLines table) HasSome (lines_same table) h.entries
          (string_bytes made.text) some h.made.text;
      is_missing = found_same (IsMissingBy table) (HasNoHolder table) HasSome (missing_same table) made.missing
          h.entries some h.made.missing;
    }

-- ---- refused lines

-- the refused lines of a list
pub refused_entries : (grammar : Grammar) (list : List ℕ) (IsMade : List ListEntry → Type 0) (refused : RefusedLines)
    → IsMadeList grammar list IsMade refused → ¬ (refused.count ≡ 0)
    → (refusals : List Refusal) × HasRefusedEntries grammar list refusals × AreRefused refused refusals
refused_entries grammar list IsMade refused h some = (
  h.refusals,
  record { entries = h.entries; read = h.read; some = some_refused refused h.refusals h.kept some },
  h.kept,
)

-- a list without refused lines
pub only_entries : (grammar : Grammar) (list : List ℕ) (IsMade : List ListEntry → Type 0) (refused : RefusedLines)
    → IsMadeList grammar list IsMade refused → refused.count ≡ 0
    → (entries : List ListEntry) × IsListRead grammar 0 list entries []
only_entries grammar list IsMade refused h none =
    (h.entries, subst (IsListRead grammar 0 list h.entries) (none_refused refused h.refusals h.kept none) h.read)
