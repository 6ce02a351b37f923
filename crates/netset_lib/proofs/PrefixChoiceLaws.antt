-- The entries of one prefix list, and their order.
use Rattle.std.proofs.Common.{◌≡◌, ℕ, ◌+◌, ◌<◌, ◌≤◌, Bool, true, false, cond, List, [], ◌∷◌, ◌++◌, length, map, refl}
use Rattle.std.proofs.Common.{sym, ap, ◌∙◌, subst, get_or, slice_index, take, arith, All, Contains, Option, Some, None}
use Rattle.std.proofs.Common.{IfSome, IsNone, inl, inr}
use Rattle.std.specs.List.Sorted.{IsNonDecreasingBy, IsStrictlyIncreasing}
use Rattle.std.proofs.lemmas.Bool.{cases_lt}
use Rattle.ipnet_base.proofs.ListLaws.{at_place}
use Rattle.std.specs.List.{filter}
use Rattle.std.proofs.lemmas.List.{get_or-map, length-map, map_push}
use Rattle.std.proofs.lemmas.List.Elements.{All-push}
use Rattle.ipnet_rules.proofs.CellLaws.{take_next}
use Rattle.netset_lib.specs.declared.prefix_entry.NamedRule.{NamedRule}
use Rattle.netset_lib.specs.PrefixEntries.{PrefixEntry, HaveOneName, AreSideBySide, place_of}
use Rattle.netset_lib.specs.PrefixEntryOf.{entry_of}

-- a filter of values by what they are, one value more
seen_more : {X Y : Type 0} (p : Y → Bool) (f : X → Y) (x : X) (xs : List X) (b : Bool) → p (f x) ≡ b
    → map f (filter (λ z. p (f z)) xs) ≡ filter p (map f xs)
    → map f (filter (λ z. p (f z)) (x ∷ xs)) ≡ filter p (map f (x ∷ xs))
seen_more p f x xs true e h =
    ap (λ b. map f (cond b (x ∷ filter (λ z. p (f z)) xs) (filter (λ z. p (f z)) xs))) e
    ∙ ap (λ z. f x ∷ z) h
    ∙ sym (ap (λ b. cond b (f x ∷ filter p (map f xs)) (filter p (map f xs))) e)
seen_more p f x xs false e h =
    ap (λ b. map f (cond b (x ∷ filter (λ z. p (f z)) xs) (filter (λ z. p (f z)) xs))) e
    ∙ h
    ∙ sym (ap (λ b. cond b (f x ∷ filter p (map f xs)) (filter p (map f xs))) e)

-- a filter of values by what they are
pub filter_seen : {X Y : Type 0} (p : Y → Bool) (f : X → Y) (xs : List X)
    → map f (filter (λ x. p (f x)) xs) ≡ filter p (map f xs)
filter_seen p f [] = refl
filter_seen p f (x ∷ xs) = seen_more p f x xs (p (f x)) refl (filter_seen p f xs)

-- what all of the values are, one of them is
pub seen_at : {X Y : Type 0} (f : X → Y) (P : Y → Type 0) (xs : List X) (i : ℕ) (x : X) → i < length xs
    → x ≡ get_or xs i x → All P (map f xs) → P (f x)
seen_at f P xs i x less is all =
    subst (λ z. P (f z)) (sym is)
    (subst P (get_or-map f xs i x (f x) less) (all i (f x) (omega (arith, less, length-map xs f))))

-- one value more
pub all_seen_more : (P : PrefixEntry → Type 0) (xs : List NamedRule) (i : ℕ) (x : NamedRule) → i < length xs
    → x ≡ get_or xs i x → All P (map entry_of (take i xs)) → P (entry_of x) → All P (map entry_of (take (i + 1) xs))
all_seen_more P xs i x less is all here =
    let cut : take (i + 1) xs ≡ take i xs ++ x ∷ [] =
    take_next xs i x less ∙ ap (λ z. take i xs ++ z ∷ []) (sym is) in
    subst (All P) (sym (ap (map entry_of) cut ∙ map_push entry_of (take i xs) x))
    (All-push P (map entry_of (take i xs)) (entry_of x) all here)

-- an option that is not something
pub none_of_not : (o : Option ℕ) → ((o ≡ None → ⊥) → ⊥) → o ≡ None
none_of_not None h = refl
none_of_not (Some n) h = absurd (h (λ e. absurd cc))

pub none_is : (o : Option ℕ) → IsNone o → o ≡ None
none_is None h = refl
none_is (Some n) h = absurd cc

-- a value is in the list of what the values are
pub contains_seen : {X Y : Type 0} (f : X → Y) (xs : List X) (i : ℕ) (x : X) → i < length xs → x ≡ get_or xs i x
    → Contains (map f xs) (f x)
contains_seen f xs i x less is =
    (i, omega (arith, less, length-map xs f), get_or-map f xs i x (f x) less ∙ ap f (sym is))

-- all entries have the name of the first
pub one_name : (xs : List NamedRule) (n : ℕ) → length xs ≤ n
    → ((k : ℕ) (d : NamedRule) → k < n → (entry_of (get_or xs k d)).name ≡ (entry_of (get_or xs 0 d)).name)
    → HaveOneName (map entry_of xs)
one_name [] n bound same a b (k, less, is) there = absurd (let wrong : ⊥ = omega (arith, less) in wrong)
one_name (x ∷ xs) n bound same a b (k, less, is) (j, within, at) =
    let all = x ∷ xs in
    let here : k < length all = omega (arith, less, length-map all entry_of) in
    let there : j < length all = omega (arith, within, length-map all entry_of) in
    let first : a.name ≡ (entry_of (get_or all 0 x)).name =
    sym (ap (λ (e : PrefixEntry). e.name) is) ∙ ap (λ (e : PrefixEntry). e.name) (get_or-map entry_of all k x a here)
    ∙ same k x (omega (arith, here, bound)) in
    let second : b.name ≡ (entry_of (get_or all 0 x)).name =
    sym (ap (λ (e : PrefixEntry). e.name) at) ∙ ap (λ (e : PrefixEntry). e.name) (get_or-map entry_of all j x b there)
    ∙ same j x (omega (arith, there, bound)) in
    first ∙ sym second

-- the place of an entry in the list of places
pub place_seen : (xs : List NamedRule) (i : ℕ) (x : NamedRule) → i < length xs → x ≡ get_or xs i x
    → slice_index (map place_of (map entry_of xs)) i ≡ place_of (entry_of x)
place_seen xs i x less is =
    get_or-map place_of (map entry_of xs) i (entry_of x) 0 (omega (arith, less, length-map xs entry_of))
    ∙ ap place_of (get_or-map entry_of xs i x (entry_of x) less ∙ ap entry_of (sym is))

-- two entries side by side have one place
pub side_by_side : (xs : List NamedRule) (i : ℕ) (x y : NamedRule) (o : Option ℕ) → i + 1 < length xs
    → x ≡ get_or xs i x → y ≡ get_or xs (i + 1) y → place_of (entry_of x) ≡ place_of (entry_of y) → x.number ≡ o
    → IfSome o (AreSideBySide (map entry_of xs))
side_by_side xs i x y None less is at same e = tt
side_by_side xs i x y (Some n) less is at same e =
    let within : i < length xs = omega (arith, less) in (
      i,
      entry_of x,
      omega (arith, less, length-map xs entry_of),
      get_or-map entry_of xs i x (entry_of x) within ∙ ap entry_of (sym is),
      e,
      place_seen xs i x within is ∙ same ∙ sym (place_seen xs (i + 1) y less at),
    )

-- no two entries side by side have the same place
abbrev pub AreApart : List NamedRule → Type 0
AreApart xs = (i : ℕ) → i + 1 < length xs → slice_index (map place_of (map entry_of xs)) i
    ≡ slice_index (map place_of (map entry_of xs)) (i + 1) → ⊥

-- then the places rise, if they do not fall
pub rising : (xs : List NamedRule) → IsNonDecreasingBy (λ e. place_of (entry_of e)) xs → AreApart xs
    → IsStrictlyIncreasing (map place_of (map entry_of xs))
rising [] up apart i less = absurd (let wrong : ⊥ = omega (arith, less) in wrong)
rising (x ∷ xs) up apart i less =
    let all = x ∷ xs in
    let places = map place_of (map entry_of all) in
    let bound : i + 1 < length all =
    omega (arith, less, length-map (map entry_of all) place_of, length-map all entry_of) in
    let here : i < length all = omega (arith, bound) in
    let first = place_seen all i (get_or all i x) here (at_place all i x (get_or all i x) here) in
    let y = get_or all (i + 1) x in
    let second = place_seen all (i + 1) y bound (at_place all (i + 1) x y bound) in
    elim (cases_lt (slice_index places i) (slice_index places (i + 1))) [
      | inl below ↦ below
      | inr not ↦
          let same : slice_index places i ≡ slice_index places (i + 1) =
          omega (arith, first, second, up i (i + 1) x (omega arith) bound, not) in
          absurd (apart i bound same)
    ]
