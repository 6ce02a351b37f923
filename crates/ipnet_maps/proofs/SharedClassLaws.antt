-- The classes of the cells of a map of several sets.
use Rattle.std.proofs.Common.{◌≡◌, ◌≢◌, ℕ, zero, suc, ◌+◌, ◌<◌, ◌≤◌, ◌⊎◌, ◌↔◌, inl, inr}
use Rattle.std.proofs.Common.{List, [], ◌∷◌, ◌++◌, length, AllPairs, Any, Contains}
use Rattle.std.proofs.Common.{refl, sym, ap, ◌∙◌, subst, arith}
use Rattle.std.specs.List.{AllZip}
use Rattle.std.proofs.lemmas.Bool.{cases_eq}
use Rattle.ipnet_base.specs.Address.{Address}
use Rattle.ipnet_base.specs.Network.{Network, InBlock}
use Rattle.ipnet_base.proofs.BlockLaws.{own, own_in}
use Rattle.ipnet_base.proofs.DecidedLaws.{IsDecided, block_decided}
use Rattle.ipnet_base.proofs.ListLaws.{contains_nil, contains_here, contains_there, contains_cases, pairs_cons}
use Rattle.ipnet_sets.specs.declared.set.IpSet.{IpSet}
use Rattle.ipnet_sets.specs.Members.{IsMember}
use Rattle.ipnet_sets.proofs.SetEqualLaws.{member_or_not}
use Rattle.ipnet_bars.specs.Parts.{HasSome, HasNone, HasAll}
use Rattle.ipnet_maps.specs.declared.class.Class.{Class}
use Rattle.ipnet_maps.specs.declared.class.Class.TheVariants.{Overlap, Several, PartOf, WholeOf}
use Rattle.ipnet_maps.specs.Classes.{HasAt, HasSharedClass, single_classes, shared_classes}
use Rattle.ipnet_maps.specs.Shared.{IsInTwo}
use Rattle.ipnet_maps.proofs.ClassLaws.{some_or_none, distinct_none}
use Rattle.ipnet_maps.proofs.DrawingLaws.{AreClasses}
use Rattle.ipnet_maps.proofs.MemberLaws.{two_weaker, any_weaker, two_decided, at_weaker, any_at, at_from_any}
use Rattle.ipnet_maps.proofs.MemberLaws.{at_within, at_both, at_decided, at_none, one_at, any_of_two, any_zip}
use Rattle.ipnet_maps.proofs.MemberLaws.{two_zip, at_zip, zip_turned, zip_weaker}

-- ---- what is in a cell

data Kind : Type 0 where
  Over : Kind
  Many : Kind
  Part : ℕ → Kind
  Full : ℕ → Kind

abbrev class_at : Kind → Class
class_at Over = Overlap
class_at Many = Several
class_at (Part place) = PartOf place
class_at (Full place) = WholeOf place

-- an address of two sets
abbrev IsShared : List IpSet → Address → Type 0
IsShared sets x = IsInTwo (λ set. IsMember set x) sets

-- two sets with addresses of the cell
abbrev HasTwo : List IpSet → Network → Type 0
HasTwo sets n = IsInTwo (λ set. HasSome (IsMember set) n) sets

abbrev Has : List IpSet → Kind → Network → Type 0
Has sets Over n = HasSome (IsShared sets) n
Has sets Many n = HasTwo sets n × HasNone (IsShared sets) n
Has sets (Part place) n = ¬ (HasTwo sets n)
    × HasAt (λ set. HasSome (IsMember set) n × ¬ (HasAll (IsMember set) n)) sets place
Has sets (Full place) n = ¬ (HasTwo sets n) × HasAt (λ set. HasAll (IsMember set) n) sets place

shared_two : (sets : List IpSet) (n : Network) → HasSome (IsShared sets) n → HasTwo sets n
shared_two sets n s = two_weaker (λ set. IsMember set s.0) (λ set. HasSome (IsMember set) n)
    (λ set m. (s.0, record { in_block = s.1.in_block; in_set = m })) sets s.1.in_set

all_some : (set : IpSet) (n : Network) → HasAll (IsMember set) n → HasSome (IsMember set) n
all_some set n all = (own n, record { in_block = own_in n; in_set = all (own n) (own_in n) })

part_some : (sets : List IpSet) (n : Network) (place : ℕ)
    → HasAt (λ set. HasSome (IsMember set) n × ¬ (HasAll (IsMember set) n)) sets place
    → HasAt (λ set. HasSome (IsMember set) n) sets place
part_some sets n place h =
    at_weaker (λ set. HasSome (IsMember set) n × ¬ (HasAll (IsMember set) n)) (λ set. HasSome (IsMember set) n)
    (λ set p. p.0) sets place h

full_some : (sets : List IpSet) (n : Network) (place : ℕ) → HasAt (λ set. HasAll (IsMember set) n) sets place
    → HasAt (λ set. HasSome (IsMember set) n) sets place
full_some sets n place h =
    at_weaker (λ set. HasAll (IsMember set) n) (λ set. HasSome (IsMember set) n) (λ set all. all_some set n all) sets
    place h

-- one set has not both a part of a cell and all of it
part_not_full : (sets : List IpSet) (n : Network) (i j : ℕ) → i ≡ j
    → HasAt (λ set. HasSome (IsMember set) n × ¬ (HasAll (IsMember set) n)) sets i
    → HasAt (λ set. HasAll (IsMember set) n) sets j → ⊥
part_not_full sets n i j e part full =
    at_none (λ set. (HasSome (IsMember set) n × ¬ (HasAll (IsMember set) n)) × HasAll (IsMember set) n)
    (λ set p. p.0.1 p.1) sets j
    (at_both (λ set. HasSome (IsMember set) n × ¬ (HasAll (IsMember set) n)) (λ set. HasAll (IsMember set) n) sets j
    (subst (HasAt (λ set. HasSome (IsMember set) n × ¬ (HasAll (IsMember set) n)) sets) e part) full)

one_kind : (sets : List IpSet) (n : Network) (k l : Kind) → Has sets k n → Has sets l n → k ≡ l
one_kind sets n Over Over a b = refl
one_kind sets n Over Many a b = absurd (b.1 a.0 a.1.in_block a.1.in_set)
one_kind sets n Over (Part j) a b = absurd (b.0 (shared_two sets n a))
one_kind sets n Over (Full j) a b = absurd (b.0 (shared_two sets n a))
one_kind sets n Many Over a b = absurd (a.1 b.0 b.1.in_block b.1.in_set)
one_kind sets n Many Many a b = refl
one_kind sets n Many (Part j) a b = absurd (b.0 a.0)
one_kind sets n Many (Full j) a b = absurd (b.0 a.0)
one_kind sets n (Part i) Over a b = absurd (a.0 (shared_two sets n b))
one_kind sets n (Part i) Many a b = absurd (a.0 b.0)
one_kind sets n (Part i) (Part j) a b =
    ap Part (one_at (λ set. HasSome (IsMember set) n) sets i j a.0 (part_some sets n i a.1) (part_some sets n j b.1))
one_kind sets n (Part i) (Full j) a b = absurd (part_not_full sets n i j
    (one_at (λ set. HasSome (IsMember set) n) sets i j a.0 (part_some sets n i a.1) (full_some sets n j b.1)) a.1 b.1)
one_kind sets n (Full i) Over a b = absurd (a.0 (shared_two sets n b))
one_kind sets n (Full i) Many a b = absurd (a.0 b.0)
one_kind sets n (Full i) (Part j) a b = absurd (part_not_full sets n j i
    (one_at (λ set. HasSome (IsMember set) n) sets j i a.0 (part_some sets n j b.1) (full_some sets n i a.1)) b.1 a.1)
one_kind sets n (Full i) (Full j) a b =
    ap Full (one_at (λ set. HasSome (IsMember set) n) sets i j a.0 (full_some sets n i a.1) (full_some sets n j b.1))

shared_class : (sets : List IpSet) (q : Class) (n : Network) → HasSharedClass sets q n
    → (k : Kind) × (class_at k ≡ q) × Has sets k n
shared_class sets Overlap n h = (Over, refl, h)
shared_class sets Several n h = (Many, refl, h)
shared_class sets (PartOf place) n h = (Part place, refl, h)
shared_class sets (WholeOf place) n h = (Full place, refl, h)
shared_class sets q n h = absurd h

class_of_kind : (sets : List IpSet) (n : Network) (k : Kind) → Has sets k n → HasSharedClass sets (class_at k) n
class_of_kind sets n Over h = h
class_of_kind sets n Many h = h
class_of_kind sets n (Part place) h = h
class_of_kind sets n (Full place) h = h

-- ---- the list of classes

pub single_more : (place count : ℕ)
    → single_classes place (count + 1)
    ≡ single_classes place count ++ (PartOf (place + count) ∷ WholeOf (place + count) ∷ [])
single_more place zero =
    let same : place ≡ place + 0 = omega arith in ap (λ z. PartOf z ∷ WholeOf z ∷ []) same
single_more place (suc count) =
    let one : suc count + 1 ≡ suc (count + 1) = omega arith in
    let next : place + 1 + count ≡ place + suc count = omega arith in
    ap (single_classes place) one
    ∙ ap (λ z. PartOf place ∷ WholeOf place ∷ z) (single_more (place + 1) count)
    ∙ ap (λ z. PartOf place ∷ WholeOf place ∷ (single_classes (place + 1) count ++ (PartOf z ∷ WholeOf z ∷ []))) next

-- the classes of one set, at this place or later
single_member : (place count : ℕ) (q : Class) → Contains (single_classes place count) q
    → (i : ℕ) × (place ≤ i) × ((PartOf i ≡ q) ⊎ (WholeOf i ≡ q))
single_member place zero q c = absurd (contains_nil q c)
single_member place (suc count) q c =
    elim (contains_cases (PartOf place) (WholeOf place ∷ single_classes (place + 1) count) q c) [
      | inl e ↦ (place, omega arith, inl e)
      | inr d ↦ elim (contains_cases (WholeOf place) (single_classes (place + 1) count) q d) [
        | inl e ↦ (place, omega arith, inr e)
        | inr later ↦
            let rest = single_member (place + 1) count q later in
            (rest.0, omega (arith, rest.1), rest.2)
      ]
    ]

part_place : (i j : ℕ) → PartOf i ≡ PartOf j → i ≡ j
part_place i j e = cc

whole_place : (i j : ℕ) → WholeOf i ≡ WholeOf j → i ≡ j
whole_place i j e = cc

part_is_not_whole : (i j : ℕ) → PartOf i ≡ WholeOf j → ⊥
part_is_not_whole i j e = cc

-- a class of one place is none of later ones
not_later : (place later count : ℕ) → place < later → (q : Class) → Contains (single_classes later count) q
    → (PartOf place ≢ q) × (WholeOf place ≢ q)
not_later place later count less q c =
    let one = single_member later count q c in
    elim one.2 [
      | inl e ↦ (
        λ f. omega (arith, less, one.1, part_place place one.0 (f ∙ sym e)),
        λ f. part_is_not_whole one.0 place (e ∙ sym f),
      )
      | inr e ↦ (
        λ f. part_is_not_whole place one.0 (f ∙ sym e),
        λ f. omega (arith, less, one.1, whole_place place one.0 (f ∙ sym e)),
      )
    ]

single_distinct : (place count : ℕ) → AllPairs (λ q r. q ≢ r) (single_classes place count)
single_distinct place zero = distinct_none
single_distinct place (suc count) =
    let rest = single_classes (place + 1) count in
    pairs_cons (λ q r. q ≢ r) (PartOf place) (WholeOf place ∷ rest)
    (λ q c. elim (contains_cases (WholeOf place) rest q c) [
      | inl e ↦ λ f. part_is_not_whole place place (f ∙ sym e)
      | inr d ↦ (not_later place (place + 1) count (omega arith) q d).0
    ])
    (pairs_cons (λ q r. q ≢ r) (WholeOf place) rest
    (λ q c. (not_later place (place + 1) count (omega arith) q c).1) (single_distinct (place + 1) count))

-- classes of cells that several sets have are not of one set
overlap_not_single : (i : ℕ) (q : Class) → (PartOf i ≡ q) ⊎ (WholeOf i ≡ q) → Overlap ≢ q
overlap_not_single i q (inl e) = λ f. (let g : Overlap ≡ PartOf i = f ∙ sym e in cc)
overlap_not_single i q (inr e) = λ f. (let g : Overlap ≡ WholeOf i = f ∙ sym e in cc)

several_not_single : (i : ℕ) (q : Class) → (PartOf i ≡ q) ⊎ (WholeOf i ≡ q) → Several ≢ q
several_not_single i q (inl e) = λ f. (let g : Several ≡ PartOf i = f ∙ sym e in cc)
several_not_single i q (inr e) = λ f. (let g : Several ≡ WholeOf i = f ∙ sym e in cc)

overlap_not_several : Overlap ≢ Several
overlap_not_several = λ e. cc

shared_distinct : (sets : List IpSet) → AllPairs (λ q r. q ≢ r) (shared_classes sets)
shared_distinct sets =
    let rest = single_classes 0 (length sets) in
    pairs_cons (λ q r. q ≢ r) Overlap (Several ∷ rest)
    (λ q c. elim (contains_cases Several rest q c) [
      | inl e ↦ λ f. overlap_not_several (f ∙ sym e)
      | inr d ↦ let one = single_member 0 (length sets) q d in overlap_not_single one.0 q one.2
    ])
    (pairs_cons (λ q r. q ≢ r) Several rest
    (λ q c. let one = single_member 0 (length sets) q c in several_not_single one.0 q one.2)
    (single_distinct 0 (length sets)))

contains_single : (place count i : ℕ) → place ≤ i → i < place + count
    → Contains (single_classes place count) (PartOf i) × Contains (single_classes place count) (WholeOf i)
contains_single place zero i from to = absurd (omega (arith, from, to))
contains_single place (suc count) i from to =
    let rest = single_classes (place + 1) count in
    elim (cases_eq place i) [
      | inl e ↦ (
        subst (λ z. Contains (PartOf place ∷ WholeOf place ∷ rest) (PartOf z)) e
            (contains_here (PartOf place) (WholeOf place ∷ rest)),
        subst (λ z. Contains (PartOf place ∷ WholeOf place ∷ rest) (WholeOf z)) e
            (contains_there (PartOf place) (WholeOf place ∷ rest) (WholeOf place) (contains_here (WholeOf place) rest)),
      )
      | inr ne ↦
          let later = contains_single (place + 1) count i (omega (arith, from, ne)) (omega (arith, to)) in (
            contains_there (PartOf place) (WholeOf place ∷ rest) (PartOf i)
                (contains_there (WholeOf place) rest (PartOf i) later.0),
            contains_there (PartOf place) (WholeOf place ∷ rest) (WholeOf i)
                (contains_there (WholeOf place) rest (WholeOf i) later.1),
          )
    ]

kind_listed : (sets : List IpSet) (n : Network) (k : Kind) → Has sets k n → Contains (shared_classes sets) (class_at k)
kind_listed sets n Over h = contains_here Overlap (Several ∷ single_classes 0 (length sets))
kind_listed sets n Many h =
    contains_there Overlap (Several ∷ single_classes 0 (length sets)) Several
    (contains_here Several (single_classes 0 (length sets)))
kind_listed sets n (Part place) h =
    let within = at_within (λ set. HasSome (IsMember set) n) sets place (part_some sets n place h.1) in
    contains_there Overlap (Several ∷ single_classes 0 (length sets)) (PartOf place)
    (contains_there Several (single_classes 0 (length sets)) (PartOf place)
    (contains_single 0 (length sets) place (omega arith) (omega (arith, within))).0)
kind_listed sets n (Full place) h =
    let within = at_within (λ set. HasSome (IsMember set) n) sets place (full_some sets n place h.1) in
    contains_there Overlap (Several ∷ single_classes 0 (length sets)) (WholeOf place)
    (contains_there Several (single_classes 0 (length sets)) (WholeOf place)
    (contains_single 0 (length sets) place (omega arith) (omega (arith, within))).1)

-- ---- every cell with an address has a class

shared_decided : (sets : List IpSet) → IsDecided (IsShared sets)
shared_decided sets x = two_decided (λ set. IsMember set x) (λ set. member_or_not set x) sets

has_two_decided : (sets : List IpSet) (n : Network) → HasTwo sets n ⊎ ¬ (HasTwo sets n)
has_two_decided sets n = two_decided (λ set. HasSome (IsMember set) n) (λ set. elim (some_or_none (IsMember set)
    (member_or_not set) n) [
      | inl some ↦ inl some
      | inr none ↦ inr (λ some. none some.0 some.1.in_block some.1.in_set)
    ]) sets

kind_exists : (sets : List IpSet) (n : Network) → HasSome (λ x. Any (λ set. IsMember set x) sets) n
    → (k : Kind) × Has sets k n
kind_exists sets n some = elim (has_two_decided sets n) [
  | inl two ↦ elim (some_or_none (IsShared sets) (shared_decided sets) n) [
    | inl shared ↦ (Over, shared)
    | inr none ↦ (Many, (two, none))
  ]
  | inr alone ↦
      let found = at_from_any (λ set. HasSome (IsMember set) n) sets
      (any_weaker (λ set. IsMember set some.0) (λ set. HasSome (IsMember set) n)
      (λ set m. (some.0, record { in_block = some.1.in_block; in_set = m })) sets some.1.in_set) in
      elim (at_decided (λ set. HasSome (IsMember set) n) (λ set. HasAll (IsMember set) n)
      (λ set. block_decided (IsMember set) (member_or_not set) n) sets found.0 found.1) [
        | inl all ↦ (Full found.0, (alone, all))
        | inr part ↦ (Part found.0, (alone, part))
      ]
]

some_of_any : (sets : List IpSet) (n : Network) → Any (λ set. HasSome (IsMember set) n) sets
    → HasSome (λ x. Any (λ set. IsMember set x) sets) n
some_of_any sets n a =
    let one = a.4 in (one.0, record { in_block = one.1.in_block; in_set = (a.0, a.1, a.2, a.3, one.1.in_set) })

some_of_kind : (sets : List IpSet) (n : Network) (k : Kind) → Has sets k n
    → HasSome (λ x. Any (λ set. IsMember set x) sets) n
some_of_kind sets n Over h =
    some_of_any sets n (any_of_two (λ set. HasSome (IsMember set) n) sets (shared_two sets n h))
some_of_kind sets n Many h = some_of_any sets n (any_of_two (λ set. HasSome (IsMember set) n) sets h.0)
some_of_kind sets n (Part place) h =
    some_of_any sets n (any_at (λ set. HasSome (IsMember set) n) sets place (part_some sets n place h.1))
some_of_kind sets n (Full place) h =
    some_of_any sets n (any_at (λ set. HasSome (IsMember set) n) sets place (full_some sets n place h.1))

-- ---- two lists of sets that have the same addresses of a block

-- Both sets have the same addresses of the block.
abbrev pub HaveSameIn : Network → IpSet → IpSet → Type 0
HaveSameIn n s t = (x : Address) → InBlock n x → IsMember s x ↔ IsMember t x

module _ (sets others : List IpSet) (n k : Network) (to : (x : Address) → InBlock n x → InBlock k x)
    (from : (x : Address) → InBlock k x → InBlock n x) (same : AllZip (HaveSameIn n) sets others) where
  some_moved : (s t : IpSet) → HaveSameIn n s t → HasSome (IsMember s) n → HasSome (IsMember t) k
  some_moved s t e h =
      (h.0, record { in_block = to h.0 h.1.in_block; in_set = (e h.0 h.1.in_block).0 h.1.in_set })

  some_back : (s t : IpSet) → HaveSameIn n s t → HasSome (IsMember t) k → HasSome (IsMember s) n
  some_back s t e h =
      let near = from h.0 h.1.in_block in
      (h.0, record { in_block = near; in_set = (e h.0 near).1 h.1.in_set })

  all_moved : (s t : IpSet) → HaveSameIn n s t → HasAll (IsMember s) n → HasAll (IsMember t) k
  all_moved s t e all x near = let here = from x near in (e x here).0 (all x here)

  all_back : (s t : IpSet) → HaveSameIn n s t → HasAll (IsMember t) k → HasAll (IsMember s) n
  all_back s t e all x near = (e x near).1 (all x (to x near))

  shared_moved : (x : Address) → InBlock n x → IsShared sets x → IsShared others x
  shared_moved x near = two_zip (HaveSameIn n) (λ set. IsMember set x) (λ set. IsMember set x)
      (λ s t e. (e x near).0) sets others same

  shared_back : (x : Address) → InBlock n x → IsShared others x → IsShared sets x
  shared_back x near = two_zip (λ t s. HaveSameIn n s t) (λ set. IsMember set x) (λ set. IsMember set x)
      (λ t s e. (e x near).1) others sets (zip_turned (HaveSameIn n) sets others same)

  two_moved : HasTwo sets n → HasTwo others k
  two_moved = two_zip (HaveSameIn n) (λ set. HasSome (IsMember set) n) (λ set. HasSome (IsMember set) k) some_moved sets
      others same

  two_back : HasTwo others k → HasTwo sets n
  two_back = two_zip (λ t s. HaveSameIn n s t) (λ set. HasSome (IsMember set) k) (λ set. HasSome (IsMember set) n)
      (λ t s e. some_back s t e) others sets (zip_turned (HaveSameIn n) sets others same)

  kind_moved : (kind : Kind) → Has sets kind n → Has others kind k
  kind_moved Over h =
      let near = h.1.in_block in
      (h.0, record { in_block = to h.0 near; in_set = shared_moved h.0 near h.1.in_set })
  kind_moved Many h = (
    two_moved h.0,
    λ x near two. let here = from x near in h.1 x here (shared_back x here two),
  )
  kind_moved (Part place) h = (
    λ two. h.0 (two_back two),
    at_zip (HaveSameIn n) (λ set. HasSome (IsMember set) n × ¬ (HasAll (IsMember set) n))
        (λ set. HasSome (IsMember set) k × ¬ (HasAll (IsMember set) k))
        (λ s t e p. (some_moved s t e p.0, λ all. p.1 (all_back s t e all))) sets others same place h.1,
  )
  kind_moved (Full place) h = (
    λ two. h.0 (two_back two),
    at_zip (HaveSameIn n) (λ set. HasAll (IsMember set) n) (λ set. HasAll (IsMember set) k) all_moved sets others same
        place h.1,
  )

  pub shared_class_moved : (q : Class) → HasSharedClass sets q n → HasSharedClass others q k
  shared_class_moved q h =
      let kind = shared_class sets q n h in
      subst (λ z. HasSharedClass others z k) kind.1 (class_of_kind others k kind.0 (kind_moved kind.0 kind.2))

same_list : (n : Network) (sets : List IpSet) → AllZip (HaveSameIn n) sets sets
same_list n [] = tt
same_list n (s ∷ sets) = ((λ x near. (λ m. m, λ m. m)), same_list n sets)

pub shared_class_turned : (sets others : List IpSet) (n : Network) → AllZip (HaveSameIn n) sets others → (q : Class)
    → HasSharedClass others q n → HasSharedClass sets q n
shared_class_turned sets others n same q =
    shared_class_moved others sets n n (λ x a. a) (λ x a. a)
    (zip_weaker (λ t s. HaveSameIn n s t) (HaveSameIn n) (λ t s e x near. ((e x near).1, (e x near).0)) others sets
    (zip_turned (HaveSameIn n) sets others same)) q

pub any_moved : (sets others : List IpSet) (n : Network) → AllZip (HaveSameIn n) sets others → (x : Address)
    → InBlock n x → Any (λ set. IsMember set x) sets ↔ Any (λ set. IsMember set x) others
any_moved sets others n same x near = (
  any_zip (HaveSameIn n) (λ set. IsMember set x) (λ set. IsMember set x) (λ s t e. (e x near).0) sets others same,
  any_zip (λ t s. HaveSameIn n s t) (λ set. IsMember set x) (λ set. IsMember set x) (λ t s e. (e x near).1) others sets
      (zip_turned (HaveSameIn n) sets others same),
)

pub classes_of_sets : (sets : List IpSet)
    → AreClasses (λ x. Any (λ set. IsMember set x) sets) (HasSharedClass sets) (shared_classes sets)
classes_of_sets sets = record {
  distinct = shared_distinct sets;
  one = λ q r n a b.
      let k = shared_class sets q n a in
      let l = shared_class sets r n b in
      sym k.1 ∙ ap class_at (one_kind sets n k.0 l.0 k.2 l.2) ∙ l.1;
  some = λ q n a. let k = shared_class sets q n a in some_of_kind sets n k.0 k.2;
  total = λ n some.
      let k = kind_exists sets n some in
      (class_at k.0, kind_listed sets n k.0 k.1, class_of_kind sets n k.0 k.1);
  same = λ q n k same a. shared_class_moved sets sets n k same.to same.from (same_list n sets) q a;
}
