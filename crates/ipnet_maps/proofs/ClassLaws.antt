-- The classes of the cells of a map.
use Rattle.std.proofs.Common.{◌≡◌, ◌≢◌, ℕ, ◌-◌, ◌*◌, ◌^◌, ◌<◌, ◌≤◌, ◌⊎◌, ◌↔◌, inl, inr}
use Rattle.std.proofs.Common.{List, [], ◌∷◌, length, AllPairs, All, Contains}
use Rattle.std.proofs.Common.{refl, sym, ap, ap₂, ◌∙◌, subst, arith}
use Rattle.std.proofs.lemmas.Bool.{cases_lt, cases_eq}
use Rattle.std.proofs.lemmas.List.Elements.{All-nil, All-cons}
use Rattle.ipnet_base.specs.Address.{Address, width}
use Rattle.ipnet_base.specs.Network.{Network}
use Rattle.ipnet_base.proofs.DecidedLaws.{IsDecided}
use Rattle.ipnet_base.proofs.ListLaws.{all_at, contains_nil, contains_here, contains_there, contains_cases}
use Rattle.ipnet_base.proofs.ListLaws.{pairs_head, pairs_tail, pairs_cons}
use Rattle.ipnet_sets.specs.Members.{IsCountOf}
use Rattle.ipnet_sets.proofs.CountSums.{one_count}
use Rattle.ipnet_maps.specs.declared.level.Level.{Level}
use Rattle.ipnet_maps.specs.declared.level.Level.TheVariants as level
use Rattle.ipnet_sets.specs.Parts.{IsInPart}
use Rattle.ipnet_bars.specs.Parts.{HasSome, HasNone, block_size}
use Rattle.ipnet_maps.specs.Levels.{IsShare, IsLevelOf}
use Rattle.ipnet_bars.proofs.PartLaws.{same_count, block_counted, part_fits, nothing_counted}
use Rattle.ipnet_maps.proofs.ShareLaws.{nothing_shown}
use Rattle.ipnet_maps.specs.declared.class.Class.{Class}
use Rattle.ipnet_maps.specs.declared.class.Class.TheVariants.{Sparse, BelowQuarter, FromQuarter, Whole, Removed}
use Rattle.ipnet_maps.specs.Classes.{HasLevelClass, level_classes}
use Rattle.ipnet_maps.proofs.LevelLaws.{some_counted, one_level, some_level}
use Rattle.ipnet_maps.proofs.DrawingLaws.{IsSameCell, AreClasses}

-- ---- counts of parts

record IsPicked (A : Address → Type 0) (xs : List Address) : Type 0 where
  addresses : List Address
  once : AllPairs (λ x y. x ≢ y) addresses
  members : (x : Address) → Contains addresses x ↔ (Contains xs x × A x)

-- the members of a list that are in a set
picked : (A : Address → Type 0) → IsDecided A → (xs : List Address) → AllPairs (λ x y. x ≢ y) xs → IsPicked A xs
picked A decided [] once = record {
  addresses = [];
  once = once;
  members = λ x. (λ c. absurd (contains_nil x c), λ b. b.0);
}
picked A decided (x ∷ xs) once =
    let rest = picked A decided xs (pairs_tail (λ a b. a ≢ b) x xs once) in
    elim (decided x) [
      | inl a ↦ record {
        addresses = x ∷ rest.addresses;
        once = pairs_cons (λ u v. u ≢ v) x rest.addresses
            (λ y c. pairs_head (λ u v. u ≢ v) x xs once y ((rest.members y).0 c).0) rest.once;
        members = λ y. (
          λ c. elim (contains_cases x rest.addresses y c) [
            | inl e ↦ (subst (Contains (x ∷ xs)) e (contains_here x xs), subst A e a)
            | inr d ↦ let b = (rest.members y).0 d in (contains_there x xs y b.0, b.1)
          ],
          λ b. elim (contains_cases x xs y b.0) [
            | inl e ↦ subst (Contains (x ∷ rest.addresses)) e (contains_here x rest.addresses)
            | inr d ↦ contains_there x rest.addresses y ((rest.members y).1 (d, b.1))
          ],
        );
      }
      | inr out ↦ record {
        addresses = rest.addresses;
        once = rest.once;
        members = λ y. (
          λ c. let b = (rest.members y).0 c in (contains_there x xs y b.0, b.1),
          λ b. elim (contains_cases x xs y b.0) [
            | inl e ↦ absurd (out (subst A (sym e) b.1))
            | inr d ↦ (rest.members y).1 (d, b.1)
          ],
        );
      }
    ]

-- the part of a set in a block has a count
pub part_counted : (InSet : Address → Type 0) → IsDecided InSet → (n : Network)
    → (count : ℕ) × IsCountOf (IsInPart InSet n) count
part_counted InSet decided n =
    let block = block_counted n in
    let part = picked InSet decided block.addresses block.once in (
      length part.addresses,
      record {
        addresses = part.addresses;
        once = part.once;
        members = λ x. (
          λ c. let b = (part.members x).0 c in record { in_block = (block.members x).0 b.0; in_set = b.1 },
          λ i. (part.members x).1 ((block.members x).1 i.in_block, i.in_set),
        );
        count = refl;
      },
    )

-- ---- levels

-- each count up to the size has a level
share_of : (count size : ℕ) → count ≤ size → (l : Level) × IsShare l count size
share_of count size le = elim (cases_eq count 0) [
  | inl none ↦ (level.Nothing, none)
  | inr some ↦ elim (cases_lt count size) [
    | inr all ↦ (level.Whole, omega (arith, le, all))
    | inl part ↦ elim (cases_lt (count * 256) size) [
      | inl one ↦ (level.Sparse, (omega (arith, some), one))
      | inr more ↦ elim (cases_lt (count * 4) size) [
        | inl two ↦ (level.BelowQuarter, (more, two))
        | inr most ↦ (level.FromQuarter, (most, part))
      ]
    ]
  ]
]

level_exists : (InSet : Address → Type 0) → IsDecided InSet → (n : Network) → (l : Level) × IsLevelOf InSet n l
level_exists InSet decided n =
    let part = part_counted InSet decided n in
    let l = share_of part.0 (block_size n) (part_fits InSet n part.0 part.1) in
    (l.0, record { count = part.0; is_count = part.1; share = l.1 })

same_size : (n k : Network) → IsSameCell n k → block_size n ≡ block_size k
same_size n k same = ap₂ (λ f p. 2 ^ (width f - p)) same.family same.length

level_of_same : (InSet : Address → Type 0) (n k : Network) (l : Level) → IsSameCell n k → IsLevelOf InSet n l
    → IsLevelOf InSet k l
level_of_same InSet n k l same h = record {
  count = h.count;
  is_count = same_count (IsInPart InSet n) (IsInPart InSet k) h.count (λ x. (
    λ i. record { in_block = same.to x i.in_block; in_set = i.in_set },
    λ i. record { in_block = same.from x i.in_block; in_set = i.in_set },
  )) h.is_count;
  share = subst (IsShare l h.count) (same_size n k same) h.share;
}

-- ---- the classes of a map of one set

-- the class of the cells of a level; the class of `Nothing` is not used
abbrev class_at : Level → Class
class_at level.Nothing = Removed
class_at level.Sparse = Sparse
class_at level.BelowQuarter = BelowQuarter
class_at level.FromQuarter = FromQuarter
class_at level.Whole = Whole

level_class : (InSet : Address → Type 0) (q : Class) (n : Network) → HasLevelClass InSet q n
    → (l : Level) × (l ≢ level.Nothing) × (class_at l ≡ q) × IsLevelOf InSet n l
level_class InSet Sparse n h = (level.Sparse, (λ e. cc), refl, h)
level_class InSet BelowQuarter n h = (level.BelowQuarter, (λ e. cc), refl, h)
level_class InSet FromQuarter n h = (level.FromQuarter, (λ e. cc), refl, h)
level_class InSet Whole n h = (level.Whole, (λ e. cc), refl, h)
level_class InSet q n h = absurd h

class_of_level : (InSet : Address → Type 0) (n : Network) (l : Level) → l ≢ level.Nothing → IsLevelOf InSet n l
    → HasLevelClass InSet (class_at l) n
class_of_level InSet n level.Nothing some h = absurd (some refl)
class_of_level InSet n level.Sparse some h = h
class_of_level InSet n level.BelowQuarter some h = h
class_of_level InSet n level.FromQuarter some h = h
class_of_level InSet n level.Whole some h = h

class_listed : (l : Level) → l ≢ level.Nothing → Contains level_classes (class_at l)
class_listed level.Nothing some = absurd (some refl)
class_listed level.Sparse some = contains_here Sparse (BelowQuarter ∷ FromQuarter ∷ Whole ∷ [])
class_listed level.BelowQuarter some =
    contains_there Sparse (BelowQuarter ∷ FromQuarter ∷ Whole ∷ []) BelowQuarter
    (contains_here BelowQuarter (FromQuarter ∷ Whole ∷ []))
class_listed level.FromQuarter some =
    contains_there Sparse (BelowQuarter ∷ FromQuarter ∷ Whole ∷ []) FromQuarter
    (contains_there BelowQuarter (FromQuarter ∷ Whole ∷ []) FromQuarter
    (contains_here FromQuarter (Whole ∷ [])))
class_listed level.Whole some =
    contains_there Sparse (BelowQuarter ∷ FromQuarter ∷ Whole ∷ []) Whole
    (contains_there BelowQuarter (FromQuarter ∷ Whole ∷ []) Whole
    (contains_there FromQuarter (Whole ∷ []) Whole (contains_here Whole [])))

-- one more class, which is none of the others
pub distinct_more : (q : Class) (classes : List Class) → All (λ r. q ≢ r) classes → AllPairs (λ a b. a ≢ b) classes
    → AllPairs (λ a b. a ≢ b) (q ∷ classes)
distinct_more q classes others rest =
    pairs_cons (λ a b. a ≢ b) q classes (λ r c. all_at (λ b. q ≢ b) classes others r c) rest

pub distinct_none : AllPairs (λ (a b : Class). a ≢ b) []
distinct_none = λ i j d l m. absurd (omega (arith, m))

levels_distinct : AllPairs (λ q r. q ≢ r) level_classes
levels_distinct =
    distinct_more Sparse (BelowQuarter ∷ FromQuarter ∷ Whole ∷ [])
    (All-cons (λ r. Sparse ≢ r) BelowQuarter (FromQuarter ∷ Whole ∷ []) (λ e. cc)
    (All-cons (λ r. Sparse ≢ r) FromQuarter (Whole ∷ []) (λ e. cc)
    (All-cons (λ r. Sparse ≢ r) Whole [] (λ e. cc) (All-nil (λ r. Sparse ≢ r)))))
    (distinct_more BelowQuarter (FromQuarter ∷ Whole ∷ [])
    (All-cons (λ r. BelowQuarter ≢ r) FromQuarter (Whole ∷ []) (λ e. cc)
    (All-cons (λ r. BelowQuarter ≢ r) Whole [] (λ e. cc) (All-nil (λ r. BelowQuarter ≢ r))))
    (distinct_more FromQuarter (Whole ∷ [])
    (All-cons (λ r. FromQuarter ≢ r) Whole [] (λ e. cc) (All-nil (λ r. FromQuarter ≢ r)))
    (distinct_more Whole [] (All-nil (λ r. Whole ≢ r)) distinct_none)))

pub classes_of_levels : (InSet : Address → Type 0) → IsDecided InSet
    → AreClasses InSet (HasLevelClass InSet) level_classes
classes_of_levels InSet decided = record {
  distinct = levels_distinct;
  one = λ q r n a b.
      let x = level_class InSet q n a in
      let y = level_class InSet r n b in
      sym x.2 ∙ ap class_at (one_level InSet n x.0 y.0 x.3 y.3) ∙ y.2;
  some = λ q n a. let x = level_class InSet q n a in some_level InSet n x.0 x.1 x.3;
  total = λ n some.
      let l = level_exists InSet decided n in
      let ne : l.0 ≢ level.Nothing
      = λ e. ((nothing_shown InSet n l.1.count l.0 l.1.is_count l.1.share).0 e) some.0 some.1.in_block some.1.in_set in
      (class_at l.0, class_listed l.0 ne, class_of_level InSet n l.0 ne l.1);
  same = λ q n k same a.
      let x = level_class InSet q n a in
      subst (λ z. HasLevelClass InSet z k) x.2
      (class_of_level InSet k x.0 x.1 (level_of_same InSet n k x.0 same x.3));
}

-- it can be decided whether a cell has a class
both_decided : {P Q : Type 0} → P ⊎ (P → ⊥) → Q ⊎ (Q → ⊥) → (P × Q) ⊎ ((P × Q) → ⊥)
both_decided (inl p) (inl q) = inl (p, q)
both_decided (inl p) (inr out) = inr (λ b. out b.1)
both_decided (inr out) q = inr (λ b. out b.0)

less_decided : (m n : ℕ) → (m < n) ⊎ (m < n → ⊥)
less_decided m n = elim (cases_lt m n) [ inl lt ↦ inl lt | inr ge ↦ inr (λ lt. omega (arith, lt, ge)) ]

most_decided : (m n : ℕ) → (m ≤ n) ⊎ (m ≤ n → ⊥)
most_decided m n = elim (cases_lt n m) [ inl gt ↦ inr (λ le. omega (arith, gt, le)) | inr le ↦ inl le ]

share_decided : (l : Level) (count size : ℕ) → IsShare l count size ⊎ (IsShare l count size → ⊥)
share_decided level.Nothing count size = cases_eq count 0
share_decided level.Sparse count size = both_decided (less_decided 0 count) (less_decided (count * 256) size)
share_decided level.BelowQuarter count size =
    both_decided (most_decided size (count * 256)) (less_decided (count * 4) size)
share_decided level.FromQuarter count size =
    both_decided (most_decided size (count * 4)) (less_decided count size)
share_decided level.Whole count size = cases_eq count size

level_decided : (InSet : Address → Type 0) → IsDecided InSet → (n : Network) (l : Level)
    → IsLevelOf InSet n l ⊎ (IsLevelOf InSet n l → ⊥)
level_decided InSet decided n l =
    let part = part_counted InSet decided n in
    elim (share_decided l part.0 (block_size n)) [
      | inl share ↦ inl (record { count = part.0; is_count = part.1; share = share })
      | inr out ↦ inr (λ h. out (subst (λ z. IsShare l z (block_size n))
          (one_count (IsInPart InSet n) h.count part.0 h.is_count part.1) h.share))
    ]

pub level_class_decided : (InSet : Address → Type 0) → IsDecided InSet → (q : Class) (n : Network)
    → HasLevelClass InSet q n ⊎ (HasLevelClass InSet q n → ⊥)
level_class_decided InSet decided Sparse n = level_decided InSet decided n level.Sparse
level_class_decided InSet decided BelowQuarter n = level_decided InSet decided n level.BelowQuarter
level_class_decided InSet decided FromQuarter n = level_decided InSet decided n level.FromQuarter
level_class_decided InSet decided Whole n = level_decided InSet decided n level.Whole
level_class_decided InSet decided q n = inr (λ h. h)

-- the class of a cell depends only on the part of the set in it
pub level_class_of_part : (A B : Address → Type 0) (q : Class) (n : Network)
    → ((x : Address) → IsInPart A n x ↔ IsInPart B n x) → HasLevelClass A q n → HasLevelClass B q n
level_class_of_part A B q n same a =
    let x = level_class A q n a in
    subst (λ z. HasLevelClass B z n) x.2 (class_of_level B n x.0 x.1 (record {
      count = x.3.count;
      is_count = same_count (IsInPart A n) (IsInPart B n) x.3.count same x.3.is_count;
      share = x.3.share;
    }))

-- ---- blocks and sets that can be decided

pub some_or_none : (A : Address → Type 0) → IsDecided A → (n : Network) → HasSome A n ⊎ HasNone A n
some_or_none A decided n =
    let part = part_counted A decided n in
    elim (cases_lt 0 part.0) [
      | inl some ↦ inl (some_counted (IsInPart A n) part.0 some part.1)
      | inr none ↦ inr ((nothing_counted A n part.0 part.1).0 (omega (arith, none)))
    ]
