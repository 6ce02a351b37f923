-- Ranges that lie apart are the fewest with their addresses: any range has the first address of at most one of them,
-- because it would also have the address after the end of the earlier one.
use Rattle.std.proofs.Common.{◌≡◌, ◌+◌, ◌<◌, ◌≤◌, ◌↔◌, List, length, get_or, Contains, AllPairs, Any}
use Rattle.std.proofs.Common.{refl, ap, arith, inl, inr}
use Rattle.std.proofs.lemmas.Bool.{cases_order}
use Rattle.ipnet_base.specs.Address.{Address, address_at, family_index}
use Rattle.ipnet_base.specs.Ranges.{AddressRange}
use Rattle.ipnet_base.proofs.ListLaws.{all_at, pair_at, contains_at, any_from_contains, one_place, partners_no_more}
use Rattle.ipnet_sets.specs.SetRanges.{IsInRange, LiesApart, AreRangesOf, AreFewestRangesOf}

-- one of the ranges of the other list has the first address of this range
record HasFirstOf (other : List AddressRange) (r o : AddressRange) : Type 0 where
  pub member : Contains other o
  pub first : IsInRange o (address_at r.family r.start)

module _ (InSet : Address → Type 0) (ranges other : List AddressRange) (h : AreRangesOf InSet ranges)
    (same : (x : Address) → InSet x ↔ Any (λ r. IsInRange r x) other) where
  -- the address after the end of a range that another one follows is in none of the ranges
  none_between : (r s q : AddressRange) (c : Contains ranges r) (d : Contains ranges s) (e : Contains ranges q)
      → c.0 < d.0 → r.family ≡ s.family → IsInRange q (address_at r.family (r.end + 1)) → ⊥
  none_between r s q c d e lt same_family a = elim (cases_order e.0 c.0) [
    | inl at ↦ omega (arith, a.to_end, ap (λ z. z.end) (one_place ranges q r e c at))
    | inr (inl before) ↦ elim (pair_at LiesApart ranges h.apart q r e c before) [
      | inl less ↦ omega (arith, less, ap family_index a.of_family)
      | inr apart ↦ omega (
        arith,
        apart.1,
        a.to_end,
        all_at (λ z. z.start ≤ z.end) ranges h.some r c,
      )
    ]
    | inr (inr after) ↦ elim (pair_at LiesApart ranges h.apart r q c e after) [
      | inl less ↦ omega (arith, less, ap family_index a.of_family)
      | inr apart ↦ omega (arith, apart.1, a.from_start)
    ]
  ]

  not_both : (r s o : AddressRange) (c : Contains ranges r) (d : Contains ranges s) → c.0 < d.0
      → HasFirstOf other r o → HasFirstOf other s o → ⊥
  not_both r s o c d lt f g = elim (pair_at LiesApart ranges h.apart r s c d lt) [
    | inl less ↦ omega (arith, less, ap family_index f.first.of_family, ap family_index g.first.of_family)
    | inr apart ↦
        let after : Address = address_at r.family (r.end + 1) in
        let in_other : IsInRange o after = record {
          of_family = f.first.of_family;
          from_start = omega (
            arith,
            f.first.from_start,
            all_at (λ z. z.start ≤ z.end) ranges h.some r c,
          );
          to_end = omega (arith, g.first.to_end, apart.1);
        } in
        let a = (h.members after).0
        ((same after).1 (any_from_contains (λ q. IsInRange q after) other o f.member in_other)) in
        none_between r s a.1 c d (a.0, a.2, a.3) lt apart.0 a.4
  ]

  partner : (r : AddressRange) → Contains ranges r → (o : AddressRange) × Contains other o × HasFirstOf other r o
  partner r c =
      let first : Address = address_at r.family r.start in
      let in_own : IsInRange r first = record {
        of_family = refl;
        from_start = omega arith;
        to_end = all_at (λ z. z.start ≤ z.end) ranges h.some r c;
      } in
      let a = (same first).0 ((h.members first).1 (any_from_contains (λ q. IsInRange q first) ranges r c in_own)) in
      (a.1, (a.0, a.2, a.3), record { member = (a.0, a.2, a.3); first = a.4 })

  apart_partners : AllPairs (λ r s. (o : AddressRange) → HasFirstOf other r o → HasFirstOf other s o → ⊥) ranges
  apart_partners i j d lt l o f g =
      not_both (get_or ranges i d) (get_or ranges j d) o (contains_at ranges i d (omega (arith, lt, l)))
      (contains_at ranges j d l) lt f g

  no_shorter : length ranges ≤ length other
  no_shorter = partners_no_more (HasFirstOf other) ranges other partner apart_partners

pub fewest_ranges : (InSet : Address → Type 0) (ranges : List AddressRange) → AreRangesOf InSet ranges
    → AreFewestRangesOf InSet ranges
fewest_ranges InSet ranges h other same = no_shorter InSet ranges other h same
