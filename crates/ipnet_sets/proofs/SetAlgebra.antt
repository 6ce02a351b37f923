-- Laws of the operations on sets, address by address.
use Rattle.std.proofs.Common.{◌↔◌, inl, inr}
use Rattle.ipnet_sets.specs.declared.set.IpSet.{IpSet}
use Rattle.ipnet_sets.specs.Members.{HasNoAddress, IsSubset, IsUnion, IsIntersection, IsDifference, IsComplement}
use Rattle.ipnet_sets.proofs.SetEqualLaws.{member_or_not}

pub union_complement : (a b union not_a not_b s : IpSet) → IsUnion union a b → IsComplement not_a a
    → IsComplement not_b b → IsComplement s union ↔ IsIntersection s not_a not_b
union_complement a b union not_a not_b s u p q = (
  λ f x. (
    λ m. let out = (f x m.fits).0 m in
        ((p x m.fits).1 (λ h. out ((u x).1 (inl h))), (q x m.fits).1 (λ h. out ((u x).1 (inr h)))),
    λ both. (f x both.0.fits).1 (λ h. elim ((u x).0 h) [
      | inl i ↦ (p x both.0.fits).0 both.0 i
      | inr i ↦ (q x both.0.fits).0 both.1 i
    ]),
  ),
  λ i x fits. (
    λ m h. let both = (i x).0 m in
        elim ((u x).0 h) [ inl k ↦ (p x fits).0 both.0 k | inr k ↦ (q x fits).0 both.1 k ],
    λ out. (i x).1 ((p x fits).1 (λ h. out ((u x).1 (inl h))), (q x fits).1 (λ h. out ((u x).1 (inr h)))),
  ),
)

pub intersection_complement : (a b both not_a not_b s : IpSet) → IsIntersection both a b → IsComplement not_a a
    → IsComplement not_b b → IsComplement s both ↔ IsUnion s not_a not_b
intersection_complement a b both not_a not_b s i p q = (
  λ f x. (
    λ m. elim (member_or_not a x) [
      | inr no_a ↦ inl ((p x m.fits).1 no_a)
      | inl in_a ↦ inr ((q x m.fits).1 (λ in_b. (f x m.fits).0 m ((i x).1 (in_a, in_b))))
    ],
    λ either. elim either [
      | inl k ↦ (f x k.fits).1 (λ h. (p x k.fits).0 k ((i x).0 h).0)
      | inr k ↦ (f x k.fits).1 (λ h. (q x k.fits).0 k ((i x).0 h).1)
    ],
  ),
  λ u x fits. (
    λ m h. elim ((u x).0 m) [ inl k ↦ (p x fits).0 k ((i x).0 h).0 | inr k ↦ (q x fits).0 k ((i x).0 h).1 ],
    λ out. (u x).1 (elim (member_or_not a x) [
      | inr no_a ↦ inl ((p x fits).1 no_a)
      | inl in_a ↦ inr ((q x fits).1 (λ in_b. out ((i x).1 (in_a, in_b))))
    ]),
  ),
)

pub difference_complement : (a b not_b s : IpSet) → IsComplement not_b b
    → IsDifference s a b ↔ IsIntersection s a not_b
difference_complement a b not_b s q = (
  λ d x. (
    λ m. let h = (d x).0 m in (h.0, (q x m.fits).1 h.1),
    λ both. (d x).1 (both.0, (q x both.0.fits).0 both.1),
  ),
  λ i x. (
    λ m. let h = (i x).0 m in (h.0, (q x m.fits).0 h.1),
    λ h. (i x).1 (h.0, (q x h.0.fits).1 h.1),
  ),
)

pub subset_difference : (a b difference : IpSet) → IsDifference difference a b
    → HasNoAddress difference ↔ IsSubset a b
subset_difference a b difference d = (
  λ none x m. elim (member_or_not b x) [
    | inl in_b ↦ in_b
    | inr no_b ↦ absurd (none x ((d x).1 (m, no_b)))
  ],
  λ within x m. let h = (d x).0 m in h.1 (within x h.0),
)
