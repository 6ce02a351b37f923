-- Nothing of the network was leased before, and all of it is free again.
use Rattle.std.proofs.Common.{◌∙◌, inl, inr, subst}
use Rattle.ipnet_base.specs.Network.{InBlock}
use Rattle.ipnet_sets.specs.Members.{IsMember}
use Rattle.ipnet_pools.specs.FreeOf.{IsIn}
use Rattle.ipnet_pools.proofs.KeepLaws.{rest_of}
use Rattle.ipnet_pools.proofs.FitLaws.{in_block_or_not}
use Rattle.ipnet_pools.proofs.PoolLaws.{free_not_leased}
use Rattle.ipnet_pools.proofs.laws.taken_and_released.Goals as goal

pub returns : goal.returns
returns g c a b d n v w taken released = record {
  whole = λ x. (λ h. (taken.whole x).0 ((released.whole x).0 h), λ h. (released.whole x).1 ((taken.whole x).1 h));
  free = λ x. (
    λ h. elim ((released.free x).0 h) [ inl f ↦ ((taken.free x).0 f).0 | inr i ↦ taken.was_free x i ],
    λ h. (released.free x).1 (elim (in_block_or_not n x) [
      | inl i ↦ inr i
      | inr out ↦ inl ((taken.free x).1 (h, out))
    ]),
  );
  leases = λ m u. (
    λ h. elim ((taken.leases m u).0 ((released.leases m u).0 h).0) [
      | inl old ↦ old
      | inr new ↦ absurd (((released.leases m u).0 h).1 new.0)
    ],
    λ h. (released.leases m u).1 (
      (taken.leases m u).1 (inl h),
      λ same. free_not_leased a.leases.entries (IsMember a.whole) (IsIn a.free) h.0 (rest_of a)
          (λ x i. taken.was_free x (subst (λ z. InBlock z x) (h.1 ∙ same) i)) (u, h.2),
    ),
  );
}
