-- The free addresses, and the addresses of the set.
use Rattle.std.proofs.Common.{inl, inr}
use Rattle.ipnet_pools.proofs.free.FreeBlocks.add_set.Goals as goal

pub returns-clause-added : goal.returns-clause-added
returns-clause-added c x = (
  λ h. elim ((c.in_ok-all.ensures.members x).0 ((c.in_ok-free.ensures x).0 h)) [
    | inl a ↦ inl ((c.in_ok-set.ensures x).0 a)
    | inr b ↦ inr b
  ],
  λ h. (c.in_ok-free.ensures x).1 ((c.in_ok-all.ensures.members x).1 (elim h [
    | inl a ↦ inl ((c.in_ok-set.ensures x).1 a)
    | inr b ↦ inr b
  ])),
)
