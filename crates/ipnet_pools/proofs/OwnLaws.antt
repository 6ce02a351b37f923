-- A list that is the maximal blocks of what it covers, and the list of the maximal blocks of a set.
use Rattle.std.proofs.Common.{◌≡◌, ◌⊎◌, ◌↔◌, List, Contains, ap, subst, arith, inl, inr}
use Rattle.std.proofs.lemmas.Bool.{cases_eq}
use Rattle.ipnet_base.specs.Address.{Address, IsAddress}
use Rattle.ipnet_base.specs.Network.{Network, IsNetwork, InBlock}
use Rattle.ipnet_base.specs.Blocks.{IsMaximal, IsCoveredBy}
use Rattle.ipnet_base.proofs.BlockLaws.{own, own_in}
use Rattle.ipnet_base.proofs.CoverLaws.{covered_fits}
use Rattle.ipnet_base.proofs.DecidedLaws.{IsDecided}
use Rattle.ipnet_base.proofs.ExactCoverLaws.{single, IsInside-single}
use Rattle.ipnet_base.proofs.FamilyLaws.{cases_family}
use Rattle.ipnet_base.proofs.ListLaws.{any_from_contains, all_from_members}
use Rattle.ipnet_base.proofs.MaximalLaws.{maximal_above, one_maximal}
use Rattle.ipnet_base.proofs.NetworkLaws.{same_network}
use Rattle.ipnet_pools.specs.OwnBlocks.{AreOwnBlocks}

pub same_or_not : (n k : Network) → (n ≡ k) ⊎ ¬ (n ≡ k)
same_or_not n k = elim (cases_family n.family k.family) [
  | inr other ↦ inr (λ e. other (ap (λ z. z.family) e))
  | inl f ↦ elim (cases_eq n.number k.number) [
    | inr other ↦ inr (λ e. other (ap (λ z. z.number) e))
    | inl a ↦ elim (cases_eq n.prefix_len k.prefix_len) [
      | inr other ↦ inr (λ e. other (ap (λ z. z.prefix_len) e))
      | inl l ↦ inl (same_network n k f a l)
    ]
  ]
]

-- the network of a covered address
pub covering : (ns : List Network) (x : Address) → IsCoveredBy ns x → (n : Network) × Contains ns n × InBlock n x
covering ns x c = (c.1, (c.0, c.2, c.3), c.4)

-- the networks of the list are the maximal blocks of what they cover
abbrev pub AreOwn : List Network → Type 0
AreOwn ns = (m : Network) → Contains ns m ↔ IsMaximal (IsCoveredBy ns) 0 m

module _ (ns : List Network) (own_blocks : AreOwnBlocks ns) (valid : (n : Network) → Contains ns n → IsNetwork n) where
  own_maximal : (n : Network) → Contains ns n → IsMaximal (IsCoveredBy ns) 0 n
  own_maximal n c = record {
    inside = record {
      network = valid n c;
      truncated = own_blocks.truncated n c;
      long_enough = omega arith;
      within = λ x a. any_from_contains (λ z. InBlock z x) ns n c a;
    };
    largest = λ k i sub. elim (same_or_not k n) [
      | inl e ↦ e
      | inr d ↦ absurd (own_blocks.unjoined n k c i.network i.truncated sub d i.within)
    ];
  }

  pub own_members : AreOwn ns
  own_members n = (
    own_maximal n,
    λ h.
        let (y, c, a) = covering ns (own n) (h.inside.within (own n) (own_in n)) in
        subst (Contains ns) (one_maximal (IsCoveredBy ns) 0 y n (own_maximal y c) h (own n) a (own_in n)) c,
  )

module _ (S : Address → Type 0) (dec : IsDecided S) (fits : (x : Address) → S x → IsAddress x) (ns : List Network)
    (members : (m : Network) → Contains ns m ↔ IsMaximal S 0 m) where
  pub covers_from_members : (x : Address) → IsCoveredBy ns x ↔ S x
  covers_from_members x = (
    λ c. let (y, m, a) = covering ns x c in ((members y).0 m).inside.within x a,
    λ h.
        let (m, max, sub) = maximal_above S 0 dec (single x) (IsInside-single S 0 x (fits x h) (omega arith) h) in
        any_from_contains (λ z. InBlock z x) ns m ((members m).1 max) (sub x (own_in (single x))),
  )

  pub own_from_members : AreOwnBlocks ns
  own_from_members = record {
    truncated = λ n c. ((members n).0 c).inside.truncated;
    unjoined = λ n k c u t sub differ within. differ (((members n).0 c).largest k (record {
      network = u;
      truncated = t;
      long_enough = omega arith;
      within = λ x a. (covers_from_members x).0 (within x a);
    }) sub);
  }

-- the covered addresses are addresses
pub own_fits : (ns : List Network) → AreOwn ns → (x : Address) → IsCoveredBy ns x → IsAddress x
own_fits ns own_blocks x c =
    covered_fits ns (all_from_members IsNetwork ns (λ n d. ((own_blocks n).0 d).inside.network)) x c
