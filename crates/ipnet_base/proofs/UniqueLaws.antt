-- The list of the maximal blocks of a set: it is empty for an empty set, there is one at most, sets with the same
-- addresses have the same, its networks share no address, and ascending maximal networks that cover the set are all
-- of it.
use Rattle.std.proofs.Common.{◌≡◌, ℕ, List, [], ◌↔◌, Contains, All, sym, subst, arith}
use Rattle.ipnet_base.specs.Address.{Address}
use Rattle.ipnet_base.specs.Network.{Network, IsBefore, AreDisjoint}
use Rattle.ipnet_base.specs.Blocks.{AreMaximalBlocks, IsCoveredBy, IsInside, IsMaximal, ArePairwiseDisjoint}
use Rattle.ipnet_base.specs.Blocks.{IsAscending}
use Rattle.ipnet_base.proofs.ListLaws.{contains_nil, same_from_members, all_at, pairs_from_members}
use Rattle.ipnet_base.proofs.OrderLaws.{IsBefore-asymmetric}
use Rattle.ipnet_base.proofs.BlockLaws.{own, own_in}
use Rattle.ipnet_base.proofs.MaximalLaws.{IsInside-of_block, one_maximal}
use Rattle.ipnet_base.proofs.CoverLaws.{covering_member}

-- no block lies in an empty set
pub AreMaximalBlocks-nil : (InSet : Address → Type 0) (least : ℕ) → ((x : Address) → InSet x → ⊥)
    → AreMaximalBlocks InSet least []
AreMaximalBlocks-nil InSet least none = record {
  ascending = λ i j d l m. absurd (omega arith);
  members = λ z. (λ c. absurd (contains_nil z c), λ h. absurd (none (own z) (h.inside.within (own z) (own_in z))));
}

-- two lists of the maximal blocks of a set are equal
pub AreMaximalBlocks-unique : (InSet : Address → Type 0) (least : ℕ) (xs ys : List Network)
    → AreMaximalBlocks InSet least xs → AreMaximalBlocks InSet least ys → xs ≡ ys
AreMaximalBlocks-unique InSet least xs ys p q =
    same_from_members IsBefore IsBefore-asymmetric xs ys p.ascending q.ascending
    (λ z c. (q.members z).1 ((p.members z).0 c)) (λ z c. (p.members z).1 ((q.members z).0 c))

-- sets with the same addresses have the same blocks
pub AreMaximalBlocks-same_set : (A B : Address → Type 0) (least : ℕ) (networks : List Network)
    → ((x : Address) → A x ↔ B x) → AreMaximalBlocks A least networks → AreMaximalBlocks B least networks
AreMaximalBlocks-same_set A B least networks same h = record {
  ascending = h.ascending;
  members =
      λ n. (
        λ c. over A B same n ((h.members n).0 c),
        λ m. (h.members n).1 (over B A (λ x. ((same x).1, (same x).0)) n m),
      );
}
  where
    inside_over : (A B : Address → Type 0) → ((x : Address) → A x ↔ B x) → (n : Network) → IsInside A least n
        → IsInside B least n
    inside_over A B same n i = IsInside-of_block A B least n i (λ x a. (same x).0 (i.within x a))

    over : (A B : Address → Type 0) → ((x : Address) → A x ↔ B x) → (n : Network) → IsMaximal A least n
        → IsMaximal B least n
    over A B same n m =
        record {
          inside = inside_over A B same n m.inside;
          largest =
              λ k i s. m.largest k (inside_over B A (λ x. ((same x).1, (same x).0)) k i) s;
        }

-- maximal blocks share no address
pub maximal_blocks_apart : (InSet : Address → Type 0) (least : ℕ) (networks : List Network)
    → AreMaximalBlocks InSet least networks → ArePairwiseDisjoint networks
maximal_blocks_apart InSet least networks blocks = pairs_from_members IsBefore AreDisjoint networks
    (λ n k c e before x a b.
    let one : n ≡ k = one_maximal InSet least n k ((blocks.members n).0 c) ((blocks.members k).0 e) x a b in
    IsBefore-asymmetric n n (subst (IsBefore n) (sym one) before) (subst (IsBefore n) (sym one) before))
    blocks.ascending

-- ascending networks, each maximal in the set, that cover it are all its maximal blocks
pub AreMaximalBlocks-from_members : (InSet : Address → Type 0) (least : ℕ) (networks : List Network)
    → IsAscending networks → All (IsMaximal InSet least) networks → ((x : Address) → InSet x → IsCoveredBy networks x)
    → AreMaximalBlocks InSet least networks
AreMaximalBlocks-from_members InSet least networks ascending maximal covered = record {
  ascending = ascending;
  members = λ n. (all_at (IsMaximal InSet least) networks maximal n, back n);
}
  where
    back : (n : Network) → IsMaximal InSet least n → Contains networks n
    back n h =
        let a : IsCoveredBy networks (own n) = covered (own n) (h.inside.within (own n) (own_in n)) in
        let c : Contains networks a.1 = covering_member networks (own n) a in
        subst (Contains networks)
        (sym (one_maximal InSet least n a.1 h (all_at (IsMaximal InSet least) networks maximal a.1 c) (own n)
        (own_in n) a.4))
        c
