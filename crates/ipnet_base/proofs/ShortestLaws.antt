-- No exact cover is shorter than the maximal blocks, and one as short is them, truncated and sorted.
use Rattle.std.proofs.Common.{◌≡◌, ℕ, ◌<◌, ◌≤◌, List, [], ◌++◌, length, get_or, map, Contains, AllPairs, IsPermutation}
use Rattle.std.proofs.Common.{sym, ap, ◌∙◌, subst, arith, inl, inr}
use Rattle.std.specs.List.{AllZip}
use Rattle.std.proofs.lemmas.List.{length-append, nil_from_length, same_lists, get_or-map, length-map, append-nil}
use Rattle.std.proofs.lemmas.List.Sorted.{IsPermutation-sym, Contains-permutation, length_permutation}
use Rattle.std.proofs.lemmas.List.Sorted.{IsPermutation-map}
use Rattle.std.proofs.lemmas.List.Elements.{length_all_zip, AllZip-get_or}
use Rattle.std.proofs.lemmas.Bool.{cases_order}
use Rattle.ipnet_base.specs.Address.{Address}
use Rattle.ipnet_base.specs.Network.{Network, IsNetwork, InBlock, IsSubnetOf, IsBefore, truncation}
use Rattle.ipnet_base.specs.Blocks.{IsInside, IsMaximal, AreMaximalBlocks, IsExactCover}
use Rattle.ipnet_base.proofs.BlockLaws.{own, own_in}
use Rattle.ipnet_base.proofs.NestingLaws.{nested_or_disjoint}
use Rattle.ipnet_base.proofs.NetworkLaws.{same_from_block, IsTruncated-truncation, IsNetwork-truncation, truncation_in}
use Rattle.ipnet_base.proofs.NetworkLaws.{in_truncation}
use Rattle.ipnet_base.proofs.ListLaws.{contains_at, at_place, pairs_from_members, pair_at, any_from_contains, all_at}
use Rattle.ipnet_base.proofs.ListLaws.{partners, partners_no_more}
use Rattle.ipnet_base.proofs.OrderLaws.{IsBefore-asymmetric}
use Rattle.ipnet_base.proofs.MaximalLaws.{one_maximal}

-- How an exact cover and the maximal blocks of one set are related.
module _ (InSet : Address → Type 0) (least : ℕ) (networks cover : List Network)
    (blocks : AreMaximalBlocks InSet least networks) (exact : IsExactCover InSet least cover) where
  maximal : (n : Network) → Contains networks n → IsMaximal InSet least n
  maximal n c = (blocks.members n).0 c

  truncation_inside : (k : Network) → Contains cover k → IsInside InSet least (truncation k)
  truncation_inside k c = record {
    network = IsNetwork-truncation k (all_at IsNetwork cover exact.valid k c);
    truncated = IsTruncated-truncation k;
    long_enough = all_at (λ n. least ≤ n.prefix_len) cover exact.long_enough k c;
    within = λ x a. (exact.covers x).0 (any_from_contains (λ n. InBlock n x) cover k c (truncation_in k x a));
  }

  -- the member of the cover that holds a block's first address lies in the block
  partner : (n : Network) → Contains networks n → (k : Network) × Contains cover k × IsSubnetOf k n
  partner n c =
      let (i, k, l, e, a) = (exact.covers (own n)).1 ((maximal n c).inside.within (own n) (own_in n)) in
      let in_cover : Contains cover k = (i, l, e) in (
        k,
        in_cover,
        elim (nested_or_disjoint n k) [
          | inr (inl s) ↦ s
          | inr (inr d) ↦ absurd (d (own n) (own_in n) a)
          | inl s ↦
              let whole : truncation k ≡ n =
              (maximal n c).largest (truncation k) (truncation_inside k in_cover)
              (λ x b. in_truncation k x (s x b)) in
              subst (IsSubnetOf k) whole (in_truncation k)
        ],
      )

  before_itself : (n : Network) → IsBefore n n → ⊥
  before_itself n h = IsBefore-asymmetric n n h h

  apart : AllPairs (λ n l. (k : Network) → IsSubnetOf k n → IsSubnetOf k l → ⊥) networks
  apart = pairs_from_members IsBefore (λ n l. (k : Network) → IsSubnetOf k n → IsSubnetOf k l → ⊥) networks
      (λ n l c d b k s t.
      let one : n ≡ l =
      one_maximal InSet least n l (maximal n c) (maximal l d) (own k) (s (own k) (own_in k))
      (t (own k) (own_in k)) in
      before_itself n (subst (IsBefore n) (sym one) b))
      blocks.ascending

  found : (chosen rest : List Network) × IsPermutation cover (chosen ++ rest)
      × AllZip (λ n k. IsSubnetOf k n) networks chosen
  found = partners (λ n k. IsSubnetOf k n) networks cover partner apart

  -- no exact cover is shorter
  pub shortest : length networks ≤ length cover
  shortest = partners_no_more (λ n k. IsSubnetOf k n) networks cover partner apart

  -- a member of the list is at one place
  place_is : (n : Network) (c : Contains networks n) (j : ℕ) (d : Network) → j < length networks
      → get_or networks j d ≡ n → j ≡ c.0
  place_is n c j d l e =
      elim (cases_order j c.0) [
        | inl same ↦ same
        | inr (inl lt) ↦ absurd (before_itself n
            (pair_at IsBefore networks blocks.ascending n n (j, l, at_place networks j n d l ∙ e) c lt))
        | inr (inr gt) ↦ absurd (before_itself n
            (pair_at IsBefore networks blocks.ascending n n c (j, l, at_place networks j n d l ∙ e) gt))
      ]

  -- if no member of the cover is left over, each is its block, except for its host bits
  module _ (chosen : List Network) (moved : IsPermutation cover chosen)
      (zip : AllZip (λ n k. IsSubnetOf k n) networks chosen) where
    lengths : length chosen ≡ length networks
    lengths = sym (length_all_zip (λ n k. IsSubnetOf k n) networks chosen zip)

    fills : (i : ℕ) (d : Network) → i < length chosen → IsSubnetOf (get_or networks i d) (get_or chosen i d)
    fills i d l x a =
        let in_list : i < length networks = omega (arith, l, lengths) in
        let n : Network = get_or networks i d in
        let cn : Contains networks n = contains_at networks i d in_list in
        let (p, k, q, e, b) = (exact.covers x).1 ((maximal n cn).inside.within x a) in
        let (j, lj, ej) = Contains-permutation cover chosen k moved (p, q, e) in
        let j_list : j < length networks = omega (arith, lj, lengths) in
        let k_is : get_or chosen j d ≡ k = at_place chosen j d k lj ∙ ej in
        let l_in : InBlock (get_or networks j d) x =
        AllZip-get_or (λ y z. IsSubnetOf z y) networks chosen j d d zip j_list x
        (subst (λ z. InBlock z x) (sym k_is) b) in
        let one : get_or networks j d ≡ n =
        one_maximal InSet least (get_or networks j d) n
        (maximal (get_or networks j d) (contains_at networks j d j_list)) (maximal n cn) x l_in a in
        let place : j ≡ i = place_is n cn j d j_list one in
        subst (λ z. InBlock z x) (sym k_is ∙ ap (λ z. get_or chosen z d) place) b

    each : (i : ℕ) (d : Network) → i < length chosen → truncation (get_or chosen i d) ≡ get_or networks i d
    each i d l =
        let k : Network = get_or chosen i d in
        let n : Network = get_or networks i d in
        let in_list : i < length networks = omega (arith, l, lengths) in
        let cn : Contains networks n = contains_at networks i d in_list in
        let ck : Contains cover k =
        Contains-permutation chosen cover k (IsPermutation-sym cover chosen moved) (contains_at chosen i d l) in
        let within : IsSubnetOf k n = AllZip-get_or (λ x y. IsSubnetOf y x) networks chosen i d d zip in_list in
        same_from_block (truncation k) n (truncation_inside k ck).network (maximal n cn).inside.network
        (truncation_inside k ck).truncated (maximal n cn).inside.truncated
        (λ x a. within x (truncation_in k x a), λ x a. in_truncation k x (fills i d l x a))

    same_when_all : map truncation chosen ≡ networks
    same_when_all =
        same_lists (map truncation chosen) networks (length-map chosen truncation ∙ lengths)
        (λ i d l. let l' : i < length chosen =
        omega (arith, l, length-map chosen truncation) in get_or-map truncation chosen i d d l' ∙ each i d l')

  -- one as short is the blocks, truncated and sorted
  pub one_as_short : length cover ≡ length networks → IsPermutation (map truncation cover) networks
  one_as_short same =
      let (chosen, rest, moved, zip) = found in
      let lengths : length chosen ≡ length networks =
      sym (length_all_zip (λ n k. IsSubnetOf k n) networks chosen zip) in
      let none : rest ≡ [] =
      nil_from_length rest (omega (
        arith,
        length_permutation cover (chosen ++ rest) moved,
        length-append chosen rest,
        lengths,
        same,
      )) in
      let all : IsPermutation cover chosen =
      subst (IsPermutation cover) (ap (λ r. chosen ++ r) none ∙ append-nil chosen) moved in
      subst (IsPermutation (map truncation cover)) (same_when_all chosen all zip)
      (IsPermutation-map truncation cover chosen all)
