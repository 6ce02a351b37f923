-- The best fit spoils no placement: what could be placed after some other choice can be placed after it.
use Rattle.std.proofs.Common.{◌≡◌, ℕ, zero, suc, ◌+◌, ◌-◌, ◌≤◌, ◌⊎◌, List, [], ◌∷◌, map, get_or, All}
use Rattle.std.proofs.Common.{refl, sym, ap, ◌∙◌, subst, arith, inl, inr}
use Rattle.std.proofs.lemmas.Bool.{cases_lt}
use Rattle.ipnet_base.specs.Address.{Family, Address, width}
use Rattle.ipnet_base.specs.Network.{Network, InBlock, IsSubnetOf, AreDisjoint, host_bits}
use Rattle.ipnet_base.specs.Blocks.{IsInside, ArePairwiseDisjoint}
use Rattle.ipnet_base.proofs.BlockLaws.{own, own_in}
use Rattle.ipnet_base.proofs.NestingLaws.{nested, nested_or_disjoint}
use Rattle.ipnet_base.proofs.NetworkLaws.{same_network, same_from_block}
use Rattle.ipnet_base.proofs.DecidedLaws.{IsDecided}
use Rattle.ipnet_base.proofs.MaximalLaws.{IsInside-of_block}
use Rattle.ipnet_base.proofs.ListLaws.{all_at, contains_at, contains_here, contains_there, pairs_head, pairs_tail}
use Rattle.ipnet_pools.specs.Fits.{IsFit, Without, IsBestFit, HasRoom}
use Rattle.ipnet_pools.specs.Placements.{Request, request_of, CanPlace}
use Rattle.ipnet_pools.proofs.FitLaws.{with_len, above, in_above, IsInside-at_start}
use Rattle.ipnet_pools.proofs.FitLaws.{IsInside-above, IsInside-of_rest, same_or_apart, large_enough_above}
use Rattle.ipnet_pools.proofs.MoveLaws.{IsSwapped, IsSwapped-sym, AreAlike, AreAlike-sym, shift, moved}
use Rattle.ipnet_pools.proofs.MoveLaws.{stay_fit, stay_swapped}

-- every network inside the set lies in one of the two blocks, or apart from both
abbrev AreCompatible : Network → Network → (Address → Type 0) → Type 0
AreCompatible c d A = (k : Network) → IsInside A 0 k
    → IsSubnetOf k c ⊎ (IsSubnetOf k d ⊎ (AreDisjoint k c × AreDisjoint k d))

compatible_rest : (c d : Network) (A : Address → Type 0) (n : Network) → AreCompatible c d A
    → AreCompatible c d (Without A n)
compatible_rest c d A n h k i = h k (IsInside-of_rest A n k i)

-- what can be placed in the one set can be placed in the other
can_move : (c d : Network) → AreAlike c d → AreDisjoint c d → (requests : List Request) (A B : Address → Type 0)
    → AreCompatible c d A → IsSwapped c d A B → CanPlace A requests → CanPlace B requests
can_move c d alike apart [] A B h swapped place = tt
can_move c d alike apart (r ∷ rs) A B h swapped (k, fit, rest) =
    elim (h k fit.inside) [
      | inl in_c ↦
          let to = moved c d A B alike swapped apart r.0 r.1 k fit in_c in (
            shift c d k,
            to.fit,
            can_move c d alike apart rs (Without A k) (Without B (shift c d k))
                (compatible_rest c d A k h) to.swapped rest,
          )
      | inr (inl in_d) ↦
          let to = moved d c A B (AreAlike-sym c d alike) (IsSwapped-sym c d A B swapped)
          (λ x a b. apart x b a) r.0 r.1 k fit in_d in (
            shift d c k,
            to.fit,
            can_move c d alike apart rs (Without A k) (Without B (shift d c k))
                (compatible_rest c d A k h) (IsSwapped-sym d c (Without A k) (Without B (shift d c k)) to.swapped) rest,
          )
      | inr (inr both) ↦ (
        k,
        stay_fit c d A B swapped r.0 r.1 k fit both.0 both.1,
        can_move c d alike apart rs (Without A k)
            (Without B k) (compatible_rest c d A k h) (stay_swapped c d A B swapped k both.0 both.1) rest,
      )
    ]

-- a network of the set in the block c has one of its length in the block d beside which as much can be placed
place_elsewhere : (S : Address → Type 0) (f : Family) (p : ℕ) (c d n : Network) → IsInside S 0 c → IsInside S 0 d
    → c.family ≡ d.family → c.prefix_len ≡ d.prefix_len → IsFit S f p n → IsSubnetOf n c
    → ((k : Network) → IsInside (Without S n) 0 k → (x : Address) → InBlock k x → InBlock d x → IsSubnetOf k d)
    → (m : Network) × IsFit S f p m × IsSubnetOf m d
    × ((requests : List Request) → CanPlace (Without S n) requests → CanPlace (Without S m) requests)
place_elsewhere S f p c d n ic id family len fit sub whole =
    elim (same_or_apart c d (omega (arith, ap width family, len))) [
      | inl c_in_d ↦ (n, fit, λ x a. c_in_d x (sub x a), λ requests place. place)
      | inr apart ↦
          let alike : AreAlike c d = record {
            c_network = ic.network;
            d_network = id.network;
            c_truncated = ic.truncated;
            d_truncated = id.truncated;
            family = family;
            len = len;
          } in
          let all : IsSwapped c d S S = record {
            to_d = λ x y cx dy off ax. id.within y dy;
            to_c = λ x y dx cy off ax. ic.within y cy;
            other = λ x no_c no_d ax. ax;
          } in
          let to = moved c d S S alike all apart f p n fit sub in
          let compatible : AreCompatible c d (Without S n) = λ k i. elim (nested_or_disjoint k c) [
            | inl s ↦ inl s
            | inr (inl s) ↦
                absurd ((i.within (own n) (s (own n) (sub (own n) (own_in n)))).1 (own_in n))
            | inr (inr no_c) ↦ elim (nested_or_disjoint k d) [
              | inl s ↦ inr (inl s)
              | inr (inl s) ↦ inr (inl (whole k i (own d) (s (own d) (own_in d)) (own_in d)))
              | inr (inr no_d) ↦ inr (inr (no_c, no_d))
            ]
          ] in (
            shift c d n,
            to.fit,
            to.within,
            λ requests place. can_move c d alike apart requests (Without S n)
                (Without S (shift c d n)) compatible to.swapped place,
          )
    ]

-- a network anywhere in a block of the set can be exchanged for one at the block's start
to_start : (S : Address → Type 0) (f : Family) (p e : ℕ) (t v : Network) → IsInside S 0 t → t.prefix_len + e ≡ p
    → IsFit S f p v → IsSubnetOf v t → (requests : List Request) → CanPlace (Without S v) requests
    → CanPlace (Without S (with_len t p)) requests
to_start S f p zero t v it len fit sub requests place =
    let family : v.family ≡ t.family = (sub (own v) (own_in v)).same_family in
    let bits : host_bits v ≡ host_bits t = omega (arith, ap width family, fit.of_length, len) in
    let back : IsSubnetOf t v = nested t v (own v) (sub (own v) (own_in v)) (own_in v) (omega (arith, bits)) in
    let same : v ≡ t =
    same_from_block v t fit.inside.network it.network fit.inside.truncated it.truncated (sub, back) in
    let at_len : t ≡ with_len t p = same_network t (with_len t p) refl refl (omega (arith, len)) in
    subst (λ m. CanPlace (Without S m) requests) (same ∙ at_len) place
to_start S f p (suc e) t v it len fit sub requests place =
    let next : ℕ = t.prefix_len + 1 in
    let family : v.family ≡ t.family = (sub (own v) (own_in v)).same_family in
    let fits : next ≤ width t.family =
    omega (arith, len, fit.of_length, fit.inside.network.prefix_fits, ap width family) in
    let long : next ≤ v.prefix_len = omega (arith, len, fit.of_length) in
    let d : Network = with_len t next in
    let c : Network = above v next in
    let id : IsInside S 0 d = IsInside-at_start S t next it (omega arith) fits in
    let ic : IsInside S 0 c = IsInside-above S v t next fit.inside.network long it (omega arith) sub in
    let (m, fit_m, m_in_d, move) = place_elsewhere S f p c d v ic id family refl fit (in_above v next long)
    (λ k i x kx dx. elim (nested_or_disjoint k d) [
      | inl s ↦ s
      | inr (inr apart) ↦ absurd (apart x kx dx)
      | inr (inl s) ↦ elim (cases_lt (host_bits d) (host_bits k)) [
        | inr le ↦ nested k d x kx dx le
        | inl lt ↦
            let t_in_k : IsSubnetOf t k =
            nested t k (own d) (own_in t) (s (own d) (own_in d)) (omega (arith, lt, fits)) in
            absurd ((i.within (own v) (t_in_k (own v) (sub (own v) (own_in v)))).1 (own_in v))
      ]
    ]) in
    to_start S f p e d m id (omega (arith, len)) fit_m m_in_d requests (move requests place)

-- After the best fit is taken, all that can be placed can be placed that could be after any other choice.
pub best_fit_keeps_placements : (S : Address → Type 0) → IsDecided S → (f : Family) (p : ℕ) (n : Network)
    → IsBestFit S f p n → (requests : List Request) → CanPlace S ((f, p) ∷ requests)
    → CanPlace (Without S n) requests
best_fit_keeps_placements S dec f p n best requests (m, fit, rest) =
    let block = best.block in
    let max = best.large_enough.maximal in
    let (b, large, m_in_b) = large_enough_above S dec f p m fit in
    let short : block.prefix_len ≤ m.prefix_len = omega (arith, best.large_enough.enough, fit.of_length) in
    let c : Network = above m block.prefix_len in
    let ic : IsInside S 0 c =
    IsInside-above S m b block.prefix_len fit.inside.network short large.maximal.inside (best.smallest b large)
    m_in_b in
    let family : m.family ≡ block.family = fit.of_family ∙ sym best.large_enough.of_family in
    let (v, fit_v, v_in_block, move) =
    place_elsewhere S f p c block m ic max.inside family refl fit (in_above m block.prefix_len short)
    (λ k i x kx dx. elim (nested_or_disjoint k block) [
      | inl s ↦ s
      | inr (inr apart) ↦ absurd (apart x kx dx)
      | inr (inl s) ↦
          let same : k ≡ block = max.largest k (IsInside-of_rest S m k i) s in
          subst (λ z. IsSubnetOf k z) same (λ y a. a)
    ]) in
    let there : CanPlace (Without S (with_len block p)) requests =
    to_start S f p (p - block.prefix_len) block v max.inside (omega (arith, best.large_enough.enough)) fit_v v_in_block
    requests (move requests rest) in
    let same : with_len block p ≡ n = same_network (with_len block p) n
    (best.large_enough.of_family ∙ sym best.fit.of_family) (sym best.at_start) (sym best.fit.of_length) in
    subst (λ z. CanPlace (Without S z) requests) same there

-- what can be placed has room for its first
pub room_of_first : (S : Address → Type 0) (r : Request) (requests : List Request) → CanPlace S (r ∷ requests)
    → HasRoom S r.0 r.1
room_of_first S r requests (n, fit, rest) = (n, fit)

-- networks inside the set that share no address are a placement, in whatever order
pub place_disjoint : (S : Address → Type 0) (networks : List Network) → All (IsInside S 0) networks
    → ArePairwiseDisjoint networks → CanPlace S (map request_of networks)
place_disjoint S [] inside apart = tt
place_disjoint S (n ∷ ns) inside apart = (
  n,
  record { inside = all_at (IsInside S 0) (n ∷ ns) inside n (contains_here n ns); of_family = refl; of_length = refl },
  place_disjoint (Without S n) ns
      (λ i d l.
      let y : Network = get_or ns i d in
      let iy : IsInside S 0 y =
      all_at (IsInside S 0) (n ∷ ns) inside y (contains_there n ns y (contains_at ns i d l)) in
      IsInside-of_block S (Without S n) 0 y iy (λ x a. (
        iy.within x a,
        λ b. pairs_head AreDisjoint n ns apart y (contains_at ns i d l) x b a,
      )))
      (pairs_tail AreDisjoint n ns apart),
)

-- in a set that has more as much can be placed
pub CanPlace-more : (requests : List Request) (A B : Address → Type 0) → ((x : Address) → A x → B x)
    → CanPlace A requests → CanPlace B requests
CanPlace-more [] A B more place = tt
CanPlace-more (r ∷ rs) A B more (n, fit, rest) = (
  n,
  record {
    inside = IsInside-of_block A B 0 n fit.inside (λ x a. more x (fit.inside.within x a));
    of_family = fit.of_family;
    of_length = fit.of_length;
  },
  CanPlace-more rs (Without A n) (Without B n) (λ x h. (more x h.0, h.1)) rest,
)
