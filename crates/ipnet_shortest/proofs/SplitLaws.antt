-- The blocks of a list in both halves of a network, in order.
use Rattle.std.proofs.Common.{◌≡◌, ℕ, zero, suc, ◌+◌, ◌<◌, ◌≤◌, inl, inr}
use Rattle.std.proofs.Common.{List, [], ◌∷◌, ◌++◌, length, get_or, take, drop, Contains, All, AllPairs}
use Rattle.std.proofs.Common.{refl, sym, ap, ◌∙◌, subst, arith}
use Rattle.std.proofs.lemmas.List.{get_or-take, length-take-le, take-append-drop, drop_more}
use Rattle.std.proofs.lemmas.List.Elements.{Contains-append_left, Contains-append_right}
use Rattle.ipnet_base.specs.Address.{width}
use Rattle.ipnet_base.specs.Network.{Network, IsNetwork, InBlock, IsSubnetOf, AreDisjoint}
use Rattle.ipnet_base.proofs.BlockLaws.{own, own_in, block_between}
use Rattle.ipnet_base.proofs.ListLaws.{contains_here, contains_cases, all_at}
use Rattle.ipnet_base.proofs.ListLaws.{all_from_members, pairs_head, pairs_tail, pairs_cons}
use Rattle.ipnet_base.proofs.NestingLaws.{nested}
use Rattle.ipnet_shortest.specs.Halves.{IsHalfWith, AreLeading, AreBlocksIn}
use Rattle.ipnet_shortest.proofs.PartLaws.{in_second_half, each_smaller}

-- ---- pairs of two lists

pairs_left : {X : Type 0} (R : X → X → Type 0) (xs ys : List X) → AllPairs R (xs ++ ys) → AllPairs R xs
pairs_left R [] ys h = λ i j d l m. absurd (omega (arith, m))
pairs_left R (x ∷ xs) ys h =
    pairs_cons R x xs (λ y c. pairs_head R x (xs ++ ys) h y (Contains-append_left xs ys y c))
    (pairs_left R xs ys (pairs_tail R x (xs ++ ys) h))

pairs_right : {X : Type 0} (R : X → X → Type 0) (xs ys : List X) → AllPairs R (xs ++ ys) → AllPairs R ys
pairs_right R [] ys h = h
pairs_right R (x ∷ xs) ys h = pairs_right R xs ys (pairs_tail R x (xs ++ ys) h)

pairs_across : {X : Type 0} (R : X → X → Type 0) (xs ys : List X) → AllPairs R (xs ++ ys) → (x y : X) → Contains xs x
    → Contains ys y → R x y
pairs_across R [] ys h x y c d = absurd (omega (arith, c.1))
pairs_across R (z ∷ xs) ys h x y c d = elim (contains_cases z xs x c) [
  | inl e ↦ subst (λ v. R v y) e (pairs_head R z (xs ++ ys) h y (Contains-append_right xs ys y d))
  | inr k ↦ pairs_across R xs ys (pairs_tail R z (xs ++ ys) h) x y k d
]

-- ---- the blocks of both halves

abbrev Starts : Network → Network → Type 0
Starts n k = n.number ≤ k.number

module _ (around l r a k : Network) (front back rest : List Network) (e : back ≡ k ∷ rest)
    (u : IsNetwork around) (v : IsNetwork l) (w : IsNetwork r) (valid : All IsNetwork (front ++ back))
    (h : AreBlocksIn (front ++ back) around) (two : 1 < length (front ++ back)) (in_front : Contains front a)
    (of_a : IsHalfWith around a l) (of_k : IsHalfWith around k r)
    (lead : (m : Network) → Contains front m → IsSubnetOf m l) (out : ¬ (IsSubnetOf k l)) where
  abbrev blocks : List Network
  blocks = front ++ back

  all_within : (m : Network) → Contains blocks m → IsSubnetOf m around
  all_within m c = all_at (λ n. IsSubnetOf n around) blocks h.within m c

  in_back : Contains back k
  in_back = subst (λ z. Contains z k) (sym e) (contains_here k rest)

  -- the first block of the other half does not come after the others
  starts_after : (m : Network) → Contains back m → k.number ≤ m.number
  starts_after m c = elim (contains_cases k rest m (subst (λ z. Contains z m) e c)) [
    | inl same ↦ omega (arith, ap (λ z. z.number) same)
    | inr d ↦ pairs_head Starts k rest (subst (AllPairs Starts) e (pairs_right Starts front back h.ascending)) m d
  ]

  longer : (m : Network) → Contains blocks m → around.prefix_len < m.prefix_len
  longer m c = each_smaller around blocks valid u h two m c

  -- so none of them is in the first half
  not_first : (m : Network) → Contains back m → ¬ (IsSubnetOf m l)
  not_first m c sub =
      let am : InBlock l (own m) = sub (own m) (own_in m) in
      let aa : InBlock l (own a) = lead a in_front (own a) (own_in a) in
      let ak : InBlock around (own k) = all_within k (Contains-append_right front back k in_back) (own k) (own_in k) in
      let al : InBlock around (own l) = of_a.within (own l) (own_in l) in
      let inside : InBlock l (own k) = block_between l (own m) (own k) am (ak.same_family ∙ sym al.same_family)
      (omega (arith, of_a.truncated (own a) aa, pairs_across Starts front back h.ascending a k in_front in_back))
      (starts_after m c) in
      out (nested k l (own k) (own_in k) inside (omega (
        arith,
        longer k (Contains-append_right front back k in_back),
        of_a.shorter,
        ap width inside.same_family,
      )))

  pub front_blocks : AreBlocksIn front l
  front_blocks = record {
    truncated = of_a.truncated;
    some = omega (arith, in_front.1);
    within = all_from_members (λ n. IsSubnetOf n l) front lead;
    disjoint = pairs_left AreDisjoint front back h.disjoint;
    ascending = pairs_left Starts front back h.ascending;
  }

  pub back_blocks : AreBlocksIn back r
  back_blocks = record {
    truncated = of_k.truncated;
    some = omega (arith, in_back.1);
    within = all_from_members (λ n. IsSubnetOf n r) back
        (λ m c. in_second_half around l r a k u v w h.truncated of_a of_k out m
        (all_within m (Contains-append_right front back m c)) (longer m (Contains-append_right front back m c))
        (not_first m c));
    disjoint = pairs_right AreDisjoint front back h.disjoint;
    ascending = pairs_right Starts front back h.ascending;
  }

-- ---- a list that is cut at the end of the first half

-- The blocks of both halves.
pub record AreHalved (blocks front back : List Network) (l r : Network) : Type 0 where
  pub both : front ++ back ≡ blocks
  pub in_first : AreBlocksIn front l
  pub in_second : AreBlocksIn back r

all_valid : (blocks : List Network) → ((n : Network) → Contains blocks n → IsNetwork n) → All IsNetwork blocks
all_valid blocks h = all_from_members IsNetwork blocks h

module _ (around l r a k : Network) (blocks : List Network) (count : ℕ) (u : IsNetwork around) (v : IsNetwork l)
    (w : IsNetwork r) (valid : All IsNetwork blocks) (h : AreBlocksIn blocks around) (two : 1 < length blocks)
    (is_first : get_or blocks 0 a ≡ a) (of_a : IsHalfWith around a l) (lead : AreLeading blocks l count)
    (less : count < length blocks) (is_next : get_or blocks count k ≡ k) (of_k : IsHalfWith around k r) where
  some_lead : 0 < count
  some_lead = go count refl
    where
      go : (n : ℕ) → n ≡ count → 0 < count
      go zero e = absurd (lead.next a less
          (subst (λ m. IsSubnetOf m l) (sym (ap (λ i. get_or blocks i a) (sym e) ∙ is_first)) of_a.holds))
      go (suc n) e = omega (arith, e)

  size : length (take count blocks) ≡ count
  size = length-take-le count blocks lead.within

  pub halved : AreHalved blocks (take count blocks) (drop count blocks) l r
  halved =
      let whole : take count blocks ++ drop count blocks ≡ blocks = take-append-drop count blocks in
      let next : drop count blocks ≡ k ∷ drop (count + 1) blocks =
      drop_more blocks count k less ∙ ap (λ z. z ∷ drop (count + 1) blocks) is_next in
      let all = subst (All IsNetwork) (sym whole) valid in
      let given = subst (λ z. AreBlocksIn z around) (sym whole) h in
      let many = subst (λ z. 1 < length z) (sym whole) two in
      let first : Contains (take count blocks) a =
      (0, omega (arith, size, some_lead), get_or-take count blocks 0 a some_lead ∙ is_first) in
      let leads : (m : Network) → Contains (take count blocks) m → IsSubnetOf m l =
      λ m c. subst (λ z. IsSubnetOf z l)
      (sym (get_or-take count blocks c.0 m (omega (arith, size, c.1))) ∙ c.2)
      (lead.leading c.0 m (omega (arith, size, c.1))) in
      let out : ¬ (IsSubnetOf k l) = λ sub. lead.next k less (subst (λ m. IsSubnetOf m l) (sym is_next) sub) in
      record {
        both = whole;
        in_first = front_blocks around l r a k (take count blocks) (drop count blocks) (drop (count + 1) blocks) next
            u v w all given many first of_a of_k leads out;
        in_second = back_blocks around l r a k (take count blocks) (drop count blocks) (drop (count + 1) blocks) next
            u v w all given many first of_a of_k leads out;
      }

-- all blocks are in the first half
pub all_leading : (around l a : Network) (blocks : List Network) (count : ℕ) → AreBlocksIn blocks around
    → IsHalfWith around a l → AreLeading blocks l count → count ≡ length blocks → AreBlocksIn blocks l
all_leading around l a blocks count h of_a lead e = record {
  truncated = of_a.truncated;
  some = h.some;
  within = λ i d lt. lead.leading i d (omega (arith, e, lt));
  disjoint = h.disjoint;
  ascending = h.ascending;
}
