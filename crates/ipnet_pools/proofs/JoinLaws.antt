-- A network that is joined with its other half, as long as a list has that, and the maximal blocks after it.
use Rattle.std.proofs.Common.{◌≡◌, ◌<◌, ◌≤◌, ◌⊎◌, ◌↔◌, List, Contains, sym, ap, ◌∙◌, subst, arith, inl, inr}
use Rattle.std.proofs.Common.{Result, Ok, Err, OnOk, OnErr, Option, Some, None, IfNone}
use Rattle.std.specs.Prelude.{⊤}
use Rattle.std.proofs.lemmas.Bool.{cases_lt}
use Rattle.ipnet_base.specs.Address.{Address, width}
use Rattle.ipnet_base.specs.Network.{Network, IsNetwork, InBlock, IsSubnetOf, AreDisjoint, IsTruncated, IsSupernetOf}
use Rattle.ipnet_base.specs.Network.{AreHalves, host_bits}
use Rattle.ipnet_base.specs.Blocks.{IsInside, IsMaximal, IsCoveredBy}
use Rattle.ipnet_base.proofs.BlockLaws.{own, own_in}
use Rattle.ipnet_base.proofs.DecidedLaws.{IsDecided}
use Rattle.ipnet_base.proofs.ListLaws.{any_from_contains}
use Rattle.ipnet_base.proofs.MaximalLaws.{maximal_above, IsInside-of_block}
use Rattle.ipnet_base.proofs.NestingLaws.{nested, nested_or_disjoint}
use Rattle.ipnet_base.proofs.NetworkLaws.{same_from_block}
use Rattle.ipnet_base.proofs.SupernetLaws.{supernet, IsSupernetOf-supernet, supernet_below, supernet_to_halves}
use Rattle.ipnet_base.proofs.SupernetLaws.{halves_to_supernet, halves_apart}
use Rattle.ipnet_pools.specs.BlocksOf.{blocks_of}
use Rattle.ipnet_pools.specs.Pieces.{HaveSameNetworks, AreBeside, LacksHalf, IsJoined}
use Rattle.ipnet_pools.specs.declared.block_set.BlockSet.{BlockSet}
use Rattle.ipnet_pools.proofs.SplitLaws.{half_below}

-- a part without its other half in the list is added as it is
joined_alone : (old new : List Network) (part : Network) → IsNetwork part → IsTruncated part → AreBeside old part
    → LacksHalf old part → ((m : Network) → Contains new m ↔ (Contains old m ⊎ (m ≡ part))) → IsJoined old new part
joined_alone old new part u t b lacks added = record {
  top = part;
  network = u;
  truncated = t;
  above = λ x a. a;
  within = λ x a. inl a;
  lacks = lacks;
  members = λ m. (
    λ c. elim ((added m).0 c) [
      | inr e ↦ inl e
      | inl d ↦ inr (
        d,
        elim (b.beside m d) [
          | inl s ↦ inl s
          | inr apart ↦ inr (λ s. apart (own m) (own_in m) (s (own m) (own_in m)))
        ],
      )
    ],
    λ h. (added m).1 (elim h [ inl e ↦ inr e | inr k ↦ inl k.0 ]),
  );
}

-- after an insertion that succeeds
pub inserted_alone : {E : Type 0} (old new : List Network) (part : Network) → IsNetwork part → IsTruncated part
    → AreBeside old part → LacksHalf old part → (r : Result ⊤ E)
    → OnOk r ((m : Network) → Contains new m ↔ (Contains old m ⊎ (m ≡ part))) → OnOk r (IsJoined old new part)
inserted_alone old new part u t b lacks (Ok done) added = joined_alone old new part u t b lacks added
inserted_alone old new part u t b lacks (Err e) added = tt

pub inserted_same : {T E : Type 0} (old new : BlockSet) (r : Result T E) → OnErr r (new ≡ old)
    → OnErr r (HaveSameNetworks (blocks_of old) (blocks_of new))
inserted_same old new (Ok done) same = tt
inserted_same old new (Err e) same = λ m.
    (subst (λ z. Contains (blocks_of z) m) same, subst (λ z. Contains (blocks_of z) m) (sym same))

module _ (old : List Network) (part s h : Network) (u : IsNetwork part) (above : IsSupernetOf s part)
    (halves : AreHalves part h) (b : AreBeside old part) (has : Contains old h) where
  half_in : IsSubnetOf h s
  half_in x a = halves_to_supernet s part h u above halves x (inr a)

  pub supernet_beside : AreBeside old s
  supernet_beside = record {
    apart = b.apart;
    beside = λ m c. elim (nested_or_disjoint m s) [
      | inl sub ↦ inl sub
      | inr (inr d) ↦ inr d
      | inr (inl sub) ↦
          let same : m ≡ h = b.apart m h c has (own h) (sub (own h) (half_in (own h) (own_in h))) (own_in h) in
          absurd (halves_apart part h halves (own part) (own_in part)
          (subst (λ z. InBlock z (own part)) same (sub (own part) (above.contains (own part) (own_in part)))))
    ];
  }

  module _ (mid new : List Network) (joined : IsJoined old mid s)
      (removed : (m : Network) → Contains new m ↔ (Contains mid m × ¬ (m ≡ h))) where
    not_half : (m : Network) → m ≡ h → InBlock m (own part) → ⊥
    not_half m e a = halves_apart part h halves (own part) (own_in part) (subst (λ z. InBlock z (own part)) e a)

    part_in_top : IsSubnetOf part joined.top
    part_in_top x a = joined.above x (above.contains x a)

    stays : (m : Network) → Contains old m → ¬ (m ≡ h) → IsSubnetOf m s → IsSubnetOf m part
    stays m c other sub = elim (b.beside m c) [
      | inl inside ↦ inside
      | inr apart ↦
          elim (supernet_to_halves s part h u above halves (own m) (sub (own m) (own_in m))) [
            | inl a ↦ absurd (apart (own m) (own_in m) a)
            | inr a ↦ absurd (other (b.apart m h c has (own m) (own_in m) a))
          ]
    ]

    pub joined_more : IsJoined old new part
    joined_more = record {
      top = joined.top;
      network = joined.network;
      truncated = joined.truncated;
      above = part_in_top;
      within = λ x a. elim (joined.within x a) [
        | inr c ↦ inr c
        | inl i ↦ elim (supernet_to_halves s part h u above halves x i) [
          | inl p ↦ inl p
          | inr q ↦ inr (any_from_contains (λ z. InBlock z x) old h has q)
        ]
      ];
      lacks = joined.lacks;
      members = λ m. (
        λ c.
            let (d, other) = (removed m).0 c in
            elim ((joined.members m).0 d) [
              | inl e ↦ inl e
              | inr (o, inl sub) ↦ inr (o, inl (stays m o other sub))
              | inr (o, inr out) ↦ inr (o, inr out)
            ],
        λ k. elim k [
          | inl e ↦ (removed m).1 (
            (joined.members m).1 (inl e),
            λ same. not_half joined.top (sym e ∙ same) (part_in_top (own part) (own_in part)),
          )
          | inr (o, inl sub) ↦ (removed m).1 (
            (joined.members m).1 (inr (o, inl (λ x a. above.contains x (sub x a)))),
            λ same. halves_apart part h halves (own h) (subst (λ z. IsSubnetOf z part) same sub (own h) (own_in h))
                (own_in h),
          )
          | inr (o, inr out) ↦ (removed m).1 (
            (joined.members m).1 (inr (o, inr out)),
            λ same. out (subst (λ z. IsSubnetOf z joined.top) (sym same) (λ x a. joined.above x (half_in x a))),
          )
        ],
      );
    }

-- the maximal blocks of a set and a network beside it
module _ (S : Address → Type 0) (dec : IsDecided S) (old new : List Network) (part : Network)
    (members : (m : Network) → Contains old m ↔ IsMaximal S 0 m)
    (covers : (x : Address) → IsCoveredBy old x → S x)
    (free : (x : Address) → InBlock part x → ¬ (S x)) (joined : IsJoined old new part) where
  abbrev pub Both : Address → Type 0
  Both x = S x ⊎ InBlock part x

  top_inside : IsInside Both 0 joined.top
  top_inside = record {
    network = joined.network;
    truncated = joined.truncated;
    long_enough = omega arith;
    within = λ x a. elim (joined.within x a) [ inl p ↦ inr p | inr c ↦ inl (covers x c) ];
  }

  -- the part and what lies apart from it
  of_part : (k : Network) → IsInside Both 0 k → AreDisjoint k part → IsInside S 0 k
  of_part k i apart =
      IsInside-of_block Both S 0 k i (λ x a. elim (i.within x a) [ inl s ↦ s | inr p ↦ absurd (apart x a p) ])

  -- no larger network has the other half
  no_larger : (k : Network) → IsInside Both 0 k → IsSubnetOf joined.top k → host_bits joined.top < host_bits k → ⊥
  no_larger k i sub lt = elim joined.lacks [
    | inl zero ↦ omega (arith, zero, lt, ap width (sub (own joined.top) (own_in joined.top)).same_family)
    | inr (h, halves, w, t, lacks) ↦
        let s = supernet joined.top in
        let up : IsSupernetOf s joined.top =
        IsSupernetOf-supernet joined.top joined.network halves.siblings.has_supernet in
        let s_in : IsSubnetOf s k = supernet_below s joined.top k joined.network up sub lt in
        let h_up : IsSupernetOf s h = half_below s joined.top h joined.network up halves in
        let inside : IsInside S 0 h = record {
          network = w;
          truncated = t;
          long_enough = omega arith;
          within = λ x a. elim (i.within x (s_in x (h_up.contains x a))) [
            | inl y ↦ y
            | inr p ↦ absurd (halves_apart joined.top h halves x (joined.above x p) a)
          ];
        } in
        let (m, max, h_in) = maximal_above S 0 dec h inside in
        elim (cases_lt (host_bits h) (host_bits m)) [
          | inl longer ↦
              let s_m : IsSubnetOf s m = supernet_below s h m w h_up h_in longer in
              free (own part) (own_in part)
              (max.inside.within (own part)
              (s_m (own part) (up.contains (own part) (joined.above (own part) (own_in part)))))
          | inr le ↦
              let same : m ≡ h = same_from_block m h max.inside.network w max.inside.truncated t
              (nested m h (own h) (h_in (own h) (own_in h)) (own_in h) le, h_in) in
              lacks ((members h).1 (subst (IsMaximal S 0) same max))
        ]
  ]

  top_largest : (k : Network) → IsInside Both 0 k → IsSubnetOf joined.top k → k ≡ joined.top
  top_largest k i sub = elim (cases_lt (host_bits joined.top) (host_bits k)) [
    | inl lt ↦ absurd (no_larger k i sub lt)
    | inr le ↦ same_from_block k joined.top i.network joined.network i.truncated joined.truncated
        (nested k joined.top (own joined.top) (sub (own joined.top) (own_in joined.top)) (own_in joined.top) le, sub)
  ]

  top_maximal : IsMaximal Both 0 joined.top
  top_maximal = record { inside = top_inside; largest = top_largest }

  stays_maximal : (m : Network) → IsMaximal S 0 m → ¬ (IsSubnetOf m joined.top) → IsMaximal Both 0 m
  stays_maximal m max out = record {
    inside = IsInside-of_block S Both 0 m max.inside (λ x a. inl (max.inside.within x a));
    largest = λ k i sub. elim (nested_or_disjoint k part) [
      | inr (inr d) ↦ max.largest k (of_part k i d) sub
      | inl k_in ↦ absurd (free (own m) (k_in (own m) (sub (own m) (own_in m))) (max.inside.within (own m) (own_in m)))
      | inr (inl part_in) ↦ elim (nested_or_disjoint k joined.top) [
        | inl k_in ↦ absurd (out (λ x a. k_in x (sub x a)))
        | inr (inl top_in) ↦
            absurd (out (subst (λ z. IsSubnetOf m z) (top_largest k i top_in) sub))
        | inr (inr d) ↦ absurd (d (own part) (part_in (own part) (own_in part)) (joined.above (own part) (own_in part)))
      ]
    ];
  }

  pub joined_maximal : (m : Network) → Contains new m ↔ IsMaximal Both 0 m
  joined_maximal m = (
    λ c. elim ((joined.members m).0 c) [
      | inl e ↦ subst (IsMaximal Both 0) (sym e) top_maximal
      | inr (o, inl sub) ↦
          absurd (free (own m) (sub (own m) (own_in m)) (((members m).0 o).inside.within (own m) (own_in m)))
      | inr (o, inr out) ↦ stays_maximal m ((members m).0 o) out
    ],
    λ max. (joined.members m).1 (elim (nested_or_disjoint m joined.top) [
      | inl sub ↦ inl (sym (max.largest joined.top top_inside sub))
      | inr (inl sub) ↦ inl (top_largest m max.inside sub)
      | inr (inr d) ↦ inr (
        (members m).1 (record {
          inside = of_part m max.inside (λ x a p. d x a (joined.above x p));
          largest = λ k i sub. max.largest k (IsInside-of_block S Both 0 k i (λ x a. inl (i.within x a))) sub;
        }),
        inr (λ sub. d (own m) (own_in m) (sub (own m) (own_in m))),
      )
    ]),
  )

-- no network of the list contains the network if none contains its supernet, and the network is not in the list
module _ (list : List Network) (valid : (m : Network) → Contains list m → IsNetwork m) (n : Network) (u : IsNetwork n)
    (t : IsTruncated n) (lacks : ¬ (Contains list n)) where
  not_as_large : (m : Network) → Contains list m → IsTruncated m → IsSubnetOf n m → host_bits m ≤ host_bits n → ⊥
  not_as_large m c tm sub le =
      lacks (subst (Contains list) (same_from_block m n (valid m c) u tm t
      (nested m n (own n) (sub (own n) (own_in n)) (own_in n) le, sub)) c)

  pub none_holds_all : n.prefix_len ≡ 0 → (m : Network) → Contains list m → IsTruncated m → ¬ (IsSubnetOf n m)
  none_holds_all zero m c tm sub =
      not_as_large m c tm sub (omega (arith, zero, ap width (sub (own n) (own_in n)).same_family))

  pub none_holds : {T : Type 0} (s : Network) → IsSupernetOf s n → (r : Option T)
      → IfNone r ((m : Network) → Contains list m → IsTruncated m → ¬ (IsSubnetOf s m))
      → IfNone r ((m : Network) → Contains list m → IsTruncated m → ¬ (IsSubnetOf n m))
  none_holds s above (Some x) none = tt
  none_holds s above None none = λ m c tm sub. elim (cases_lt (host_bits n) (host_bits m)) [
    | inl lt ↦ none m c tm (supernet_below s n m u above sub lt)
    | inr le ↦ not_as_large m c tm sub le
  ]
