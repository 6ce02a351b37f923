-- The cover of lists of networks: the empty list, one network more, two lists joined; and which changes keep a cover.
use Rattle.std.proofs.Common.{◌⊎◌, ◌↔◌, List, [], ◌∷◌, ◌++◌, map, Contains, IsPermutation, sym, subst, inl, inr}
use Rattle.std.proofs.Common.{◌^◌, All, ap, arith}
use Rattle.std.proofs.lemmas.List.Elements.{Contains-append_left, Contains-append_right, Contains-append_cases}
use Rattle.std.proofs.lemmas.List.Sorted.{Contains-permutation, IsPermutation-sym}
use Rattle.ipnet_base.specs.Address.{Address, IsAddress, width}
use Rattle.ipnet_base.specs.Network.{Network, IsNetwork, InBlock, IsSubnetOf, AreHalves, IsSupernetOf, truncation}
use Rattle.ipnet_base.specs.Blocks.{IsCoveredBy, HaveSameCover}
use Rattle.ipnet_base.proofs.NetworkLaws.{truncation_in, in_truncation}
use Rattle.ipnet_base.proofs.SupernetLaws.{supernet_to_halves, halves_to_supernet}
use Rattle.ipnet_base.proofs.ListLaws.{contains_nil, contains_here, contains_there, contains_cases, any_from_contains}
use Rattle.ipnet_base.proofs.ListLaws.{all_at}
use Rattle.ipnet_base.proofs.BlockLaws.{between_from_block, last_fits}

-- an address in the block of a member is covered
cover_member : (networks : List Network) (n : Network) (x : Address) → Contains networks n → InBlock n x
    → IsCoveredBy networks x
cover_member networks n x c a = any_from_contains (λ m. InBlock m x) networks n c a

-- the member whose block holds a covered address
abbrev pub covering_member : (networks : List Network) (x : Address) (a : IsCoveredBy networks x)
    → Contains networks a.1
covering_member networks x a = (a.0, a.2, a.3)

-- what a list of networks covers is addresses
pub covered_fits : (networks : List Network) → All IsNetwork networks → (x : Address) → IsCoveredBy networks x
    → IsAddress x
covered_fits networks valid x a =
    let n : Network = a.1 in
    let u : IsNetwork n = all_at IsNetwork networks valid n (a.0, a.2, a.3) in
    omega (arith, (between_from_block n x a.4).to_end, last_fits n u, ap (λ f. 2 ^ width f) a.4.same_family)

-- the empty list covers nothing
pub cover_nil : (x : Address) → IsCoveredBy [] x → ⊥
cover_nil x a = contains_nil a.1 (covering_member [] x a)

-- one network more in front
pub cover_cons : (n : Network) (networks : List Network) (x : Address)
    → IsCoveredBy (n ∷ networks) x ↔ (InBlock n x ⊎ IsCoveredBy networks x)
cover_cons n networks x = (to, from)
  where
    to : IsCoveredBy (n ∷ networks) x → InBlock n x ⊎ IsCoveredBy networks x
    to a = elim (contains_cases n networks a.1 (covering_member (n ∷ networks) x a)) [
      | inl e ↦ inl (subst (λ m. InBlock m x) (sym e) a.4)
      | inr c ↦ inr (cover_member networks a.1 x c a.4)
    ]

    from : InBlock n x ⊎ IsCoveredBy networks x → IsCoveredBy (n ∷ networks) x
    from (inl a) = cover_member (n ∷ networks) n x (contains_here n networks) a
    from (inr a) =
        cover_member (n ∷ networks) a.1 x (contains_there n networks a.1 (covering_member networks x a)) a.4

-- a list of one network
pub cover_one : (n : Network) (x : Address) → IsCoveredBy (n ∷ []) x ↔ InBlock n x
cover_one n x = (
  λ a. elim ((cover_cons n [] x).0 a) [ inl b ↦ b | inr c ↦ absurd (cover_nil x c) ],
  λ a. (cover_cons n [] x).1 (inl a),
)

-- two lists, one after the other
pub cover_append_left : (networks others : List Network) (x : Address) → IsCoveredBy networks x
    → IsCoveredBy (networks ++ others) x
cover_append_left networks others x a =
    cover_member (networks ++ others) a.1 x
    (Contains-append_left networks others a.1 (covering_member networks x a)) a.4

pub cover_append_right : (networks others : List Network) (x : Address) → IsCoveredBy others x
    → IsCoveredBy (networks ++ others) x
cover_append_right networks others x a =
    cover_member (networks ++ others) a.1 x
    (Contains-append_right networks others a.1 (covering_member others x a)) a.4

pub cover_append_cases : (networks others : List Network) (x : Address) → IsCoveredBy (networks ++ others) x
    → IsCoveredBy networks x ⊎ IsCoveredBy others x
cover_append_cases networks others x a =
    elim (Contains-append_cases networks others a.1 (covering_member (networks ++ others) x a)) [
      | inl c ↦ inl (cover_member networks a.1 x c a.4)
      | inr c ↦ inr (cover_member others a.1 x c a.4)
    ]

pub cover_append : (networks others : List Network) (x : Address)
    → IsCoveredBy (networks ++ others) x ↔ (IsCoveredBy networks x ⊎ IsCoveredBy others x)
cover_append networks others x = (
  cover_append_cases networks others x,
  λ a. elim a [ inl b ↦ cover_append_left networks others x b | inr b ↦ cover_append_right networks others x b ],
)

-- one network more at the end
pub cover_push : (networks : List Network) (n : Network) (x : Address)
    → IsCoveredBy (networks ++ n ∷ []) x ↔ (IsCoveredBy networks x ⊎ InBlock n x)
cover_push networks n x = (
  λ a. elim (cover_append_cases networks (n ∷ []) x a) [ inl b ↦ inl b | inr b ↦ inr ((cover_one n x).0 b) ],
  λ a. elim a [
    | inl b ↦ cover_append_left networks (n ∷ []) x b
    | inr b ↦ cover_append_right networks (n ∷ []) x ((cover_one n x).1 b)
  ],
)

-- to cover the same is symmetric and transitive, and remains true if lists are joined
pub HaveSameCover-sym : (networks others : List Network) → HaveSameCover networks others → HaveSameCover others networks
HaveSameCover-sym networks others h x = ((h x).1, (h x).0)

pub HaveSameCover-trans : (a b c : List Network) → HaveSameCover a b → HaveSameCover b c → HaveSameCover a c
HaveSameCover-trans a b c h k x = (λ y. (k x).0 ((h x).0 y), λ y. (h x).1 ((k x).1 y))

pub HaveSameCover-append : (a b c d : List Network) → HaveSameCover a c → HaveSameCover b d
    → HaveSameCover (a ++ b) (c ++ d)
HaveSameCover-append a b c d h i x = (
  λ p. elim (cover_append_cases a b x p) [
    | inl l ↦ cover_append_left c d x ((h x).0 l)
    | inr r ↦ cover_append_right c d x ((i x).0 r)
  ],
  λ p. elim (cover_append_cases c d x p) [
    | inl l ↦ cover_append_left a b x ((h x).1 l)
    | inr r ↦ cover_append_right a b x ((i x).1 r)
  ],
)

-- lists with the same members, in whatever order and however often, cover the same
pub cover_same_members : (networks others : List Network)
    → ((n : Network) → Contains networks n ↔ Contains others n) → HaveSameCover networks others
cover_same_members networks others same x = (
  λ a. cover_member others a.1 x ((same a.1).0 (covering_member networks x a)) a.4,
  λ a. cover_member networks a.1 x ((same a.1).1 (covering_member others x a)) a.4,
)

-- so do a list in another order, and one without host bits
pub cover_permutation : (networks sorted : List Network) → IsPermutation networks sorted → HaveSameCover sorted networks
cover_permutation networks sorted h =
    cover_same_members sorted networks
    (λ n. (
      Contains-permutation sorted networks n (IsPermutation-sym networks sorted h),
      Contains-permutation networks sorted n h,
    ))

pub cover_truncation : (networks : List Network) → HaveSameCover (map truncation networks) networks
cover_truncation [] x = (λ a. a, λ a. a)
cover_truncation (n ∷ ns) x = (to (cover_truncation ns x), from (cover_truncation ns x))
  where
    to : IsCoveredBy (map truncation ns) x ↔ IsCoveredBy ns x → IsCoveredBy (map truncation (n ∷ ns)) x
        → IsCoveredBy (n ∷ ns) x
    to rest a = elim ((cover_cons (truncation n) (map truncation ns) x).0 a) [
      | inl b ↦ (cover_cons n ns x).1 (inl (truncation_in n x b))
      | inr b ↦ (cover_cons n ns x).1 (inr (rest.0 b))
    ]

    from : IsCoveredBy (map truncation ns) x ↔ IsCoveredBy ns x → IsCoveredBy (n ∷ ns) x
        → IsCoveredBy (map truncation (n ∷ ns)) x
    from rest a = elim ((cover_cons n ns x).0 a) [
      | inl b ↦ (cover_cons (truncation n) (map truncation ns) x).1 (inl (in_truncation n x b))
      | inr b ↦ (cover_cons (truncation n) (map truncation ns) x).1 (inr (rest.1 b))
    ]

-- a network that lies in a member can be dropped
pub cover_without_nested : (n k : Network) (networks : List Network) → Contains networks k → IsSubnetOf n k
    → HaveSameCover (n ∷ networks) networks
cover_without_nested n k networks c sub x = (
  λ a. elim ((cover_cons n networks x).0 a) [ inl b ↦ cover_member networks k x c (sub x b) | inr b ↦ b ],
  λ a. (cover_cons n networks x).1 (inr a),
)

-- the two halves of a supernet can be joined
pub cover_of_joined : (s n k : Network) (networks : List Network) → IsNetwork n → IsSupernetOf s n → AreHalves n k
    → HaveSameCover (n ∷ k ∷ networks) (s ∷ networks)
cover_of_joined s n k networks u p halves x = (to, from)
  where
    to : IsCoveredBy (n ∷ k ∷ networks) x → IsCoveredBy (s ∷ networks) x
    to a = elim ((cover_cons n (k ∷ networks) x).0 a) [
      | inl b ↦ (cover_cons s networks x).1 (inl (halves_to_supernet s n k u p halves x (inl b)))
      | inr b ↦ elim ((cover_cons k networks x).0 b) [
        | inl c ↦ (cover_cons s networks x).1 (inl (halves_to_supernet s n k u p halves x (inr c)))
        | inr c ↦ (cover_cons s networks x).1 (inr c)
      ]
    ]

    from : IsCoveredBy (s ∷ networks) x → IsCoveredBy (n ∷ k ∷ networks) x
    from a = elim ((cover_cons s networks x).0 a) [
      | inr b ↦ (cover_cons n (k ∷ networks) x).1 (inr ((cover_cons k networks x).1 (inr b)))
      | inl b ↦ elim (supernet_to_halves s n k u p halves x b) [
        | inl c ↦ (cover_cons n (k ∷ networks) x).1 (inl c)
        | inr c ↦ (cover_cons n (k ∷ networks) x).1 (inr ((cover_cons k networks x).1 (inl c)))
      ]
    ]

-- two halves at the end of a list cover what their supernet covers
pub joined_cover : (ys : List Network) (t next s : Network) → IsNetwork t → AreHalves t next → IsSupernetOf s t
    → (x : Address)
    → (IsCoveredBy ys x ⊎ InBlock s x) ↔ (IsCoveredBy (ys ++ t ∷ []) x ⊎ InBlock next x)
joined_cover ys t next s u halves p x = (down, up)
  where
    down : IsCoveredBy ys x ⊎ InBlock s x → IsCoveredBy (ys ++ t ∷ []) x ⊎ InBlock next x
    down (inl c) = inl ((cover_push ys t x).1 (inl c))
    down (inr a) = elim (supernet_to_halves s t next u p halves x a) [
      | inl b ↦ inl ((cover_push ys t x).1 (inr b))
      | inr b ↦ inr b
    ]

    up : IsCoveredBy (ys ++ t ∷ []) x ⊎ InBlock next x → IsCoveredBy ys x ⊎ InBlock s x
    up (inr b) = inr (halves_to_supernet s t next u p halves x (inr b))
    up (inl c) = elim ((cover_push ys t x).0 c) [
      | inl d ↦ inl d
      | inr d ↦ inr (halves_to_supernet s t next u p halves x (inl d))
    ]
