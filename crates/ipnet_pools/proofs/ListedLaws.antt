-- Sets of networks from lists, and sets of addresses with the same members.
use Rattle.std.proofs.Common.{◌≡◌, ◌⊎◌, ◌↔◌, ℕ, ◌+◌, ◌<◌, List, [], ◌∷◌, ◌++◌, map, drop, length, Contains}
use Rattle.std.proofs.Common.{sym, ap, ◌∙◌, subst, get_or}
use Rattle.std.proofs.lemmas.List.{drop_more, map-append, append-nil}
use Rattle.std.proofs.Math.Seq.{append_snoc}
use Rattle.std.proofs.Common.{inl, inr, Result, Ok, Err, IfOk, OnErr, Option, Some, None, IfSome}
use Rattle.ipnet_base.specs.Address.{Family, Address}
use Rattle.ipnet_base.specs.Network.{Network}
use Rattle.ipnet_base.specs.Blocks.{IsCoveredBy, IsMaximal, AreMaximalBlocks}
use Rattle.ipnet_base.proofs.ListLaws.{contains_nil, contains_here, contains_there, contains_cases}
use Rattle.ipnet.specs.declared.net.IpNet.{IpNet}
use Rattle.ipnet.specs.NetworkOf.{ip_network}
use Rattle.ipnet_sets.specs.declared.set.IpSet.{IpSet}
use Rattle.ipnet_sets.specs.Members.{IsMember, IsCountOf}
use Rattle.ipnet_sets.proofs.SetEqualLaws.{member_or_not}
use Rattle.ipnet_pools.specs.BlockKeys.{networks_of_keys}
use Rattle.ipnet_pools.specs.OwnBlocks.{AreOwnBlocks}
use Rattle.ipnet_pools.specs.Pieces.{IsListedSoFar}
use Rattle.ipnet_pools.specs.declared.block_set.BlockKey.{BlockKey}
use Rattle.ipnet_pools.proofs.OwnLaws.{own_from_members, covers_from_members}
use Rattle.ipnet_pools.proofs.PartLaws.{maximal_same}

pub listed_more : (all rest more : List IpNet) (x : IpNet) (old new : List Network) → rest ≡ x ∷ more
    → IsListedSoFar all old rest
    → ((m : Network) → Contains new m ↔ (Contains old m ⊎ (m ≡ ip_network x))) → IsListedSoFar all new more
listed_more all rest more x old new here so_far added m = (
  λ h. (so_far m).0 (elim h [
    | inl c ↦ elim ((added m).0 c) [
      | inl o ↦ inl o
      | inr e ↦ inr (subst (λ z. Contains (map ip_network z) m) (sym here)
          (subst (Contains (ip_network x ∷ map ip_network more)) (sym e)
          (contains_here (ip_network x) (map ip_network more))))
    ]
    | inr c ↦ inr (subst (λ z. Contains (map ip_network z) m) (sym here)
        (contains_there (ip_network x) (map ip_network more) m c))
  ]),
  λ c. elim ((so_far m).1 c) [
    | inl o ↦ inl ((added m).1 (inl o))
    | inr r ↦ elim (contains_cases (ip_network x) (map ip_network more) m
        (subst (λ z. Contains (map ip_network z) m) here r)) [
          | inl e ↦ inl ((added m).1 (inr (sym e)))
          | inr d ↦ inr d
        ]
  ],
)

pub listed_end : (all rest : List IpNet) (set : List Network) → rest ≡ [] → IsListedSoFar all set rest → (m : Network)
    → Contains set m ↔ Contains (map ip_network all) m
listed_end all rest set empty so_far m = (
  λ c. (so_far m).0 (inl c),
  λ c. elim ((so_far m).1 c) [
    | inl h ↦ h
    | inr r ↦ absurd (contains_nil m (subst (λ z. Contains (map ip_network z) m) empty r))
  ],
)

blocks_same : (A B : Address → Type 0) → ((x : Address) → A x ↔ B x) → (ns : List Network)
    → AreMaximalBlocks A 0 ns → AreMaximalBlocks B 0 ns
blocks_same A B same ns h = record {
  ascending = h.ascending;
  members = λ m. (
    λ c. maximal_same A B same m ((h.members m).0 c),
    λ max. (h.members m).1 (maximal_same B A (λ x. ((same x).1, (same x).0)) m max),
  );
}

pub ok_blocks_same : {T E : Type 0} (A B : Address → Type 0) → ((x : Address) → A x ↔ B x) → (f : T → List Network)
    → (r : Result T E) → IfOk r (λ t. AreMaximalBlocks A 0 (f t)) → IfOk r (λ t. AreMaximalBlocks B 0 (f t))
ok_blocks_same A B same f (Ok t) h = blocks_same A B same (f t) h
ok_blocks_same A B same f (Err e) h = tt

-- the numbers of addresses of a family
module _ (A B : Address → Type 0) (same : (x : Address) → A x ↔ B x) (f : Family) where
  pub count_same : (n : ℕ) → IsCountOf (λ x. (x.family ≡ f) × A x) n → IsCountOf (λ x. (x.family ≡ f) × B x) n
  count_same n h = record {
    addresses = h.addresses;
    once = h.once;
    members = λ x. (
      λ c. let (e, a) = (h.members x).0 c in (e, (same x).0 a),
      λ (e, b). (h.members x).1 (e, (same x).1 b),
    );
    count = h.count;
  }

  pub some_count_same : (o : Option ℕ) → IfSome o (IsCountOf (λ x. (x.family ≡ f) × A x))
      → IfSome o (IsCountOf (λ x. (x.family ≡ f) × B x))
  some_count_same (Some n) h = count_same n h
  some_count_same None h = tt

-- a set without another one whose members have a property
pub rest_members : {E : Type 0} (whole free : IpSet) (Free : Address → Type 0)
    → ((x : Address) → IsMember free x ↔ Free x)
    → (r : Result IpSet E) → IfOk r (λ s. (x : Address) → IsMember s x ↔ (IsMember whole x × ¬ (IsMember free x)))
    → IfOk r (λ s. (x : Address) → IsMember s x ↔ (IsMember whole x × ¬ (Free x)))
rest_members whole free Free same (Ok s) h = λ x. (
  λ c. let (a, b) = (h x).0 c in (a, λ d. b ((same x).1 d)),
  λ (a, b). (h x).1 (a, λ d. b ((same x).0 d)),
)
rest_members whole free Free same (Err e) h = tt

pub on_err : {T E : Type 0} (r : Result T E) {P : Type 0} → P → OnErr r P
on_err (Ok t) p = tt
on_err (Err e) p = p

-- the next network of a list that is read by its places
pub item_here : (all : List IpNet) (i : ℕ) (x : IpNet) → i < length all → x ≡ get_or all i x
    → drop i all ≡ x ∷ drop (i + 1) all
item_here all i x less is = drop_more all i x less ∙ ap (λ z. z ∷ drop (i + 1) all) (sym is)

-- the networks of the keys, one key after the other
pub keys_start : (items : List IpNet) (left given keys : List BlockKey) → items ≡ [] → left ≡ given → given ≡ keys
    → map ip_network items ++ networks_of_keys left ≡ networks_of_keys keys
keys_start items left given keys none is same =
    ap (λ z. map ip_network z ++ networks_of_keys left) none ∙ ap networks_of_keys (is ∙ same)

pub keys_more : (all : List Network) (old new : List IpNet) (left more : List BlockKey) (k : BlockKey) → left ≡ k ∷ more
    → new ≡ old ++ k.network ∷ [] → map ip_network old ++ networks_of_keys left ≡ all
    → map ip_network new ++ networks_of_keys more ≡ all
keys_more all old new left more k here same so_far =
    ap (λ z. map ip_network z ++ networks_of_keys more) same
    ∙ ap (λ z. z ++ networks_of_keys more) (map-append ip_network old (k.network ∷ []))
    ∙ append_snoc (map ip_network old) (ip_network k.network) (networks_of_keys more)
    ∙ ap (λ z. map ip_network old ++ networks_of_keys z) (sym here)
    ∙ so_far

pub keys_end : (all : List Network) (old : List IpNet) (left : List BlockKey) → left ≡ []
    → map ip_network old ++ networks_of_keys left ≡ all → map ip_network old ≡ all
keys_end all old left none so_far =
    sym (append-nil (map ip_network old)) ∙ ap (λ z. map ip_network old ++ networks_of_keys z) (sym none) ∙ so_far

-- the maximal blocks of a set
module _ (set : IpSet) (list ns : List Network) (blocks : AreMaximalBlocks (IsMember set) 0 list)
    (same : (m : Network) → Contains ns m ↔ Contains list m) where
  set_members : (m : Network) → Contains ns m ↔ IsMaximal (IsMember set) 0 m
  set_members m = (λ c. (blocks.members m).0 ((same m).0 c), λ h. (same m).1 ((blocks.members m).1 h))

  pub set_own : AreOwnBlocks ns
  set_own = own_from_members (IsMember set) (member_or_not set) (λ x h. h.fits) ns set_members

  pub set_cover : (x : Address) → IsCoveredBy ns x ↔ IsMember set x
  set_cover = covers_from_members (IsMember set) (member_or_not set) (λ x h. h.fits) ns set_members
