-- Room for single networks: the largest networks of a set, one after the other, and lists of prefix lengths.
use Rattle.std.proofs.Common.{◌≡◌, ◌↔◌, ◌≤◌, ℕ, List, [], ◌∷◌, Contains, All, Any, refl, sym}
use Rattle.std.proofs.Common.{subst, arith, inl, inr}
use Rattle.ipnet_base.specs.Address.{Family, IPv4, IPv6, Address, width}
use Rattle.ipnet_base.specs.Network.{Network}
use Rattle.ipnet_base.specs.Blocks.{IsMaximal, AreMaximalBlocks}
use Rattle.ipnet_base.proofs.DecidedLaws.{IsDecided}
use Rattle.ipnet_base.proofs.ListLaws.{contains_nil, contains_here, contains_there, contains_cases}
use Rattle.ipnet_base.proofs.ListLaws.{all_at, all_from_members}
use Rattle.ipnet_pools.specs.Fits.{HasRoom, Without, IsLargeEnough}
use Rattle.ipnet_pools.specs.Placements.{CanPlace}
use Rattle.ipnet_pools.specs.Plans.{requests_of}
use Rattle.ipnet_pools.proofs.FitLaws.{with_len, large_enough_above, fit_at_start, IsFit-of_rest}

-- the networks that are left are maximal blocks of the set, and have all that are large enough
pub record AreLeftToTry (InSet : Address → Type 0) (family : Family) (prefix_len : ℕ) (left : List Network) : Type 0
  where
    pub maximal : (n : Network) → Contains left n → IsMaximal InSet 0 n
    pub others : (n : Network) → IsLargeEnough InSet family prefix_len n → Contains left n

pub same_width : (f g : Family) → width f ≡ width g → f ≡ g
same_width IPv4 IPv4 e = refl
same_width IPv4 IPv6 e = absurd (omega (arith, e))
same_width IPv6 IPv4 e = absurd (omega (arith, e))
same_width IPv6 IPv6 e = refl

module _ (S : Address → Type 0) (f : Family) (p : ℕ) where
  pub try_begins : (networks : List Network) → AreMaximalBlocks S 0 networks → AreLeftToTry S f p networks
  try_begins networks blocks = record {
    maximal = λ n c. (blocks.members n).0 c;
    others = λ n large. (blocks.members n).1 large.maximal;
  }

  module _ (left more : List Network) (k : Network) (here : left ≡ k ∷ more) (try : AreLeftToTry S f p left) where
    at_network : AreLeftToTry S f p (k ∷ more)
    at_network = subst (AreLeftToTry S f p) here try

    pub try_goes_on : ¬ ((k.family ≡ f) × (k.prefix_len ≤ p)) → AreLeftToTry S f p more
    try_goes_on small = record {
      maximal = λ n c. at_network.maximal n (contains_there k more n c);
      others = λ n large. elim (contains_cases k more n (at_network.others n large)) [
        | inl same ↦ absurd (small (subst (λ z. (z.family ≡ f) × (z.prefix_len ≤ p)) (sym same)
            (large.of_family, large.enough)))
        | inr rest ↦ rest
      ];
    }

    pub try_finds : p ≤ width f → k.family ≡ f → k.prefix_len ≤ p → HasRoom S f p
    try_finds fits family enough = (
      with_len k p,
      fit_at_start S f p k fits (record {
        maximal = at_network.maximal k (contains_here k more);
        of_family = family;
        enough = enough;
      }),
    )

  pub try_ends : IsDecided S → (left : List Network) → left ≡ [] → AreLeftToTry S f p left → ¬ (HasRoom S f p)
  try_ends dec left none try (n, fit) =
      let (b, large, sub) = large_enough_above S dec f p n fit in
      contains_nil b (subst (λ z. Contains z b) none (try.others b large))

-- a set with room for a prefix length has room for each longer one
longer_room : (S : Address → Type 0) → IsDecided S → (f : Family) (p q : ℕ) → p ≤ q → q ≤ width f → HasRoom S f p
    → HasRoom S f q
longer_room S dec f p q le fits (n, fit) =
    let (b, large, sub) = large_enough_above S dec f p n fit in (
      with_len b q,
      fit_at_start S f q b fits (record {
        maximal = large.maximal;
        of_family = large.of_family;
        enough = omega (arith, large.enough, le);
      }),
    )

-- room for the shortest length is room for each of them
pub room_for_shortest : (S : Address → Type 0) → IsDecided S → (f : Family) (p : ℕ) (lengths : List ℕ)
    → Any (λ q. q ≡ p) lengths → All (λ q. p ≤ q) lengths → All (λ q. q ≤ width f) lengths
    → HasRoom S f p ↔ All (HasRoom S f) lengths
room_for_shortest S dec f p lengths member least fits = (
  λ room. all_from_members (HasRoom S f) lengths
      (λ q c. longer_room S dec f p q (all_at (λ z. p ≤ z) lengths least q c)
      (all_at (λ z. z ≤ width f) lengths fits q c) room),
  λ each. subst (HasRoom S f) member.4
      (all_at (HasRoom S f) lengths each member.1 (member.0, member.2, member.3)),
)

-- what can be placed together has room for each by itself
pub room_for_placed : (S : Address → Type 0) (f : Family) (lengths : List ℕ) → CanPlace S (requests_of f lengths)
    → All (HasRoom S f) lengths
room_for_placed S f [] place = λ i d l. absurd (omega (arith, l))
room_for_placed S f (p ∷ lengths) (n, fit, rest) = all_from_members (HasRoom S f) (p ∷ lengths)
    (λ q c. elim (contains_cases p lengths q c) [
      | inl same ↦ subst (HasRoom S f) same (n, fit)
      | inr later ↦
          let room = room_for_placed (Without S n) f lengths rest in
          let (k, there) = all_at (HasRoom (Without S n) f) lengths room q later in
          (k, IsFit-of_rest S n k f q there)
    ])
