-- The states of the private steps of `aggregate`: a list of truncated networks, and, once it is sorted, a stack at its
-- front in which no two networks can be joined. The route tables of `ipnet_sets` use the same order.
-- Only private contracts use these.
use Rattle.std.specs.Prelude.{◌≡◌, ℕ, ◌<◌, ◌≤◌, ◌↔◌, ◌⊎◌, List, length, get_or, take, All}
use Rattle.std.specs.List.{AllAdjacentBelow}
use Rattle.ipnet_base.specs.Address.{Address, family_index}
use Rattle.ipnet_base.specs.Network.{Network, InBlock, IsTruncated, AreHalves, IsBefore}
use Rattle.ipnet_base.specs.Blocks.{IsCoveredBy}

-- The first network comes before the second, or they are equal.
abbrev pub IsBeforeOrEqual : Network → Network → Type 0
IsBeforeOrEqual n k = (n ≡ k) ⊎ IsBefore n k

-- The networks are sorted; equal ones are neighbours. Example: 10.0.0.0/8, 10.0.0.0/8, 10.0.0.0/24.
abbrev pub IsInOrder : List Network → Type 0
IsInOrder networks = (i j : ℕ) (d : Network) → i ≤ j → j < length networks
    → IsBeforeOrEqual (get_or networks i d) (get_or networks j d)

-- Every address of `n` comes before every address of `k`: its family is earlier, or `k` starts after the last address
-- of `n`.
abbrev pub LiesBefore : Network → Network → Type 0
LiesBefore n k = (family_index n.family < family_index k.family)
    ⊎ ((n.family ≡ k.family) × ((x : Address) → InBlock n x → x.number < k.number))

-- The networks are truncated, ascending and disjoint, and no two neighbours are halves of one supernet. These are the
-- conditions of `AreAggregatedNeighbours`, with family and position in one condition, `LiesBefore`.
pub record AreJoined (networks : List Network) : Type 0 where
  pub truncated : All IsTruncated networks
  pub apart : AllAdjacentBelow LiesBefore networks (length networks)
  pub unjoined : AllAdjacentBelow (λ n k. ¬ (AreHalves n k)) networks (length networks)

-- The networks of `new` are truncated, and cover what `old` and the network `added` cover.
pub record IsListWith (old : List Network) (added : Network) (new : List Network) : Type 0 where
  pub truncated : All IsTruncated new
  pub cover : (x : Address) → IsCoveredBy new x ↔ (IsCoveredBy old x ⊎ InBlock added x)

-- The stack `new` covers what the stack `old` and the network `added` cover. It is joined, and none of its networks
-- comes after `added`.
pub record IsStackWith (old : List Network) (added : Network) (new : List Network) : Type 0 where
  pub joined : AreJoined new
  pub order : All (λ m. IsBeforeOrEqual m added) new
  pub cover : (x : Address) → IsCoveredBy new x ↔ (IsCoveredBy old x ⊎ InBlock added x)

-- The stack covers what the first `i` networks of the list cover. It is joined, and none of its networks comes after
-- the networks that are still to come.
pub record IsStackOfFirst (networks : List Network) (i : ℕ) (stack : List Network) : Type 0 where
  pub joined : AreJoined stack
  pub order : (j : ℕ) (d : Network) → i ≤ j → j < length networks
      → All (λ m. IsBeforeOrEqual m (get_or networks j d)) stack
  pub cover : (x : Address) → IsCoveredBy stack x ↔ IsCoveredBy (take i networks) x
