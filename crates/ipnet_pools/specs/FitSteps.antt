-- The search for the best fit. Only private contracts cite these.
use Rattle.std.specs.Prelude.{◌≡◌, ◌⊎◌, ℕ, ◌<◌, ◌≤◌, List, Contains}
use Rattle.ipnet_base.specs.Network.{Network, IsBefore}

-- the block contains networks of the request's family and length
pub record HasRequested (request block : Network) : Type 0 where
  pub of_family : block.family ≡ request.family
  pub enough : block.prefix_len ≤ request.prefix_len

-- the smallest network of the list that contains such networks; the first one, if several are equally small
pub record IsFirstFor (blocks : List Network) (request best : Network) : Type 0 where
  pub member : Contains blocks best
  pub requested : HasRequested request best
  pub smallest : (k : Network) → Contains blocks k → HasRequested request k
      → (k.prefix_len < best.prefix_len) ⊎ ((k.prefix_len ≡ best.prefix_len) × ((k ≡ best) ⊎ IsBefore best k))

-- the network with this prefix length
abbrev pub shortened_to : ℕ → Network → Network
shortened_to prefix_len n = record n { prefix_len = prefix_len }
