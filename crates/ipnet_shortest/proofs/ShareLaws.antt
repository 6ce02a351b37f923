-- Shares of networks, and the costs of shares.
use Rattle.std.proofs.Common.{◌≡◌, ℕ, ◌+◌, ◌-◌, ◌<◌, ◌≤◌, List, ◌++◌, length, get_or, ap, ◌∙◌, subst}
use Rattle.ipnet_shortest.specs.PartCovers.{AreBestShares, costs_from}

-- The share `best` costs the least of the shares from `start` to before `share`.
pub record IsBestSoFar (p q : List ℕ) (more start share best least : ℕ) : Type 0 where
  pub before : best < share
  pub within : best ≤ more
  pub in_first : best < length p
  pub in_second : more - best < length q
  pub cost : least ≡ get_or p best 0 + get_or q (more - best) 0
  pub none_less : (i : ℕ) → start ≤ i → i < share → least ≤ get_or p i 0 + get_or q (more - i) 0

-- ---- the lists of slices

pub best_of_slices : (p q s t shares : List ℕ) → s ≡ p → t ≡ q → AreBestShares s t shares → AreBestShares p q shares
best_of_slices p q s t shares e g h =
    subst (λ z. AreBestShares z q shares) e (subst (λ z. AreBestShares s z shares) g h)

pub costs_of_slices : (p q shares s t given old : List ℕ) → s ≡ p → t ≡ q → given ≡ shares
    → old ++ costs_from s t 0 given ≡ old ++ costs_from p q 0 shares
costs_of_slices p q shares s t given old e g h =
    ap (λ z. old ++ costs_from z t 0 given) e ∙ ap (λ z. old ++ costs_from p z 0 given) g
    ∙ ap (λ z. old ++ costs_from p q 0 z) h
