-- The routes that follow from a list of choices and a value. Only private contracts use these.
use Rattle.std.specs.Prelude.{◌≡◌, ℕ, ⊤, ◌+◌, ◌-◌, ◌*◌, ◌/◌, ◌%◌, ◌^◌, ◌<◌, Bool}
use Rattle.std.specs.Prelude.{List, [], ◌∷◌, ◌++◌, length, get_or, nat_eq}
use Rattle.std.specs.Prelude.{if◌then◌else◌}
use Rattle.std.specs.List.{list_any}
use Rattle.ipnet_base.specs.Network.{Network, IsTruncated, host_bits}
use Rattle.ipnet.specs.NetworkOf.{ip_network}
use Rattle.ipnet_routes.specs.Routes.{Route}
use Rattle.ipnet_fewest.specs.ItemsOf.{items_of}
use Rattle.ipnet_fewest.specs.declared.choice.Choice.{Choice}

-- The choices of a block, as a tree: the choices before the last one that are in none of its halves, the choices in its
-- first half, the choices in its second half, and the last choice.
pub data Plan : Type 0 where
  Nothing : Plan
  Then : Plan → Plan → Plan → Choice → Plan

-- The choices as a list.
abbrev pub choices_of : Plan → List Choice
choices_of Nothing = []
choices_of (Then earlier first second choice) =
    choices_of earlier ++ (choices_of first ++ (choices_of second ++ choice ∷ []))

-- The other half of the network one bit shorter. Example: 10.0.0.0/9 for 10.128.0.0/9.
abbrev pub sibling : Network → Network
sibling n = record n {
  number = (n.number / 2 ^ host_bits n + 1 - 2 * (n.number / 2 ^ host_bits n % 2)) * 2 ^ host_bits n;
}

-- The second half.
abbrev pub second_network : Choice → Network
second_network choice = sibling (ip_network choice.first)

-- The choice has a half without host bits and a best value of this half, and says how many choices are in its halves.
pub record HasSizes (choice : Choice) (first second : ℕ) : Type 0 where
  pub truncated : IsTruncated (ip_network choice.first)
  pub longer : 0 < (ip_network choice.first).prefix_len
  pub some : 0 < length (items_of choice.first_values)
  pub first_is : choice.first_size ≡ first
  pub second_is : choice.second_size ≡ second

-- Each choice of the plan does.
abbrev pub IsSized : Plan → Type 0
IsSized Nothing = ⊤
IsSized (Then earlier first second choice) = IsSized earlier × IsSized first × IsSized second
    × HasSizes choice (length (choices_of first)) (length (choices_of second))

-- The value is one of the best of the first half.
abbrev pub is_first : Choice → ℕ → Bool
is_first choice value = list_any (λ v. nat_eq v value) (items_of choice.first_values)

-- The value of the first half, if the block has this value.
abbrev pub first_value : Choice → ℕ → ℕ
first_value choice value = if is_first choice value then value else get_or (items_of choice.first_values) 0 0

-- The route of the first half, if it needs one.
abbrev pub first_route : Choice → ℕ → List (Route ℕ)
first_route choice value =
    if is_first choice value then [] else ((ip_network choice.first, get_or (items_of choice.first_values) 0 0) ∷ [])

-- The value of the second half.
abbrev pub second_value : Choice → ℕ → ℕ
second_value choice value = if is_first choice value then choice.second_value else value

-- The route of the second half, if it needs one.
abbrev pub second_route : Choice → ℕ → List (Route ℕ)
second_route choice value =
    if is_first choice value then ((second_network choice, choice.second_value) ∷ []) else []

-- The routes in the block of a plan, if the block has this value.
abbrev pub routes_for : Plan → ℕ → List (Route ℕ)
routes_for Nothing value = []
routes_for (Then earlier first second choice) value =
    ((routes_for second (second_value choice value) ++ second_route choice value)
    ++ (routes_for first (first_value choice value) ++ first_route choice value)) ++ routes_for earlier value

-- A plan has these choices.
abbrev pub HasPlan : List Choice → Type 0
HasPlan choices = (plan : Plan) × IsSized plan × (choices_of plan ≡ choices)
