-- A compiled prefix list: the ends of the rules' networks cut the numbers of a family into cells, and each cell has a
-- flag for each prefix length. Only private contracts use these.
use Rattle.std.specs.Prelude.{◌≡◌, ◌≢◌, ◌↔◌, ◌<◌, ◌≤◌, ℕ, Bool, true, false, List, map, length, slice_index}
use Rattle.std.specs.Prelude.{slice_index_or, Any, All, Contains}
use Rattle.std.specs.Global.{Vec}
use Rattle.std.specs.List.Sorted.{IsStrictlyIncreasing}
use Rattle.ipnet_base.specs.Address.{Family, Address, address_at, width}
use Rattle.ipnet_base.specs.Network.{Network, InBlock}
use Rattle.ipnet.specs.NetworkOf.{ip_network}
use Rattle.ipnet_rules.specs.declared.cells.Painting.{Painting}
use Rattle.ipnet_rules.specs.declared.cells.Span.{Span}
use Rattle.ipnet_rules.specs.declared.compiled.FamilyVerdicts.{FamilyVerdicts}
use Rattle.ipnet_rules.specs.declared.compiled.PlacedRule.{PlacedRule}
use Rattle.ipnet_rules.specs.declared.prefix_list.PrefixRule.{PrefixRule}
use Rattle.ipnet_rules.specs.declared.rules.Action.{Action}
use Rattle.ipnet_rules.specs.declared.rules.Action.TheVariants.{Permit, Deny}
use Rattle.ipnet_rules.specs.declared.rules.Rule.{Rule}
use Rattle.ipnet_rules.specs.Cells.{IsInCell, IsInSpan, AreSkips, owner_of}
use Rattle.ipnet_rules.specs.Rules.{Matches}
use Rattle.ipnet_rules.specs.RoutesOfLength.{CanMatch}
use Rattle.ipnet_rules.specs.Verdicts.{HasVerdict}

-- The rule matches the network of this length at the address.
pub record MatchesOfLength (len : ℕ) (rule : PrefixRule) (x : Address) : Type 0 where
  pub can : CanMatch rule len
  pub inside : InBlock (ip_network rule.network) x

-- The rules permit the network of this length at the address.
abbrev pub IsPermittedOfLength : List PrefixRule → ℕ → Address → Type 0
IsPermittedOfLength rules len x = HasVerdict (MatchesOfLength len) (λ r. r.action) Deny rules x Permit

-- the paint of the cells that a rule of this action decides on; 0 is the paint of the others
abbrev pub paint_for : Action → ℕ
paint_for Permit = 1
paint_for Deny = 2

-- the span has the cells that the network contains
pub record IsNetworkSpan (f : Family) (cuts : List ℕ) (k : Network) (s : Span) : Type 0 where
  pub within : s.end ≤ length cuts
  pub cells : (cell : ℕ) → cell < length cuts → IsInSpan s cell ↔ InBlock k (address_at f (slice_index cuts cell))

-- each rule has the cells that its network contains
pub record ArePlaced (f : Family) (cuts : List ℕ) (rules : List PrefixRule) (placed : List PlacedRule) : Type 0 where
  pub are_rules : map (λ p. p.rule) placed ≡ rules
  pub spans : All (λ p. IsNetworkSpan f cuts (ip_network p.rule.network) p.span) placed

-- the rule matches the networks of this length in the cell
pub record MatchesCell (len : ℕ) (p : PlacedRule) (cell : ℕ) : Type 0 where
  pub can : CanMatch p.rule len
  pub inside : IsInSpan p.span cell

-- the rules permit the networks of this length in the cell
abbrev pub IsCellPermitted : List PlacedRule → ℕ → ℕ → Type 0
IsCellPermitted placed len cell = HasVerdict (MatchesCell len) (λ p. p.rule.action) Deny placed cell Permit

-- a cell is painted if a rule matches its networks of this length, and with 1 if they are permitted
pub record ArePaintedBy (len : ℕ) (placed : List PlacedRule) (count : ℕ) (p : Painting) : Type 0 where
  pub skips : AreSkips p
  pub cells : length p.owners.items ≡ count
  pub of_free : p.free ≡ 0
  pub matched : (cell : ℕ) → cell < count → (owner_of p cell ≢ 0) ↔ Any (λ r. MatchesCell len r cell) placed
  pub permitted : (cell : ℕ) → cell < count → (owner_of p cell ≡ 1) ↔ IsCellPermitted placed len cell

-- a flag is true if the networks of this length in the cell are permitted
pub record ArePermittedCells (len : ℕ) (placed : List PlacedRule) (count : ℕ) (flags : List Bool) : Type 0 where
  pub cells : length flags ≡ count
  pub each : (cell : ℕ) → cell < count → (slice_index_or flags cell false ≡ true) ↔ IsCellPermitted placed len cell

-- each prefix rule has a rule for the addresses of its network
abbrev pub AreRulesForAddresses : List PrefixRule → List Rule → Type 0
AreRulesForAddresses rules list = (rule : PrefixRule) → Contains rules rule → (r : Rule) × Contains list r
    × ((x : Address) → Matches r x ↔ InBlock (ip_network rule.network) x)

-- the network contains all numbers of a cell or none, and each of its numbers lies in a cell
pub record AreCutsOfNetwork (f : Family) (cuts : List ℕ) (k : Network) : Type 0 where
  pub one_cell : (cell n : ℕ) → IsInCell cuts cell n
      → InBlock k (address_at f n) ↔ InBlock k (address_at f (slice_index cuts cell))
  pub some_cell : (n : ℕ) → InBlock k (address_at f n) → (cell : ℕ) × IsInCell cuts cell n

-- a flag is true if the rules permit the networks of this length in the cell
pub record AreFlagsOfLength (f : Family) (rules : List PrefixRule) (cuts : List ℕ) (len : ℕ) (flags : List Bool)
    : Type 0 where
  pub cells : length flags ≡ length cuts
  pub each : (cell : ℕ) → cell < length cuts → (slice_index_or flags cell false ≡ true)
      ↔ IsPermittedOfLength rules len (address_at f (slice_index cuts cell))

-- the lists of flags are for the prefix lengths 0, 1, 2, in this order
abbrev pub AreFlagsByLength : Family → List PrefixRule → List ℕ → List (Vec Bool) → Type 0
AreFlagsByLength f rules cuts lists = (len : ℕ) (flags : Vec Bool) → len < length lists
    → slice_index_or lists len flags ≡ flags → AreFlagsOfLength f rules cuts len flags.items

-- the cells of a family, and the verdicts on the networks of each length in each cell
pub record AreFamilyVerdicts (f : Family) (rules : List PrefixRule) (v : FamilyVerdicts) : Type 0 where
  pub ascending : IsStrictlyIncreasing v.cuts.items
  pub cut : All (λ r. AreCutsOfNetwork f v.cuts.items (ip_network r.network)) rules
  pub lengths : width f < length v.permitted.items
  pub flags : AreFlagsByLength f rules v.cuts.items v.permitted.items
