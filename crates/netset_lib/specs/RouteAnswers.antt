-- For each entry of a list, the longest network of a table that contains all of it.
use Rattle.std.specs.Prelude.{◌≡◌, ◌≤◌, ◌⊎◌, ℕ, List, [], ◌∷◌, ◌++◌, codes, Any}
use Rattle.ipnet_base.specs.Address.{Address}
use Rattle.ipnet_base.specs.Network.{Network, InBlock}
use Rattle.ipnet_base.specs.Blocks.{IsMaximal}
use Rattle.ipnet.specs.CanonicalTexts.{canonical_text}
use Rattle.ipnet_sets.specs.SetRanges.{IsInRange}
use Rattle.netset_lib.specs.EntryAnswers.{AreAnswers}
use Rattle.ipnet_lists.specs.Lists.{ListEntry}

-- The network is a maximal block of an entry of the table.
-- Example: a table of `10.0.0.0/8` and `10.0.0.0-10.0.0.5` has 10.0.0.0/8, 10.0.0.0/30 and 10.0.0.4/31.
abbrev pub IsTableNetwork : List ListEntry → Network → Type 0
IsTableNetwork table n = Any (λ e. IsMaximal (IsInRange e.range) 0 n) table

-- The network's block contains the whole entry.
abbrev pub Holds : ListEntry → Network → Type 0
Holds e n = (x : Address) → IsInRange e.range x → InBlock n x

-- The longest network of the table that contains the entry, as `Holding` defines it.
pub record IsLongest (InTable Holding : Network → Type 0) (n : Network) : Type 0 where
  pub network : InTable n
  pub holds : Holding n
  pub longest : (k : Network) → InTable k → Holding k → k.prefix_len ≤ n.prefix_len

-- No network of the table contains the entry.
abbrev pub HaveNone : (Network → Type 0) → (Network → Type 0) → Type 0
HaveNone InTable Holding = (n : Network) → InTable n → ¬ (Holding n)

-- The line of an entry: its text, a space, and the longest network, or "-" if there is none; then "\n" (10).
-- Example: with the table above, `10.0.0.3 10.0.0.0/30`, `10.0.0.3-10.0.0.4 10.0.0.0/8` and `::1 -`.
abbrev pub IsRouteLine : (Network → Type 0) → (ListEntry → Network → Type 0) → ListEntry → List ℕ → Type 0
IsRouteLine InTable Holding e line =
    ((n : Network) × IsLongest InTable (Holding e) n × (line ≡ e.text ++ codes " " ++ canonical_text n ++ 10 ∷ []))
    ⊎ (HaveNone InTable (Holding e) × (line ≡ e.text ++ codes " -" ++ 10 ∷ []))

-- The lines of the entries, in order.
abbrev pub AreRouteLines : (Network → Type 0) → (ListEntry → Network → Type 0) → List ListEntry → List ℕ → Type 0
AreRouteLines InTable Holding = AreAnswers (IsRouteLine InTable Holding)
