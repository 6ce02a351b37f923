-- The private steps of changing a set by a list of changes.
-- Only private contracts use these, except `IsChangeFailure`.
use Rattle.std.specs.Prelude.{◌≡◌, ◌↔◌, ℕ, List, [], ◌∷◌, ◌++◌, map, Contains}
use Rattle.ipnet_base.specs.Address.{Address}
use Rattle.ipnet_base.specs.Network.{Network}
use Rattle.ipnet.specs.NetworkOf.{ip_network}
use Rattle.ipnet.specs.declared.parser.Grammar.{Grammar}
use Rattle.netset_lib.specs.declared.apply.ChangeList.{ChangeList}
use Rattle.netset_lib.specs.declared.apply.Parts.{Parts}
use Rattle.netset_lib.specs.declared.change_line.ChangeCause.{ChangeCause}
use Rattle.netset_lib.specs.declared.change_line.ChangeCause.TheVariants as Causes
use Rattle.netset_lib.specs.declared.change_line.Sign.{Sign}
use Rattle.netset_lib.specs.declared.change_line.Sign.TheVariants.{Plus, Minus}
use Rattle.ipnet_lists.specs.declared.content_line.ListFailure.{ListFailure}
use Rattle.ipnet_lists.specs.declared.content_line.ListFailure.TheVariants as Failures
use Rattle.netset_lib.specs.Changes.{ListChange, Added, Removed}
use Rattle.netset_lib.specs.ChangeLists.{IsChangeList, HasRefusedChanges}
use Rattle.ipnet_lists.specs.Lists.{RefusalFor}
use Rattle.ipnet_lists.specs.RefusedLines.{AreRefused}

-- The change of this sign.
abbrev pub signed : Sign → Network → ListChange
signed Plus n = Added n
signed Minus n = Removed n

-- The networks cannot be changed so, for this cause.
abbrev pub IsMisfit : (Network → Type 0) → Sign → Network → ChangeCause → Type 0
IsMisfit Has Plus n Causes.Present = Has n
IsMisfit Has Minus n Causes.Absent = ¬ (Has n)
IsMisfit _ _ _ _ = ⊥

-- The networks that changes add, and those that they remove.
pub record NetworkParts : Type 0 where
  pub added : List Network
  pub removed : List Network

-- The parts that a value represents.
abbrev pub parts_of : Parts → NetworkParts
parts_of p = record { added = map ip_network p.added.items; removed = map ip_network p.removed.items }

-- The network of the change is added to its part.
abbrev pub AddsPart : ListChange → NetworkParts → NetworkParts → Type 0
AddsPart (Added n) old new = (new.added ≡ old.added ++ n ∷ []) × (new.removed ≡ old.removed)
AddsPart (Removed n) old new = (new.added ≡ old.added) × (new.removed ≡ old.removed ++ n ∷ [])

-- The parts have the networks of the changes.
pub record AreParts (changes : List ListChange) (parts : NetworkParts) : Type 0 where
  pub added : (n : Network) → Contains parts.added n ↔ Contains changes (Added n)
  pub removed : (n : Network) → Contains parts.removed n ↔ Contains changes (Removed n)

-- The changes and the refused lines of the bytes.
abbrev pub AreChangesRead : Grammar → (Network → Type 0) → List ℕ → ChangeList → Type 0
AreChangesRead grammar Has bytes list = (changes : List ListChange) × (refusals : List (RefusalFor ChangeCause))
    × IsChangeList grammar Has bytes changes refusals × AreRefused list.refused refusals
    × AreParts changes (parts_of list.parts)

-- Why a set cannot be changed: refused lines, or out of memory. When memory runs out is not specified.
abbrev pub IsChangeFailure : Grammar → (Address → Type 0) → List ℕ → ListFailure ChangeCause → Type 0
IsChangeFailure grammar InSet bytes (Failures.Refused lines) =
    (refusals : List (RefusalFor ChangeCause)) × HasRefusedChanges grammar InSet bytes refusals
    × AreRefused lines refusals
IsChangeFailure grammar InSet bytes Failures.Memory = Unit {0}
