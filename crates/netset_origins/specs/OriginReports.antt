-- The words for lines that are not VRPs or routes, and the report of why there are no VRPs.
use Rattle.std.specs.Prelude.{◌≡◌, ◌++◌, ◌∷◌, [], ℕ, List, Option, codes, decimal}
use Rattle.std.specs.Borrow.{Bor}
use Rattle.std.specs.List.{concat}
use Rattle.ipnet.specs.declared.parser.Grammar.{Grammar}
use Rattle.ipnet_lists.specs.Lists.{RefusalFor}
use Rattle.ipnet_lists.specs.Names.{Names, name_at}
use Rattle.ipnet_lists.specs.Reports.{OfNew, IsReport, IsReportBegun, escaped}
use Rattle.ipnet_origins.specs.declared.payload.PayloadError.{PayloadError}
use Rattle.ipnet_origins.specs.declared.payload.PayloadError.TheVariants.{MaxLenBelowPrefixLen, MaxLenAboveWidth}
use Rattle.ipnet_text.specs.Outputs.{IsWritten, IsFrontWritten}
use Rattle.netset_lib.specs.Reasons.{entry_reason, Explains}
use Rattle.netset_lib.specs.Reports.{memory_line}
use Rattle.netset_lib.specs.declared.network_entry.ArgumentCause.{ArgumentCause}
use Rattle.netset_lib.specs.declared.network_entry.ArgumentCause.TheVariants.{Address, Range, NoEntry}
use Rattle.netset_origins.specs.VrpLists.{IsVrpsFailure}
use Rattle.netset_origins.specs.declared.route_line.RouteCause.{RouteCause}
use Rattle.netset_origins.specs.declared.route_line.RouteCause.TheVariants as Routes
use Rattle.netset_origins.specs.declared.vrp_json.JsonFault.{JsonFault}
use Rattle.netset_origins.specs.declared.vrp_json.JsonFault.TheVariants.{NotJson, NoRoas, NotVrp}
use Rattle.netset_origins.specs.declared.vrp_line.VrpCause.{VrpCause}
use Rattle.netset_origins.specs.declared.vrp_line.VrpCause.TheVariants as Vrps
use Rattle.netset_origins.specs.declared.vrp_list.VrpsFailure.{VrpsFailure}
use Rattle.netset_origins.specs.declared.vrp_list.VrpsFailure.TheVariants as Failures

-- Why a text is not a network with a prefix length.
abbrev pub network_reason : ArgumentCause → List ℕ
network_reason Address = codes "an address without a prefix length"
network_reason Range = codes "a range: write its networks"
network_reason (NoEntry cause) = entry_reason cause

-- Why the greatest prefix length of a VRP is refused.
abbrev pub length_reason : PayloadError → List ℕ
length_reason MaxLenBelowPrefixLen = codes "the greatest length is below the prefix length"
length_reason MaxLenAboveWidth = codes "the greatest length is above 32, or 128 for IPv6"

-- Why a line is not a VRP.
abbrev pub vrp_reason : VrpCause → List ℕ
vrp_reason Vrps.TooManyFields = codes "more than five fields"
vrp_reason Vrps.Semicolon = codes "; in the last fields: write # before a comment"
vrp_reason Vrps.NoAsn = codes "the AS number is missing or wrong"
vrp_reason (Vrps.NoNetwork cause) = network_reason cause
vrp_reason Vrps.NoMaxLen = codes "the greatest length is missing or wrong"
vrp_reason (Vrps.RefusedMaxLen error) = length_reason error

-- Why a line is not a route.
abbrev pub route_reason : RouteCause → List ℕ
route_reason (Routes.NoNetwork cause) = network_reason cause
route_reason Routes.NoOrigin = codes "no single AS number follows the network"

-- The words for a line of a list of VRPs.
abbrev pub ExplainsVrp : VrpCause → List ℕ → List ℕ → Option (List ℕ) → Type 0
ExplainsVrp = Explains (codes "not a VRP") vrp_reason

-- The words for a line of a list of routes.
abbrev pub ExplainsRoute : RouteCause → List ℕ → List ℕ → Option (List ℕ) → Type 0
ExplainsRoute = Explains (codes "not a route") route_reason

-- The line that reports that JSON of this name is not a list of VRPs. Byte 10 is the line feed at its end.
-- Example: `vrps.json: roas[16]: not a VRP (the greatest length is above 32, or 128 for IPv6)`.
abbrev pub fault_line : List ℕ → JsonFault → List ℕ
fault_line name NotJson = concat (escaped name ∷ (codes ": not JSON" ++ 10 ∷ []) ∷ [])
fault_line name NoRoas = concat (escaped name ∷ (codes ": no array \"roas\"" ++ 10 ∷ []) ∷ [])
fault_line name (NotVrp index cause) = concat (escaped name ∷ codes ": roas[" ∷ decimal index ∷ codes "]: not a VRP ("
    ∷ vrp_reason cause ∷ (codes ")" ++ 10 ∷ []) ∷ [])

-- The text reports why there are no VRPs. `names` are the names of the list. For refused lines, `Is` says so of the
-- kept ones and the number of the others.
abbrev pub IsVrpsText : Names → (List (RefusalFor VrpCause) → ℕ → List ℕ → Type 0) → VrpsFailure → List ℕ → Type 0
IsVrpsText names Is (Failures.Refused lines) text = OfNew Is lines 0 0 text
IsVrpsText names Is (Failures.Json fault) text = text ≡ fault_line (name_at names 0) fault
IsVrpsText names Is Failures.Memory text = text ≡ memory_line

-- The text is the report of why there are no VRPs. The first name is of their list.
-- Example: `vrps:1: not a VRP: AS64496,192.0.2.0,24 (an address without a prefix length)`.
abbrev pub IsVrpsReport : VrpsFailure → Names → List ℕ → Type 0
IsVrpsReport failure names text = IsVrpsText names (IsReport ExplainsVrp names) failure text

-- The text is the first lines of that report, perhaps all.
abbrev pub IsVrpsBegun : VrpsFailure → Names → List ℕ → Type 0
IsVrpsBegun failure names text = IsVrpsText names (IsReportBegun ExplainsVrp names) failure text

-- The bytes are not VRPs, and a front of the report about it was written; all of it, if `IsSure`. The list has this
-- name.
-- Example: for the bytes `{` and the name `a`, `a: not JSON`.
abbrev pub IsVrpsReported : Grammar → (bytes : List ℕ) → (name : Bor (List ℕ)) → Option (List ℕ) → Option (List ℕ)
    → (IsSure : Type 0) → Type 0
IsVrpsReported grammar bytes name held held_after IsSure = (failure : VrpsFailure)
    × IsVrpsFailure grammar bytes failure
    × IsFrontWritten (IsVrpsBegun failure (name ∷ [])) held held_after
    × (IsSure → IsWritten (IsVrpsReport failure (name ∷ [])) held held_after)
