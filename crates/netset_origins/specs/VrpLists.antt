-- The VRPs of a list, which is JSON or lines, and why there are none.
use Rattle.std.specs.Prelude.{◌≢◌, ◌⊎◌, ℕ, List, []}
use Rattle.ipnet.specs.declared.parser.Grammar.{Grammar}
use Rattle.ipnet_lists.specs.Lists.{RefusalFor}
use Rattle.ipnet_lists.specs.RefusedLines.{AreRefused}
use Rattle.ipnet_origins.specs.declared.payload.Payload.{Payload}
use Rattle.netset_origins.specs.VrpJson.{BeginsObject, IsVrpJson, IsJsonFault}
use Rattle.netset_origins.specs.VrpLines.{IsVrpList}
use Rattle.netset_origins.specs.declared.vrp_line.VrpCause.{VrpCause}
use Rattle.netset_origins.specs.declared.vrp_list.VrpsFailure.{VrpsFailure}
use Rattle.netset_origins.specs.declared.vrp_list.VrpsFailure.TheVariants as Failures

-- The bytes are these VRPs, as JSON or as lines of which none is refused.
-- Example: no VRPs for `{"roas": []}`, and for `ASN,IP Prefix,Max Length,Trust Anchor`.
abbrev pub AreVrpsOf : Grammar → List ℕ → List Payload → Type 0
AreVrpsOf grammar bytes vrps = (BeginsObject bytes × IsVrpJson grammar bytes vrps)
    ⊎ ((¬ (BeginsObject bytes)) × IsVrpList grammar bytes vrps [])

-- The VRPs are not JSON. Some of their lines are refused, and these are all of them.
pub record HasRefusedVrps (grammar : Grammar) (bytes : List ℕ) (refused : List (RefusalFor VrpCause)) : Type 0
  where
    pub vrps : List Payload
    pub lines : ¬ (BeginsObject bytes)
    pub read : IsVrpList grammar bytes vrps refused
    pub some : refused ≢ []

-- Why there are no VRPs: refused lines; JSON that is not a list of VRPs; or out of memory. When memory runs out is not
-- specified.
abbrev pub IsVrpsFailure : Grammar → List ℕ → VrpsFailure → Type 0
IsVrpsFailure grammar bytes (Failures.Refused lines) =
    (refusals : List (RefusalFor VrpCause)) × HasRefusedVrps grammar bytes refusals × AreRefused lines refusals
IsVrpsFailure grammar bytes (Failures.Json fault) = BeginsObject bytes × IsJsonFault grammar bytes fault
IsVrpsFailure grammar bytes Failures.Memory = Unit {0}
