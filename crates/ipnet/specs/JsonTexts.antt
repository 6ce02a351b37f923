-- Networks as JSON values: strings with the text of a network (RFC 8259). `Data` and `string` are from the crate
-- `serde_json`.
use Rattle.std.specs.Prelude.{◌≡◌, ℕ, List}
use Rattle.serde_json.specs.Data.{Data, string}
use Rattle.ipnet_base.specs.Network.{Network}
use Rattle.ipnet.specs.CanonicalTexts.{canonical_text}
use Rattle.ipnet.specs.NetworkTexts.{WritesNone}

-- The JSON string of the canonical text. Example: `"10.1.1.0/24"` for 10.1.1.0/24.
abbrev pub network_json : Network → Data
network_json n = string (canonical_text n)

-- The value is the JSON string with this text.
-- Example: `"x"` is the JSON string with the text `x`.
abbrev pub IsJsonString : Data → List ℕ → Type 0
IsJsonString value text = value ≡ string text

-- The value is a JSON string whose text denotes this network. Example: `"10.1.1.0/24"`.
abbrev pub IsNetworkJson : (List ℕ → Network → Type 0) → Data → Network → Type 0
IsNetworkJson Writes value network = (text : List ℕ) × IsJsonString value text × Writes text network

-- The value is not a JSON string. Example: `7`, `null`.
abbrev pub IsNotJsonString : Data → Type 0
IsNotJsonString value = (text : List ℕ) → ¬ (IsJsonString value text)

-- The value is a JSON string whose text denotes no network.
-- Example: `"x"`, `""`, and `"010.0.0.1/08"` in the strict grammar. For `Ipv4Net` also `"fd00::/32"`.
abbrev pub IsJsonStringOfNoNetwork : (List ℕ → Network → Type 0) → Data → Type 0
IsJsonStringOfNoNetwork Writes value = (text : List ℕ) × IsJsonString value text × WritesNone Writes text
