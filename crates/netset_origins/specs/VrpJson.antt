-- Lists of validated ROA payloads (VRPs) in JSON, as validators write them: an object whose member `roas` is an array.
-- Each item of it has an AS number, a network and the greatest prefix length. Other members decide nothing.
use Rattle.std.specs.Prelude.{◌≡◌, ◌≢◌, ◌≤◌, ℕ, List, [], ◌∷◌, codes, slice_index, slice_get, take, Option, Some, None}
use Rattle.std.specs.Prelude.{unwrap_or, option_and_then}
use Rattle.std.specs.Str.{IsUtf8}
use Rattle.serde_json.specs.Data.{Data, array}
use Rattle.serde_json.specs.Find.{get, as_str, as_number, as_u64}
use Rattle.serde_json.specs.Read.{read}
use Rattle.serde_json.specs.View.{items_of}
use Rattle.ipnet_base.specs.Network.{Network, truncation}
use Rattle.ipnet.specs.NetworkOf.{ip_network}
use Rattle.ipnet.specs.declared.parser.Grammar.{Grammar}
use Rattle.ipnet_lists.specs.Entries.{after_blanks, IsNetworkOrMasked}
use Rattle.ipnet_lists.specs.Lists.{after_mark}
use Rattle.ipnet_origins.specs.declared.payload.Payload.{Payload}
use Rattle.netset_lib.specs.NetworkEntries.{IsArgumentCause}
use Rattle.netset_origins.specs.Fields.{IsAsn}
use Rattle.netset_origins.specs.VrpLines.{IsLengthCause}
use Rattle.netset_origins.specs.declared.vrp_json.JsonFault.{JsonFault}
use Rattle.netset_origins.specs.declared.vrp_json.JsonFault.TheVariants.{NotJson, NoRoas, NotVrp}
use Rattle.netset_origins.specs.declared.vrp_line.VrpCause.{VrpCause}
use Rattle.netset_origins.specs.declared.vrp_line.VrpCause.TheVariants as Causes

-- The first byte of the list that is not a blank is "{" (123). A byte order mark at the start does not count.
-- Example: `{"roas": []}`, but not `AS64496,192.0.2.0/24,24`.
abbrev pub BeginsObject : List ℕ → Type 0
BeginsObject bytes = slice_index (after_blanks (after_mark bytes)) 0 ≡ 123

-- The string that the data has under this key, or the empty text. Example: `x` under `ta` in `{"ta": "x"}`.
abbrev pub text_at : List ℕ → Data → List ℕ
text_at key d = unwrap_or (option_and_then as_str (get key d)) []

-- The natural number that the data has under this key, if it has one. Example: 24 in `{"maxLength": 24}`.
abbrev pub number_at : List ℕ → Data → Option ℕ
number_at key d = option_and_then as_u64 (option_and_then as_number (get key d))

-- The AS number is this text, or if the text is empty, this number. Example: 64496 for `AS64496`, and for no text and
-- the number 64496.
abbrev pub IsAsnFrom : List ℕ → Option ℕ → ℕ → Type 0
IsAsnFrom [] number asn = (number ≡ Some asn) × (asn ≤ 4294967295)
IsAsnFrom (b ∷ text) number asn = IsAsn (b ∷ text) asn

-- The data has this AS number, as a string or as a number. Example: `{"asn": "AS64496"}` and `{"asn": 64496}`.
abbrev pub IsAsnAt : Data → ℕ → Type 0
IsAsnAt d asn = IsAsnFrom (text_at (codes "asn") d) (number_at (codes "asn") d) asn

-- The data has this greatest prefix length. Example: `{"maxLength": 24}` has 24, and `{"maxLength": "24"}` has none.
abbrev pub IsMaxLenAt : Data → ℕ → Type 0
IsMaxLenAt d n = (number_at (codes "maxLength") d ≡ Some n) × (n ≤ 4294967295)

-- The data is this VRP: it has the AS number, a network, which may have host bits, and the greatest length.
-- Example: `{"asn": "AS64496", "prefix": "192.0.2.0/24", "maxLength": 25, "ta": "x"}`.
pub record IsVrpData (grammar : Grammar) (d : Data) (vrp : Payload) : Type 0 where
  pub network : Network
  pub without_host_bits : ip_network vrp.network ≡ truncation network
  pub has_asn : IsAsnAt d vrp.asn
  pub has_network : IsNetworkOrMasked grammar (text_at (codes "prefix") d) network
  pub has_max_len : IsMaxLenAt d vrp.max_len

-- The data has an AS number and a network, and its greatest prefix length is refused for this cause.
-- Example: `NoMaxLen` for `{"asn": 64496, "prefix": "192.0.2.0/24"}`.
abbrev pub HasLengthFault : Grammar → Data → VrpCause → Type 0
HasLengthFault grammar d cause = ((asn : ℕ) × IsAsnAt d asn)
    × ((n : Network) × IsNetworkOrMasked grammar (text_at (codes "prefix") d) n
    × IsLengthCause n (IsMaxLenAt d) cause)

-- Why data is not a VRP: it has no AS number; its `prefix` is not a network; its `maxLength` is not a number, or a
-- length that is refused for the network.
abbrev pub IsDataCause : Grammar → Data → VrpCause → Type 0
IsDataCause grammar d Causes.TooManyFields = ⊥
IsDataCause grammar d Causes.Semicolon = ⊥
IsDataCause grammar d Causes.NoAsn = (asn : ℕ) → ¬ (IsAsnAt d asn)
IsDataCause grammar d (Causes.NoNetwork cause) =
    ((asn : ℕ) × IsAsnAt d asn) × IsArgumentCause grammar (text_at (codes "prefix") d) cause
IsDataCause grammar d Causes.NoMaxLen = HasLengthFault grammar d Causes.NoMaxLen
IsDataCause grammar d (Causes.RefusedMaxLen error) = HasLengthFault grammar d (Causes.RefusedMaxLen error)

-- The items are these VRPs, in order: each item is one VRP.
-- Example: two items `{"asn": 64496, "prefix": "192.0.2.0/24", "maxLength": 24}` are that VRP twice.
abbrev pub AreVrpItems : Grammar → List Data → List Payload → Type 0
AreVrpItems grammar [] vrps = vrps ≡ []
AreVrpItems grammar (d ∷ items) vrps = (vrp : Payload) × (more : List Payload) × IsVrpData grammar d vrp
    × (vrps ≡ vrp ∷ more) × AreVrpItems grammar items more

-- The bytes are JSON, and its member `roas` is an array of these items. Example: no items for `{"roas": []}`.
pub record HasRoas (bytes : List ℕ) (items : List Data) : Type 0 where
  pub value : Data
  pub utf8 : IsUtf8 (after_mark bytes)
  pub reads : read (after_mark bytes) ≡ Some value
  pub roas : get (codes "roas") value ≡ Some (array (items_of items))

-- The bytes are a list of these VRPs. A byte order mark at the start does not count.
-- Example: no VRPs for `{"metadata": {}, "roas": []}`.
abbrev pub IsVrpJson : Grammar → List ℕ → List Payload → Type 0
IsVrpJson grammar bytes vrps = (items : List Data) × HasRoas bytes items × AreVrpItems grammar items vrps

-- The first of the items that is not a VRP has this index, from 0, and this cause. The items before it are VRPs.
-- Example: the index 1 and `NoAsn`, if the first item is a VRP and the second is `{}`.
abbrev pub IsItemFault : Grammar → List Data → JsonFault → Type 0
IsItemFault grammar items NotJson = ⊥
IsItemFault grammar items NoRoas = ⊥
IsItemFault grammar items (NotVrp index cause) =
    ((d : Data) × (slice_get items index ≡ Some d) × IsDataCause grammar d cause)
    × ((vrps : List Payload) × AreVrpItems grammar (take index items) vrps)

-- Why the bytes are not a list of VRPs: they are not JSON; it has no array `roas`; or an item is not a VRP.
-- Example: `NotJson` for `{`, `NoRoas` for `{"roas": 1}`, and the item 0 for `{"roas": [{}]}`.
abbrev pub IsJsonFault : Grammar → List ℕ → JsonFault → Type 0
IsJsonFault grammar bytes NotJson = IsUtf8 (after_mark bytes) → read (after_mark bytes) ≡ None
IsJsonFault grammar bytes NoRoas = (d : Data) × (read (after_mark bytes) ≡ Some d)
    × ((items : List Data) → get (codes "roas") d ≢ Some (array (items_of items)))
IsJsonFault grammar bytes (NotVrp index cause) =
    (items : List Data) × HasRoas bytes items × IsItemFault grammar items (NotVrp index cause)
