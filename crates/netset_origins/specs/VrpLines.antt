-- Lists of validated ROA payloads (VRPs), as validators write them: on each line an AS number, a network and the
-- greatest prefix length, with a comma between. A trust anchor and a time may follow; they decide nothing.
use Rattle.std.specs.Prelude.{◌≡◌, ◌⊎◌, ◌<◌, ℕ, List, [], ◌∷◌, ◌++◌, codes, Some}
use Rattle.ipnet_base.specs.Address.{width}
use Rattle.ipnet_base.specs.Network.{Network, truncation}
use Rattle.ipnet.specs.NetworkOf.{ip_network}
use Rattle.ipnet.specs.declared.parser.Grammar.{Grammar}
use Rattle.ipnet_lists.specs.Causes.{Has}
use Rattle.ipnet_lists.specs.declared.cause.Cause.TheVariants.{CarriageReturn}
use Rattle.ipnet_lists.specs.ContentLines.{IsItemList, OrBroken}
use Rattle.netset_lib.specs.declared.network_entry.ArgumentCause.TheVariants.{NoEntry}
use Rattle.ipnet_lists.specs.Entries.{IsNetworkOrMasked}
use Rattle.ipnet_lists.specs.Lists.{RefusalFor}
use Rattle.ipnet_origins.specs.declared.payload.Payload.{Payload}
use Rattle.ipnet_origins.specs.declared.payload.PayloadError.{PayloadError}
use Rattle.ipnet_origins.specs.declared.payload.PayloadError.TheVariants.{MaxLenBelowPrefixLen, MaxLenAboveWidth}
use Rattle.netset_lib.specs.NetworkEntries.{IsArgumentCause}
use Rattle.netset_origins.specs.Fields.{first_field, after_field, IsNumber, IsAsn}
use Rattle.netset_origins.specs.declared.vrp_line.VrpCause.{VrpCause}
use Rattle.netset_origins.specs.declared.vrp_line.VrpCause.TheVariants as Causes

-- The field of the network: the second one. Example: `192.0.2.0/24` of `AS64496,192.0.2.0/24,24`.
abbrev pub network_field : List ℕ → List ℕ
network_field text = first_field (after_field text)

-- The field of the greatest prefix length: the third one. Example: `24` of `AS64496,192.0.2.0/24,24`.
abbrev pub length_field : List ℕ → List ℕ
length_field text = first_field (after_field (after_field text))

-- The text from the fourth field on. Example: `x,0` of `AS64496,192.0.2.0/24,24,x,0`.
abbrev pub free_fields : List ℕ → List ℕ
free_fields text = after_field (after_field (after_field text))

-- The text from the fifth field on. Example: `0` of `AS64496,192.0.2.0/24,24,x,0`.
abbrev pub last_fields : List ℕ → List ℕ
last_fields text = after_field (free_fields text)

-- The text has at most five fields, and no `;` (59) from the fourth field on. Byte 44 is the comma. So no field hides
-- what a reader takes for a comment. Example: `AS64496,192.0.2.0/24,24,x` is; with `x;y` for `x`, it is not.
abbrev pub IsDivided : List ℕ → Type 0
IsDivided text = (¬ (Has 44 (last_fields text))) × (¬ (Has 59 (free_fields text)))

-- The line is the header that validators write before the VRPs.
-- Example: `ASN,IP Prefix,Max Length,Trust Anchor`.
abbrev pub IsHeader : List ℕ → Type 0
IsHeader text = (text ≡ codes "ASN,IP Prefix,Max Length,Trust Anchor")
    ⊎ (text ≡ codes "ASN,IP Prefix,Max Length,Trust Anchor,Expires")

-- The VRP has this AS number, and this network without host bits. Only private contracts use this.
pub record IsVrpOf (asn : ℕ) (n : Network) (vrp : Payload) : Type 0 where
  pub of_asn : vrp.asn ≡ asn
  pub of_network : ip_network vrp.network ≡ truncation n

-- The text is this VRP: its fields are the AS number, a network, which may have host bits, and the greatest length.
-- Example: `AS64496,192.0.2.0/24,25,x` is 192.0.2.0/24 with greatest length 25 and AS 64496.
pub record IsVrpText (grammar : Grammar) (text : List ℕ) (vrp : Payload) : Type 0 where
  pub network : Network
  pub without_host_bits : ip_network vrp.network ≡ truncation network
  pub writes_asn : IsAsn (first_field text) vrp.asn
  pub writes_network : IsNetworkOrMasked grammar (network_field text) network
  pub writes_max_len : IsNumber (length_field text) vrp.max_len
  pub fields : IsDivided text

-- The greatest prefix length is refused for this network: it is less than the prefix length, or more than the width.
-- Example: 23 and 33 for 192.0.2.0/24.
abbrev pub IsLengthError : Network → ℕ → PayloadError → Type 0
IsLengthError n max_len MaxLenBelowPrefixLen = max_len < n.prefix_len
IsLengthError n max_len MaxLenAboveWidth = width n.family < max_len

-- Why there is no greatest prefix length of this network: there is no number, or the number is refused. `IsLength` says
-- what the number is. Example: `RefusedMaxLen` for the number 33 and 192.0.2.0/24.
abbrev pub IsLengthCause : Network → (ℕ → Type 0) → VrpCause → Type 0
IsLengthCause n IsLength Causes.TooManyFields = ⊥
IsLengthCause n IsLength Causes.Semicolon = ⊥
IsLengthCause n IsLength Causes.NoAsn = ⊥
IsLengthCause n IsLength (Causes.NoNetwork cause) = ⊥
IsLengthCause n IsLength Causes.NoMaxLen = (number : ℕ) → ¬ (IsLength number)
IsLengthCause n IsLength (Causes.RefusedMaxLen error) =
    (number : ℕ) × IsLength number × IsLengthError n number error

-- The text has at most five fields, no `;` from the fourth field on, and an AS number as its first field.
-- Example: `AS64496,x`.
abbrev pub HasAsn : List ℕ → Type 0
HasAsn text = IsDivided text × ((asn : ℕ) × IsAsn (first_field text) asn)

-- The first two fields are an AS number and a network, and the third is refused for this cause.
-- Example: `NoMaxLen` for `AS64496,192.0.2.0/24,x`.
abbrev pub HasLengthCause : Grammar → List ℕ → VrpCause → Type 0
HasLengthCause grammar text cause = HasAsn text
    × ((n : Network) × IsNetworkOrMasked grammar (network_field text) n
    × IsLengthCause n (IsNumber (length_field text)) cause)

-- Why a text is not a VRP: it has more than five fields; it has a `;` from the fourth field on; its first field is not
-- an AS number; its second field is not a network; its third field is not a number, or a length that is refused for the
-- network. If several of these are true, the cause is the first of them.
-- Example: `AS64496,192.0.2.0/24,24,x;y`; `ASx,192.0.2.0/24,24`; `AS64496,192.0.2.0,24`; `AS64496,192.0.2.0/24,x`;
-- `AS64496,192.0.2.0/24,33`.
abbrev pub IsVrpCause : Grammar → List ℕ → VrpCause → Type 0
IsVrpCause grammar text Causes.TooManyFields = Has 44 (last_fields text)
IsVrpCause grammar text Causes.Semicolon = (¬ (Has 44 (last_fields text))) × Has 59 (free_fields text)
IsVrpCause grammar text Causes.NoAsn = IsDivided text × ((asn : ℕ) → ¬ (IsAsn (first_field text) asn))
IsVrpCause grammar text (Causes.NoNetwork cause) =
    HasAsn text × IsArgumentCause grammar (network_field text) cause
IsVrpCause grammar text Causes.NoMaxLen = HasLengthCause grammar text Causes.NoMaxLen
IsVrpCause grammar text (Causes.RefusedMaxLen error) = HasLengthCause grammar text (Causes.RefusedMaxLen error)

-- The line is not the header, and it is not a VRP for this cause.
-- Example: `ASN,IP Prefix,Max Length,Trust Anchor` has no cause, though its first field is not an AS number.
abbrev pub IsNoVrpLine : Grammar → List ℕ → VrpCause → Type 0
IsNoVrpLine grammar text cause = (¬ (IsHeader text)) × IsVrpCause grammar text cause

-- Why a line is refused: it has a carriage return in it, or it is neither a header nor a VRP.
-- Example: `AS64496,192.0.2.0/24,24,x # a\rb`; `AS64496,192.0.2.0/24,x`.
abbrev pub IsVrpLineCause : Grammar → List ℕ → VrpCause → Type 0
IsVrpLineCause grammar = OrBroken (Causes.NoNetwork (NoEntry (Some CarriageReturn))) (IsNoVrpLine grammar)

-- The line adds these VRPs: a header adds none, and another line adds the VRP that it is.
-- Example: `AS64496,192.0.2.0/24,24` adds 192.0.2.0/24 with greatest length 24 and AS 64496.
abbrev pub IsVrpLine : Grammar → List ℕ → List Payload → Type 0
IsVrpLine grammar text added =
    (IsHeader text × (added ≡ [])) ⊎ ((vrp : Payload) × IsVrpText grammar text vrp × (added ≡ vrp ∷ []))

-- The VRPs that the lines add, one line after another. Example: the VRPs a, b, c of three lines that add none, a, and b
-- and c.
abbrev pub all_added : List (List Payload) → List Payload
all_added [] = []
all_added (added ∷ lines) = added ++ all_added lines

-- The bytes are a list with these VRPs: each line is a VRP or a header, or is refused. Blanks, comments and a byte
-- order mark are as in lists of entries.
-- Example: of `ASN,IP Prefix,Max Length,Trust Anchor\nAS64496,192.0.2.0/24,24,x\nx\n`, line 2 is a VRP, and line 3 is
-- refused.
abbrev pub IsVrpList : Grammar → List ℕ → List Payload → List (RefusalFor VrpCause) → Type 0
IsVrpList grammar bytes vrps refused = (lines : List (List Payload))
    × IsItemList (λ line. IsVrpLine grammar line.text) (IsVrpLineCause grammar) bytes lines refused
    × (vrps ≡ all_added lines)
