-- Texts that have to be one network.
use Rattle.std.specs.Prelude.{◌≡◌, ◌≢◌, ℕ, List, []}
use Rattle.ipnet_base.specs.Address.{Address}
use Rattle.ipnet_base.specs.Network.{Network, IsNetwork, IsTruncated}
use Rattle.ipnet_base.specs.Ranges.{AddressRange}
use Rattle.ipnet.specs.declared.parser.Grammar.{Grammar}
use Rattle.netset_lib.specs.declared.network_entry.NetworkCause.{NetworkCause}
use Rattle.netset_lib.specs.declared.network_entry.NetworkCause.TheVariants.{Missing, Range, TwoWords, NoEntry}
use Rattle.netset_lib.specs.declared.network_entry.ArgumentCause.{ArgumentCause}
use Rattle.netset_lib.specs.declared.network_entry.ArgumentCause.TheVariants as Arguments
use Rattle.ipnet_lists.specs.Causes.{IsReportedCause}
use Rattle.ipnet_lists.specs.Entries.{IsAddressText, IsPlainEntry, IsRangeEntry, IsNoEntry, JoinsAddresses, block_range}
use Rattle.ipnet_lists.specs.Words.{leading_word}

-- The text is an entry that is a network or an address, and `n` is the network of its addresses, without host bits.
-- Example: `10.0.0.9/8` and `10.0.0.0/255.0.0.0` are 10.0.0.0/8, and `10.0.0.1` is 10.0.0.1/32.
pub record IsNetworkWord (grammar : Grammar) (text : List ℕ) (n : Network) : Type 0 where
  pub network : IsNetwork n
  pub truncated : IsTruncated n
  pub entry : IsPlainEntry grammar text (block_range n)

-- The text is not a network or an address. Example: `10.0.0.0-10.0.0.255`, `10.0.0.0/33`.
abbrev pub IsNoNetworkWord : Grammar → List ℕ → Type 0
IsNoNetworkWord grammar text = (n : Network) → ¬ (IsNetworkWord grammar text n)

-- The text is a range. Example: `10.0.0.0-10.0.0.255`, which is not a network, although 10.0.0.0/24 has its addresses.
abbrev pub IsSomeRange : Grammar → List ℕ → Type 0
IsSomeRange grammar text = (range : AddressRange) × IsRangeEntry grammar text range

-- Why a text is not a network or an address: it is empty; it is a range; it has more than one word; it is a word that
-- is not an entry, for a cause that may have a name.
abbrev pub IsNetworkCause : Grammar → List ℕ → NetworkCause → Type 0
IsNetworkCause grammar text Missing = text ≡ []
IsNetworkCause grammar text Range = IsSomeRange grammar text
IsNetworkCause grammar text TwoWords = IsNoEntry grammar text × (leading_word text ≢ text)
IsNetworkCause grammar text (NoEntry cause) = (text ≢ []) × (leading_word text ≡ text) × IsNoEntry grammar text
    × IsReportedCause grammar text cause

-- Why an argument is not a network with a prefix length or a netmask: it is an address; it is a range; or it is not an
-- entry, for the cause that a line of a list has.
-- Example: `10.0.0.1`; `10.0.0.0-10.0.0.255`; `10.0.0.0/33`.
abbrev pub IsArgumentCause : Grammar → List ℕ → ArgumentCause → Type 0
IsArgumentCause grammar text Arguments.Address = (x : Address) × IsAddressText grammar text x
IsArgumentCause grammar text Arguments.Range = (first last : Address) × JoinsAddresses grammar text first last
IsArgumentCause grammar text (Arguments.NoEntry cause) = IsNoEntry grammar text × IsReportedCause grammar text cause
