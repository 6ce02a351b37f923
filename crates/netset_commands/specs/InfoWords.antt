-- The words of `info`.
use Rattle.std.specs.Prelude.{◌≡◌, ◌⊎◌, Bool, true, false, List, ℕ}
use Rattle.ipnet_base.specs.Address.{Address, width}
use Rattle.ipnet_base.specs.Network.{Network}
use Rattle.ipnet.specs.NetworkParts.{network_at}
use Rattle.ipnet.specs.declared.parser.Grammar.{Grammar}
use Rattle.ipnet_info.specs.declared.facts.FactsForm.{FactsForm}
use Rattle.ipnet_info.specs.declared.facts.FactsForm.TheVariants.{Lines, Json}
use Rattle.ipnet_lists.specs.Entries.{IsAddressText, IsNetworkOrMasked}
use Rattle.ipnet_lists.specs.Names.{Names}
use Rattle.netset_commands.specs.Words.{AreReadAs}

-- How facts are written, by the flag `--json`.
abbrev pub facts_form : Bool → FactsForm
facts_form true = Json
facts_form false = Lines

-- The text is this network, or the address of this network of one address. Example: `10.0.0.9/24`; `::1` is ::1/128.
abbrev pub IsNetworkOrAddress : Grammar → List ℕ → Network → Type 0
IsNetworkOrAddress grammar text n = IsNetworkOrMasked grammar text n
    ⊎ ((x : Address) × IsAddressText grammar text x × (n ≡ network_at x (width x.family)))

-- Each word is a network or an address, and these are the networks, in order.
abbrev pub AreNetworkWords : Grammar → Names → List Network → Type 0
AreNetworkWords grammar = AreReadAs (IsNetworkOrAddress grammar)
