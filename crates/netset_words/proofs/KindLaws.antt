-- The kinds of places.
use Rattle.std.proofs.Common.{◌≡◌, ◌↔◌, ℕ, Bool, true, List, refl, sym, ap, subst, IsTrue, inl, inr}
use Rattle.std.proofs.Common.{Option, Some, None, MatchOption}
use Rattle.std.specs.Net.Addr.{ipv4_bits}
use Rattle.std.specs.declared.net.ipv4_addr.Ipv4Addr.{Ipv4Addr}
use Rattle.std.specs.declared.net.ip_addr.IpAddr.TheVariants as Ip
use Rattle.ipnet_lists.specs.declared.entry.Entry.{Entry}
use Rattle.ipnet_lists.specs.declared.entry.Entry.TheVariants as Entries
use Rattle.ipnet_lists.specs.EntryOf.{entry_range}
use Rattle.ipnet_base.specs.Address.{Address}
use Rattle.ipnet_base.specs.Network.{Network}
use Rattle.ipnet.specs.declared.parser.Grammar.{Grammar}
use Rattle.ipnet_lists.specs.Entries.{IsAddressText, IsEntryText, IsNetworkOrMasked, JoinsAddresses}
use Rattle.ipnet_lists.proofs.EntryTexts.{one_address}
use Rattle.netset_words.specs.Items.{IsMask, IsMaskText}
use Rattle.netset_words.specs.Places.{IsMappedText, IsRangeOf, IsShownAs}
use Rattle.netset_words.specs.WordSteps.{shown_text}
use Rattle.netset_words.proofs.MappedLaws.{network_is_no_address, range_is_no_address}

-- an address is a mask if and only if its text is the text of one
pub address_mask : (grammar : Grammar) (text : List ℕ) (x : Address) (r : Bool) → IsAddressText grammar text x
    → (IsTrue r ↔ IsMask x) → IsTrue r ↔ IsMaskText grammar text
address_mask grammar text x r writes h = (
  λ t. (x, writes, h.0 t),
  λ m. h.1 (subst IsMask (one_address grammar text m.0 x m.1 writes) m.2),
)

pub network_is_no_mask : (grammar : Grammar) (text : List ℕ) (n : Network) → IsNetworkOrMasked grammar text n
    → ¬ (IsMaskText grammar text)
network_is_no_mask grammar text n is m = network_is_no_address grammar text n m.0 is m.1

pub range_is_no_mask : (grammar : Grammar) (text : List ℕ) (first last : Address)
    → JoinsAddresses grammar text first last → ¬ (IsMaskText grammar text)
range_is_no_mask grammar text first last is m = range_is_no_address grammar text first last m.0 is m.1

-- the text that is printed for a place
pub shown_entry : (mapped : Bool) (grammar : Grammar) (text : List ℕ) (r : Option Ipv4Addr)
    → MatchOption r (mapped ≡ true → (ipv4 : ℕ) → ¬ (IsMappedText grammar text ipv4))
    (λ a. (mapped ≡ true) × IsMappedText grammar text (ipv4_bits a))
    → IsShownAs mapped grammar text (shown_text r text)
shown_entry mapped grammar text None h = inr (h, refl)
shown_entry mapped grammar text (Some a) h = inl (h.0, ipv4_bits a, h.1, refl)

-- the range of a place
pub range_entry : (mapped : Bool) (grammar : Grammar) (text : List ℕ) (r : Option Ipv4Addr) (entry result : Entry)
    → MatchOption r (mapped ≡ true → (ipv4 : ℕ) → ¬ (IsMappedText grammar text ipv4))
    (λ a. (mapped ≡ true) × IsMappedText grammar text (ipv4_bits a))
    → MatchOption r (result ≡ entry) (λ a. result ≡ Entries.Address (Ip.V4 a))
    → IsEntryText grammar text (entry_range entry) → IsRangeOf mapped grammar text (entry_range result)
range_entry mapped grammar text None entry result h is writes =
    inr (h, subst (λ z. IsEntryText grammar text (entry_range z)) (sym is) writes)
range_entry mapped grammar text (Some a) entry result h is writes =
    inl (h.0, ipv4_bits a, h.1, ap entry_range is)
