-- The strict texts of IPv4 networks, addresses and ranges, as entries in both grammars.
use Rattle.std.proofs.Common.{ℕ, ◌≤◌, List, [], ◌∷◌, ◌++◌, refl, sym, inl, inr, append_assoc}
use Rattle.std.specs.Net.Addr.{ipv4_octets, ipv4_bits}
use Rattle.std.specs.declared.net.ipv4_addr.Ipv4Addr.{Ipv4Addr}
use Rattle.std.specs.declared.net.ip_addr.IpAddr.TheVariants as Ip
use Rattle.ipnet_base.specs.Address.{ipv4_address}
use Rattle.ipnet.specs.AddressTexts.{IsIpv4AddressText}
use Rattle.ipnet.specs.NetworkOf.{ipv4_network}
use Rattle.ipnet.specs.NetworkTexts.{IsIpv4NetworkText}
use Rattle.ipnet.specs.declared.net.IpNet.TheVariants as Nets
use Rattle.ipnet.specs.declared.net.ipv4_net.Ipv4Net.{Ipv4Net}
use Rattle.ipnet.specs.declared.parser.Grammar.{Grammar}
use Rattle.ipnet.specs.declared.parser.Grammar.TheVariants.{Strict}
use Rattle.ipnet.proofs.StrictTexts.{address_in, network_in}
use Rattle.ipnet_lists.specs.declared.entry.Entry.TheVariants as Entries
use Rattle.ipnet_lists.specs.Entries.{IsAddressText, IsEntryWord}
use Rattle.ipnet_lists.specs.EntryOf.{entry_range}

pub address_text : (grammar : Grammar) (text : List ℕ) (a : Ipv4Addr) → IsIpv4AddressText Strict text (ipv4_octets a)
    → IsAddressText grammar text (ipv4_address a)
unfolding ipv4_bits
address_text grammar text a h =
    inl record {
      octets = ipv4_octets a;
      writes = address_in grammar text (ipv4_octets a) h;
      family = refl;
      number = refl;
    }

pub address_entry : (grammar : Grammar) (text : List ℕ) (a : Ipv4Addr) → IsIpv4AddressText Strict text (ipv4_octets a)
    → IsEntryWord grammar text (entry_range (Entries.Address (Ip.V4 a)))
address_entry grammar text a h =
    inl (inr record { address = ipv4_address a; writes = address_text grammar text a h; is = refl })

pub network_entry : (grammar : Grammar) (text : List ℕ) (n : Ipv4Net) → IsIpv4NetworkText Strict text (ipv4_network n)
    → IsEntryWord grammar text (entry_range (Entries.Network (Nets.V4 n)))
network_entry grammar text n h =
    inl (inl record {
      network = ipv4_network n;
      writes = inl (network_in grammar text (ipv4_network n) (inl h));
      is = refl;
    })

pub range_entry : (grammar : Grammar) (text last : List ℕ) (a b : Ipv4Addr)
    → IsIpv4AddressText Strict text (ipv4_octets a) → IsIpv4AddressText Strict last (ipv4_octets b)
    → ipv4_bits a ≤ ipv4_bits b → IsEntryWord grammar (text ++ 45 ∷ last) (entry_range (Entries.Ipv4Range a b))
range_entry grammar text last a b h k ordered =
    inr record {
      first_text = text;
      last_text = last;
      spelled = sym (append_assoc text (45 ∷ []) last);
      ends = record {
        first = ipv4_address a;
        last = ipv4_address b;
        writes_first = address_text grammar text a h;
        writes_last = address_text grammar last b k;
        addresses = record { same_family = refl; ordered = ordered; is = refl };
      };
    }
