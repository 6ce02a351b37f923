-- How many of the fewest networks of a set have each prefix length.
use Rattle.std.specs.Prelude.{◌≡◌, ◌+◌, ◌&&◌, ℕ, zero, suc, Bool, nat_eq, List, [], ◌∷◌, ◌++◌, codes, decimal, count_by}
use Rattle.ipnet_base.specs.Address.{Family, IPv4, IPv6, Address, family_index, width}
use Rattle.ipnet_base.specs.Network.{Network}
use Rattle.ipnet_base.specs.Blocks.{AreMaximalBlocks}
use Rattle.ipnet.specs.declared.parser.Grammar.{Grammar}
use Rattle.ipnet_lists.specs.Lists.{ListEntry, IsInEntries}
use Rattle.ipnet_sets.specs.ManySets.{IsInSome}
use Rattle.netset_lib.specs.Answers.{AreListsRead}
use Rattle.netset_entries.specs.TextParts.{AreTextParts}

-- Whether the network is of this family and has this prefix length.
abbrev pub has_length : Family → ℕ → Network → Bool
has_length f len n = nat_eq (family_index n.family) (family_index f) && nat_eq n.prefix_len len

-- How many of the networks are of this family and have this prefix length.
-- Example: of 10.0.0.0/30, 10.0.0.4/31 and ::/30, one has the length 30 in IPv4.
abbrev pub count_with : Family → ℕ → List Network → ℕ
count_with f len networks = count_by (has_length f len) networks

-- The name of the family.
abbrev pub family_name : Family → List ℕ
family_name IPv4 = codes "IPv4"
family_name IPv6 = codes "IPv6"

-- The line of a prefix length: the name of the family, the length and the number of its networks, with tabs (9)
-- between; nothing if there is no such network. Example: `IPv4`, `30` and `1`.
abbrev pub length_line : Family → ℕ → ℕ → List ℕ
length_line f len zero = []
length_line f len (suc n) =
    family_name f ++ 9 ∷ [] ++ decimal len ++ 9 ∷ [] ++ decimal (suc n) ++ 10 ∷ []

-- The lines of the family: its prefix lengths from 0 on.
abbrev pub AreFamilyLines : Family → List Network → List ℕ → Type 0
AreFamilyLines f networks text =
    AreTextParts (λ len line. line ≡ length_line f len (count_with f len networks)) 0 (width f + 1) text

-- The text has a line for each prefix length that the fewest networks of the set have: IPv4 first.
-- Example: `IPv4`, 30, 1 and `IPv4`, 31, 1 for 10.0.0.0 to 10.0.0.5.
pub record AreLengthLines (InSet : Address → Type 0) (text : List ℕ) : Type 0 where
  pub networks : List Network
  pub fewest : AreMaximalBlocks InSet 0 networks
  pub ipv4 : List ℕ
  pub ipv6 : List ℕ
  pub of_ipv4 : AreFamilyLines IPv4 networks ipv4
  pub of_ipv6 : AreFamilyLines IPv6 networks ipv6
  pub spelled : text ≡ ipv4 ++ ipv6

-- No line of the lists is refused, and the text has the prefix lengths of all their addresses.
pub record IsLengthsAnswer (grammar : Grammar) (lists : List (List ℕ)) (text : List ℕ) : Type 0 where
  pub entries : List (List ListEntry)
  pub read : AreListsRead grammar 0 lists entries []
  pub right : AreLengthLines (IsInSome IsInEntries entries) text
