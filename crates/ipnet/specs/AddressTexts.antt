-- The texts of addresses, in the strict and the legacy grammar (RFC 4291, section 2.2). Each definition relates a whole
-- text, as bytes, to the octets or groups that it denotes. The grammars, `Strict` and `Legacy` of the public enum
-- `Grammar`, differ only in leading zeros of decimal numbers and in `most_written_groups`.
use Rattle.std.specs.Prelude.{◌≡◌, ℕ, ◌+◌, ◌-◌, ◌≤◌, ◌⊎◌, List, [], ◌∷◌, ◌++◌, length, replicate, codes}
use Rattle.std.specs.Net.Addr.{segments_of}
use Rattle.ipnet.specs.declared.parser.Grammar.{Grammar}
use Rattle.ipnet.specs.declared.parser.Grammar.TheVariants.{Strict, Legacy}
use Rattle.ipnet.specs.Numerals.{IsOctet, IsGroup}

-- The text is the texts of these numbers, joined by the separator. The empty list of numbers has the empty text.
-- Example: with "." and `IsOctet`, `10.1.1.0` is the text of 10, 1, 1, 0.
abbrev pub IsJoined : List ℕ → (List ℕ → ℕ → Type 0) → List ℕ → List ℕ → Type 0
IsJoined separator Writes text [] = text ≡ []
IsJoined separator Writes text (n ∷ []) = Writes text n
IsJoined separator Writes text (n ∷ m ∷ ns) =
    (first rest : List ℕ) × (text ≡ first ++ separator ++ rest) × Writes first n
    × IsJoined separator Writes rest (m ∷ ns)

-- An IPv4 address: four octets joined by ".". Example: `10.1.1.0` has the octets 10, 1, 1, 0.
abbrev pub IsIpv4AddressText : Grammar → List ℕ → List ℕ → Type 0
IsIpv4AddressText grammar text octets =
    IsJoined (codes ".") (IsOctet grammar) text octets × (length octets ≡ 4)

-- Groups joined by ":" (RFC 4291, section 2.2, form 1). Example: `2001:db8` has the groups 8193, 3512.
abbrev pub IsGroups : List ℕ → List ℕ → Type 0
IsGroups text groups = IsJoined (codes ":") IsGroup text groups

-- Groups joined by ":", with the last two as an IPv4 address (RFC 4291, section 2.2, form 3).
-- Example: `1:2:3:4:5:6:1.2.3.4` has the groups 1 to 6, 258, 772.
abbrev pub EndsInIpv4 : Grammar → List ℕ → List ℕ → Type 0
EndsInIpv4 grammar text [] = ⊥
EndsInIpv4 grammar text (g ∷ []) = ⊥
EndsInIpv4 grammar text (g ∷ h ∷ []) =
    (octets : List ℕ) × IsIpv4AddressText grammar text octets × (g ∷ h ∷ [] ≡ segments_of octets)
EndsInIpv4 grammar text (g ∷ h ∷ i ∷ groups) =
    (first rest : List ℕ) × (text ≡ first ++ codes ":" ++ rest) × IsGroup first g
    × EndsInIpv4 grammar rest (h ∷ i ∷ groups)

-- The greatest number of groups beside "::". A strict text has at most 7, so "::" replaces at least one group. Legacy
-- allows 8: `1:2:3:4:5:6:7::8`.
abbrev pub most_written_groups : Grammar → ℕ
most_written_groups Strict = 7
most_written_groups Legacy = 8

-- The eight groups of a text with "::": the head, then zeros, then the tail.
-- Example: 1, 2 and 3 give 1, 2, 0, 0, 0, 0, 0, 3.
abbrev pub expanded : List ℕ → List ℕ → List ℕ
expanded head tail = head ++ replicate (8 - length head - length tail) 0 ++ tail

-- A head, "::" and a tail (RFC 4291, section 2.2, form 2). Each may be empty; only the tail may end in an IPv4 address.
-- Example: `fd00::` has the head fd00, an empty tail and seven zero groups.
pub record IsCompressed (grammar : Grammar) (text groups : List ℕ) : Type 0 where
  pub head_text : List ℕ
  pub tail_text : List ℕ
  pub head : List ℕ
  pub tail : List ℕ
  pub spelled : text ≡ head_text ++ codes "::" ++ tail_text
  pub head_groups : IsGroups head_text head
  pub tail_groups : IsGroups tail_text tail ⊎ EndsInIpv4 grammar tail_text tail
  pub short_head : length head ≤ 7
  pub room : length head + length tail ≤ most_written_groups grammar
  pub value : groups ≡ expanded head tail

-- An IPv6 address: eight groups, or six groups and an IPv4 address, or a text with "::".
-- Example: `1:2:3:4:5:6:7:8`, `1:2:3:4:5:6:1.2.3.4` and `::1`.
abbrev pub IsIpv6AddressText : Grammar → List ℕ → List ℕ → Type 0
IsIpv6AddressText grammar text groups =
    ((length groups ≡ 8) × IsGroups text groups)
    ⊎ (((length groups ≡ 8) × EndsInIpv4 grammar text groups)
    ⊎ IsCompressed grammar text groups)
