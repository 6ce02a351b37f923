-- No text of a network is long, in either grammar: it has a few numerals, each of a few digits.
use Rattle.std.proofs.Common.{◌≡◌, ℕ, ◌+◌, ◌*◌, ◌≤◌, List, [], ◌∷◌, ◌++◌, length, codes, ap, arith, length-append}
use Rattle.std.proofs.Common.{inl, inr, ◌⊎◌, refl}
use Rattle.ipnet.specs.Network.{Network}
use Rattle.ipnet.specs.declared.parser.Grammar.{Grammar}
use Rattle.ipnet.specs.declared.parser.Grammar.TheVariants.{Strict, Legacy}
use Rattle.ipnet.specs.Numerals.{IsOctet, IsGroup}
use Rattle.ipnet.specs.AddressTexts.{IsJoined, IsIpv4AddressText, IsIpv6AddressText, IsGroups, EndsInIpv4, IsCompressed}
use Rattle.ipnet.specs.AddressTexts.{most_written_groups}
use Rattle.ipnet.specs.NetworkTexts.{IsNetworkText}

-- numerals of at most four digits, each with a separator of one byte
joined_short : (separator : List ℕ) → length separator ≡ 1 → (Writes : List ℕ → ℕ → Type 0)
    → ((text : List ℕ) (n : ℕ) → Writes text n → length text ≤ 4) → (text : List ℕ) (ns : List ℕ)
    → IsJoined separator Writes text ns → length text ≤ 5 * length ns
joined_short separator one Writes short text [] h = omega (arith, ap length h)
joined_short separator one Writes short text (n ∷ []) h = omega (arith, short text n h)
joined_short separator one Writes short text (n ∷ m ∷ ns) (first, rest, is, writes, later) =
    let here = short first n writes in
    let more = joined_short separator one Writes short rest (m ∷ ns) later in
    omega (arith, one, here, more, ap length is, length-append (first ++ separator) rest, length-append first separator)

ipv4_short : (grammar : Grammar) (text octets : List ℕ) → IsIpv4AddressText grammar text octets → length text ≤ 20
ipv4_short grammar text octets h =
    let most = joined_short (codes ".") (length_one) (IsOctet grammar) octet_short text octets h.0 in
    omega (arith, most, h.1)
  where
    length_one : length (codes ".") ≡ 1
    length_one = refl

    octet_short : (text : List ℕ) (n : ℕ) → IsOctet grammar text n → length text ≤ 4
    octet_short text n octet = omega (arith, octet.short)

groups_short : (text groups : List ℕ) → IsGroups text groups → length text ≤ 5 * length groups
groups_short text groups h = joined_short (codes ":") refl IsGroup (λ t n group. group.short) text groups h

ends_short : (grammar : Grammar) (text groups : List ℕ) → EndsInIpv4 grammar text groups
    → length text ≤ 5 * length groups + 20
ends_short grammar text [] h = absurd h
ends_short grammar text (g ∷ []) h = absurd h
ends_short grammar text (g ∷ k ∷ []) (octets, is, value) = omega (arith, ipv4_short grammar text octets is)
ends_short grammar text (g ∷ k ∷ i ∷ groups) (first, rest, is, group, later) =
    let short = group.short in
    let more = ends_short grammar rest (k ∷ i ∷ groups) later in
    let one : length (codes ":") ≡ 1 = refl in
    omega (
      arith,
      one,
      short,
      more,
      ap length is,
      length-append (first ++ codes ":") rest,
      length-append first (codes ":"),
    )

most_groups : (grammar : Grammar) → most_written_groups grammar ≤ 8
most_groups Strict = omega arith
most_groups Legacy = omega arith

tail_short : (grammar : Grammar) (text groups : List ℕ) → IsGroups text groups ⊎ EndsInIpv4 grammar text groups
    → length text ≤ 5 * length groups + 20
tail_short grammar text groups (inl h) = omega (arith, groups_short text groups h)
tail_short grammar text groups (inr h) = ends_short grammar text groups h

compressed_short : (grammar : Grammar) (text groups : List ℕ) → IsCompressed grammar text groups → length text ≤ 100
compressed_short grammar text groups h =
    let head = groups_short h.head_text h.head h.head_groups in
    let tail = tail_short grammar h.tail_text h.tail h.tail_groups in
    let two : length (codes "::") ≡ 2 = refl in
    omega (
      arith,
      two,
      head,
      tail,
      h.room,
      most_groups grammar,
      ap length h.spelled,
      length-append (h.head_text ++ codes "::") h.tail_text,
      length-append h.head_text (codes "::"),
    )

ipv6_short : (grammar : Grammar) (text groups : List ℕ) → IsIpv6AddressText grammar text groups → length text ≤ 100
ipv6_short grammar text groups (inl h) = omega (arith, h.0, groups_short text groups h.1)
ipv6_short grammar text groups (inr (inl h)) = omega (arith, h.0, ends_short grammar text groups h.1)
ipv6_short grammar text groups (inr (inr h)) = compressed_short grammar text groups h

pub network_text_short : (grammar : Grammar) (text : List ℕ) (network : Network) → IsNetworkText grammar text network
    → length text ≤ 200
network_text_short grammar text network (inl h) =
    let one : length (codes "/") ≡ 1 = refl in
    omega (
      arith,
      one,
      ipv4_short grammar h.address_text h.octets h.writes_address,
      h.writes_length.short,
      ap length h.spelled,
      length-append (h.address_text ++ codes "/") h.length_text,
      length-append h.address_text (codes "/"),
    )
network_text_short grammar text network (inr h) =
    let one : length (codes "/") ≡ 1 = refl in
    omega (
      arith,
      one,
      ipv6_short grammar h.address_text h.groups h.writes_address,
      h.writes_length.short,
      ap length h.spelled,
      length-append (h.address_text ++ codes "/") h.length_text,
      length-append h.address_text (codes "/"),
    )
