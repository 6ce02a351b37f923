-- The private steps of the parser, as functions on lists of bytes. `proofs/` shows that they agree with the grammar.
-- Only private contracts use these.
use Rattle.std.specs.Prelude.{ℕ, zero, suc, ◌-◌, Bool, true, false, not, ◌&&◌, List, [], ◌∷◌, ◌++◌, length, drop}
use Rattle.std.specs.Prelude.{slice_index, Option, Some, None, option_map, option_and_then, ◌==◌, nat_lt, nat_le}
use Rattle.std.specs.Prelude.{if◌then◌else◌}
use Rattle.std.specs.List.{list_all}
use Rattle.std.specs.Char.{is_digit}
use Rattle.std.specs.Str.Parse.{digits_value}
use Rattle.std.specs.Net.Addr.{segments_of}
use Rattle.ipnet.specs.declared.parser.Grammar.{Grammar}
use Rattle.ipnet.specs.declared.parser.Grammar.TheVariants.{Strict, Legacy}
use Rattle.ipnet.specs.AddressTexts.{most_written_groups, expanded}

-- A value, and the text after it; `None` if the text has no such value at its front.
abbrev pub Read : Type 0 → Type 0
Read A = Option (A × List ℕ)

infixl 10 ◌>>=◌
-- The usual bind of `Option`.
abbrev pub ◌>>=◌ : {A B : Type 0} → Option A → (A → Option B) → Option B
o >>= f = option_and_then f o

-- The byte `b'.'`.
abbrev pub dot : ℕ
dot = 46

-- The byte `b'/'`.
abbrev pub slash : ℕ
slash = 47

-- The byte `b':'`.
abbrev pub colon : ℕ
colon = 58

-- The text after this byte, if the byte is first.
abbrev pub read_byte : ℕ → List ℕ → Option (List ℕ)
read_byte byte [] = None
read_byte byte (first ∷ rest) = if first == byte then Some rest else None

-- The digits of this radix at the front, at most as many as the number given, and the text after them.
unfoldable pub digit_run : ℕ → ℕ → List ℕ → List ℕ × List ℕ
digit_run radix zero text = ([], text)
digit_run radix (suc room) [] = ([], [])
digit_run radix (suc room) (c ∷ text) =
    let more = digit_run radix room text in
    if is_digit c radix then (c ∷ more.0, more.1) else ([], c ∷ text)

-- The decimal digits at the front: at most three, since no octet or prefix length has more. A fourth digit stays in the
-- text, and none of the bytes that may follow is a digit.
abbrev pub decimal_run : List ℕ → List ℕ × List ℕ
decimal_run text = digit_run 10 3 text

-- The hexadecimal digits at the front: at most four, since no group has more.
abbrev pub hex_run : List ℕ → List ℕ × List ℕ
hex_run text = digit_run 16 4 text

-- All digits are decimal.
abbrev pub all_decimal : List ℕ → Bool
all_decimal digits = list_all (λ c. is_digit c 10) digits

-- The digits have no leading zero (48), if the grammar forbids it.
abbrev pub is_plain : Grammar → List ℕ → Bool
is_plain Strict digits = not ((slice_index digits 0 == 48) && nat_lt 1 (length digits))
is_plain Legacy digits = true

-- The decimal number of one to three digits, at most 255.
unfoldable pub decimal_of : Grammar → List ℕ → Option ℕ
decimal_of grammar digits =
    if nat_lt 0 (length digits) && nat_le (length digits) 3
    && all_decimal digits && nat_le (digits_value 10 digits) 255
    && is_plain grammar digits
    then Some (digits_value 10 digits) else None

-- The group with one to four hexadecimal digits.
unfoldable pub group_of : List ℕ → Option ℕ
group_of digits = if nat_lt 0 (length digits) then Some (digits_value 16 digits) else None

-- An octet or a prefix length at the front.
unfoldable pub octet_at : Grammar → List ℕ → Read ℕ
octet_at grammar text = do
  octet ← decimal_of grammar (decimal_run text).0
  Some (octet, (decimal_run text).1)

-- A "." and an octet.
unfoldable pub read_octet : Grammar → List ℕ → Read ℕ
read_octet grammar text = do
  digits ← read_byte dot text
  octet_at grammar digits

-- The rest of an IPv4 address, after its first octet.
unfoldable pub read_dotted : Grammar → ℕ → List ℕ → Read (List ℕ)
read_dotted grammar a text = do
  b ← read_octet grammar text
  c ← read_octet grammar b.1
  d ← read_octet grammar c.1
  Some (a ∷ b.0 ∷ c.0 ∷ d.0 ∷ [], d.1)

-- A "/" and a prefix length, at the end of the text.
unfoldable pub read_prefix_len : Grammar → ℕ → ℕ → List ℕ → Option ℕ
read_prefix_len grammar most greatest text = do
  digits ← read_byte slash text
  n ← octet_at grammar digits
  if nat_le n.0 greatest && nat_le (length digits) most && (length n.1 == 0) then Some n.0 else None

-- The octets and the prefix length of an IPv4 network.
unfoldable pub read_ipv4_network : Grammar → List ℕ → Option (List ℕ × ℕ)
read_ipv4_network grammar text = do
  first ← octet_at grammar text
  address ← read_dotted grammar first.0 first.1
  prefix_len ← read_prefix_len grammar 2 32 address.1
  Some (address.0, prefix_len)

-- Groups, whether the last two are an IPv4 address, and the text after them.
abbrev pub Groups : Type 0
Groups = Option (List ℕ × Bool × List ℕ)

-- These groups before those found.
abbrev pub after : List ℕ → Groups → Groups
after front found = option_map (λ p. (front ++ p.0, p.1, p.2)) found

-- The text begins with one ":" and not two.
abbrev pub is_single_colon : List ℕ → Bool
is_single_colon text = (slice_index text 0 == colon) && not (slice_index text 1 == colon)

-- The two groups of an IPv4 address, after its first run of digits.
unfoldable pub read_dotted_groups : Grammar → List ℕ → List ℕ → Groups
read_dotted_groups grammar digits text = do
  first ← decimal_of grammar digits
  address ← read_dotted grammar first text
  Some (segments_of address.0, true, address.1)

-- At most as many groups as the number given, joined by ":". The first run of digits is already read, and may begin an
-- IPv4 address.
unfoldable pub read_groups : Grammar → ℕ → List ℕ → List ℕ → Groups
read_groups grammar zero digits text = None
read_groups grammar (suc room) digits text =
    if slice_index text 0 == dot
    then (if nat_lt 0 room then read_dotted_groups grammar digits text else None)
    else (group_of digits >>= λ g.
    if is_single_colon text
    then (let next = hex_run (drop 1 text) in
    after (g ∷ []) (read_groups grammar room next.0 next.1))
    else Some (g ∷ [], false, text))

-- An IPv6 address with "::", after the groups before it.
unfoldable pub read_compressed : Grammar → List ℕ → List ℕ → Read (List ℕ)
read_compressed grammar head text = do
  one ← read_byte colon text
  two ← read_byte colon one
  let run = hex_run two
  if length run.0 == 0 then Some (expanded head [], run.1) else (do
    tail ← read_groups grammar (most_written_groups grammar - length head) run.0 run.1
    Some (expanded head tail.0, tail.2))

-- The groups of an IPv6 address.
unfoldable pub read_ipv6 : Grammar → List ℕ → Read (List ℕ)
read_ipv6 grammar text =
    let run = hex_run text in
    if length run.0 == 0 then read_compressed grammar [] run.1 else (do
      head ← read_groups grammar 8 run.0 run.1
      if length head.0 == 8 then Some (head.0, head.2)
          else (if head.1 then None else read_compressed grammar head.0 head.2))

-- The groups and the prefix length of an IPv6 network.
unfoldable pub read_ipv6_network : Grammar → List ℕ → Option (List ℕ × ℕ)
read_ipv6_network grammar text = do
  address ← read_ipv6 grammar text
  prefix_len ← read_prefix_len grammar 3 128 address.1
  Some (address.0, prefix_len)
