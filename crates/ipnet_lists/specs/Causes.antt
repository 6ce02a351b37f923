-- Why a text is not an entry, if a cause can be named. Each cause has a sentence that is true of some texts. The causes
-- have one order, and the cause of a text is the first whose sentence is true of it.
--
-- Addresses in a sentence may be texts of the legacy grammar, which includes the strict one: for `010.0.0.0/33` the
-- length is too long in both grammars.
use Rattle.std.specs.Prelude.{◌≡◌, ◌≢◌, ◌<◌, ◌⊎◌, ℕ, ◌-◌, Bool, ◌||◌, ◌==◌, true, false, if◌then◌else◌, nat_eq}
use Rattle.std.specs.Prelude.{List, [], ◌∷◌, length, drop, map, codes, Option, Some, None}
use Rattle.std.specs.Char.{is_ascii_alphabetic, is_ascii_digit, to_ascii_lowercase}
use Rattle.std.specs.List.{after_first, before_first, list_all, list_any, position_or_len, starts_with}
use Rattle.std.specs.Str.{IsUtf8}
use Rattle.std.specs.Str.Parse.{IsNumeral, digits_value}
use Rattle.ipnet_base.specs.Address.{Family, IPv4, IPv6, width, Address}
use Rattle.ipnet_base.specs.Masks.{IsNetmaskOf}
use Rattle.ipnet_base.specs.Ranges.{AddressRange}
use Rattle.ipnet.specs.declared.parser.Grammar.{Grammar}
use Rattle.ipnet.specs.declared.parser.Grammar.TheVariants.{Legacy}
use Rattle.ipnet_lists.specs.declared.cause.Cause.{Cause}
use Rattle.ipnet_lists.specs.declared.cause.Cause.TheVariants as Causes
use Rattle.ipnet_lists.specs.Entries.{HasReturn, IsAddressText, IsEntryText, IsNoEntry, WriteRange, after_blanks}
use Rattle.ipnet_lists.specs.Entries.{before_blanks}
use Rattle.ipnet_lists.specs.Words.{after_leading, leading, second_word}

-- The text has this byte.
abbrev pub Has : ℕ → List ℕ → Type 0
Has b text = list_any (λ c. c == b) text ≡ true

-- The text has this byte, and its parts before and after the first one are so.
abbrev pub IsCutAt : ℕ → (List ℕ → List ℕ → Type 0) → List ℕ → Type 0
IsCutAt b Parts text = (position_or_len (λ c. c == b) text < length text)
    × Parts (before_first (λ c. c == b) text) (after_first (λ c. c == b) text)

-- The text is an entry of the legacy grammar.
abbrev pub IsSomeEntry : List ℕ → Type 0
IsSomeEntry text = (range : AddressRange) × IsEntryText Legacy text range

-- The text is an address of this family.
abbrev pub IsOfFamily : Family → List ℕ → Type 0
IsOfFamily family text = (x : Address) × IsAddressText Legacy text x × (x.family ≡ family)

-- The text is decimal digits, and their value is greater than `most`.
pub record WritesAbove (most : ℕ) (text : List ℕ) : Type 0 where
  pub digits : IsNumeral 10 text
  pub above : most < digits_value 10 text

-- The texts of an address of the family, and of a number that is greater than the family's width.
-- Example: `010.0.0.0` and `0033`.
abbrev pub IsTooLong : Family → List ℕ → List ℕ → Type 0
IsTooLong family address length = IsOfFamily family address × WritesAbove (width family) length

-- The texts of two addresses with this relation, with or without blanks between them and the cut.
pub record AreAddresses (Related : Address → Address → Type 0) (first_text last_text : List ℕ) : Type 0 where
  pub first : Address
  pub last : Address
  pub writes_first : IsAddressText Legacy (before_blanks first_text) first
  pub writes_last : IsAddressText Legacy (after_blanks last_text) last
  pub related : Related first last

-- The addresses are of one family, and the last comes before the first. Example: 10.0.0.9 and 10.0.0.1.
abbrev pub AreBackwards : Address → Address → Type 0
AreBackwards first last = (first.family ≡ last.family) × (last.number < first.number)

-- The addresses are of two families. Example: 10.0.0.1 and ::1.
abbrev pub AreApart : Address → Address → Type 0
AreApart first last = first.family ≢ last.family

-- Two entries, with or without blanks between them and the cut. Example: `10.0.0.0/8 ` and ` 10.1.0.0/16`.
abbrev pub AreEntries : List ℕ → List ℕ → Type 0
AreEntries first last = IsSomeEntry (before_blanks first) × IsSomeEntry (after_blanks last)

-- An entry is before the cut, and at most blanks are after it. Example: `10.0.0.1 ` of `10.0.0.1 -` at "-".
abbrev pub IsUnfinished : List ℕ → List ℕ → Type 0
IsUnfinished front back = IsSomeEntry (before_blanks front) × (after_blanks back ≡ [])

-- The texts of two IPv4 addresses. Example: `10.0.0.0` and `0.0.0.255`.
abbrev pub AreIpv4 : List ℕ → List ℕ → Type 0
AreIpv4 first last = IsOfFamily IPv4 first × IsOfFamily IPv4 last

-- An entry is before the cut. Example: `10.0.0.0/8` of `10.0.0.0/8, ours` at ",".
abbrev pub IsEntryFirst : List ℕ → List ℕ → Type 0
IsEntryFirst front back = IsSomeEntry front

-- An address of this family is before the cut. Example: `fe80::1` of `fe80::1%eth0` at "%".
abbrev pub IsAddressFirst : Family → List ℕ → List ℕ → Type 0
IsAddressFirst family front back = IsOfFamily family front

-- Nothing is before the cut, and after it an entry that this byte follows.
-- Example: `::1` of `[::1]:80` at "[", with "]".
abbrev pub IsEnclosed : ℕ → List ℕ → List ℕ → Type 0
IsEnclosed close front back = (front ≡ []) × IsCutAt close IsEntryFirst back

-- Nothing is before the cut, and after it only an entry. Example: `10.0.0.5` of `!10.0.0.5` at "!", and of `- 10.0.0.5`
-- at "-".
abbrev pub IsExcluded : List ℕ → List ℕ → Type 0
IsExcluded front back = (front ≡ []) × IsSomeEntry (after_blanks back)

-- The number is an IPv4 netmask. Example: 255.0.0.0.
abbrev pub IsNetmaskNumber : ℕ → Type 0
IsNetmaskNumber number = (prefix_len : ℕ) × IsNetmaskOf IPv4 number prefix_len

-- The number is a netmask, or a wildcard mask, which is the complement of one. Example: 255.0.0.0, 0.255.255.255.
abbrev pub IsMaskNumber : ℕ → Type 0
IsMaskNumber number = IsNetmaskNumber number ⊎ IsNetmaskNumber (4294967295 - number)

-- The text is such a mask.
pub record IsMaskText (text : List ℕ) : Type 0 where
  pub mask : Address
  pub writes : IsAddressText Legacy text mask
  pub family : mask.family ≡ IPv4
  pub is_mask : IsMaskNumber mask.number

-- The first word is an IPv4 address, and the second a mask. Example: `10.0.0.0 255.0.0.0`, `10.0.0.0 0.255.255.255`.
abbrev pub HasMaskWord : List ℕ → Type 0
HasMaskWord text = IsOfFamily IPv4 (leading text) × IsMaskText (second_word text)

-- The first two words are entries. Example: `10.0.0.0/8, 10.1.0.0/16`.
abbrev pub HasTwoEntries : List ℕ → Type 0
HasTwoEntries text = IsSomeEntry (leading text) × IsSomeEntry (second_word text)

-- A dash other than "-" begins the text, which is UTF-8: U+2013, U+2014 or U+2212.
abbrev pub is_long_dash : List ℕ → Bool
is_long_dash text = starts_with nat_eq text (226 ∷ 128 ∷ 147 ∷ [])
    || (starts_with nat_eq text (226 ∷ 128 ∷ 148 ∷ []) || starts_with nat_eq text (226 ∷ 136 ∷ 146 ∷ []))

-- The text from its first byte 226 on, with which such a dash begins.
abbrev pub from_dash : List ℕ → List ℕ
from_dash text = drop (position_or_len (λ b. b == 226) text) text

-- Two entries are around such a dash, with or without blanks. Example: 10.0.0.1 and 10.0.0.9 around U+2013.
pub record IsDashed (text : List ℕ) : Type 0 where
  pub dash : is_long_dash (from_dash text) ≡ true
  pub first : IsSomeEntry (before_blanks (before_first (λ b. b == 226) text))
  pub last : IsSomeEntry (after_blanks (drop 3 (from_dash text)))

-- The number of bytes of the dash that begins the text, or 0 if none does.
abbrev pub dash_len : List ℕ → ℕ
dash_len text = if starts_with nat_eq text (45 ∷ []) then 1 else (if is_long_dash text then 3 else 0)

-- The text begins with a digit.
abbrev pub begins_with_digit : List ℕ → Bool
begins_with_digit [] = false
begins_with_digit (b ∷ text) = is_ascii_digit b

-- The text begins with a digit, or its first word has a ":". Example: `10.0.0.300`, `9`, `fd00::g`; not `office`.
abbrev pub is_like_address : List ℕ → Bool
is_like_address text = begins_with_digit text || list_any (λ b. b == 58) (leading text)

-- The text goes on with a range: a dash, and what may be meant as an address. Example: `- 10.0.0.300`, `-9`.
abbrev pub GoesOn : List ℕ → Type 0
GoesOn text = (0 < dash_len text) × (is_like_address (after_blanks (drop (dash_len text) text)) ≡ true)

-- The text is a remark: something that does not go on with a range. Example: `web server`, `- office`, `443`.
pub record IsRemark (text : List ℕ) : Type 0 where
  pub some : text ≢ []
  pub ends : ¬ (GoesOn text)

-- The first word is an entry, and the rest a remark. Example: `10.0.0.0/8 web server`.
abbrev pub HasRemark : List ℕ → Type 0
HasRemark text = IsSomeEntry (leading text) × IsRemark (after_leading text)

-- The texts of the first and the last address of a range.
abbrev pub AreEnds : List ℕ → List ℕ → Type 0
AreEnds first last = (range : AddressRange) × WriteRange Legacy first last range

-- An address is before the cut, and after it the last address of the range from there, and a remark. Blanks around the
-- cut do not matter. Example: `10.0.0.1 - 10.0.0.9 office` at "-".
abbrev pub IsRangeRemark : List ℕ → List ℕ → Type 0
IsRangeRemark front back = AreEnds (before_blanks front) (leading (after_blanks back))
    × IsRemark (after_leading (after_blanks back))

-- A remark follows an entry: a first word, or a range with blanks in it.
abbrev pub IsFollowed : List ℕ → Type 0
IsFollowed text = HasRemark text ⊎ IsCutAt 45 IsRangeRemark text

-- The text is a word for all addresses, in letters of any case.
abbrev pub IsAllWord : List ℕ → Type 0
IsAllWord text = (map to_ascii_lowercase text ≡ codes "any")
    ⊎ ((map to_ascii_lowercase text ≡ codes "all") ⊎ (map to_ascii_lowercase text ≡ codes "default"))

-- A decimal digit or a dot.
abbrev pub is_dotted : ℕ → Bool
is_dotted b = is_ascii_digit b || (b == 46)

-- The text up to its first "/" has only digits and dots, and is not an IPv4 address. Example: `10/8`, `10.0.0.256`.
pub record IsNoIpv4 (text : List ℕ) : Type 0 where
  pub some : before_first (λ b. b == 47) text ≢ []
  pub dotted : list_all is_dotted (before_first (λ b. b == 47) text) ≡ true
  pub none : ¬ (IsOfFamily IPv4 (before_first (λ b. b == 47) text))

-- A letter, a digit, ".", "-" or "_".
abbrev pub is_name : ℕ → Bool
is_name b = is_ascii_alphabetic b || (is_dotted b || (b == 45 || b == 95))

-- Only such bytes, with a letter among them. Example: `localhost`, `www.example.com`.
pub record IsName (text : List ℕ) : Type 0 where
  pub name : list_all is_name text ≡ true
  pub letter : list_any is_ascii_alphabetic text ≡ true

-- The text up to its first "/", and up to the first ":" of that. Example: `www.example.com` of `www.example.com:443`.
abbrev pub host_part : List ℕ → List ℕ
host_part text = before_first (λ b. b == 58) (before_first (λ b. b == 47) text)

-- A name with a dot. Example: `www.example.com`.
abbrev pub IsDottedName : List ℕ → Type 0
IsDottedName text = IsName text × Has 46 text

-- A name, or a name with a dot up to a "/" or a ":". Example: `localhost`, `www.example.com`, `www.example.com/24`.
abbrev pub IsHostName : List ℕ → Type 0
IsHostName text = IsName text ⊎ IsDottedName (host_part text)

-- The sentence of the cause, of a text that is not an entry.
abbrev pub Explains : List ℕ → Cause → Type 0
Explains text Causes.NulByte = Has 0 text
Explains text Causes.NotUtf8 = ¬ (IsUtf8 text)
Explains text Causes.CarriageReturn = HasReturn text
Explains text Causes.LegacyAlone = IsSomeEntry text
Explains text Causes.LengthAbove32 = IsCutAt 47 (IsTooLong IPv4) text
Explains text Causes.LengthAbove128 = IsCutAt 47 (IsTooLong IPv6) text
Explains text Causes.EndsBeforeStart = IsCutAt 45 (AreAddresses AreBackwards) text
Explains text Causes.TwoFamilies = IsCutAt 45 (AreAddresses AreApart) text
Explains text Causes.RangeOfNetworks = IsCutAt 45 AreEntries text
Explains text Causes.OtherDash = IsDashed text
Explains text Causes.NoLastAddress = IsCutAt 45 IsUnfinished text
Explains text Causes.WildcardMask = IsCutAt 47 AreIpv4 text
Explains text Causes.MaskAfterBlank = HasMaskWord text
Explains text Causes.TwoEntries = HasTwoEntries text
Explains text Causes.CommaFollows = IsCutAt 44 IsEntryFirst text
Explains text Causes.SemicolonFollows = IsCutAt 59 IsEntryFirst text
Explains text Causes.TextFollows = IsFollowed text
Explains text Causes.InBrackets = IsCutAt 91 (IsEnclosed 93) text
Explains text Causes.InQuotes = IsCutAt 34 (IsEnclosed 34) text
Explains text Causes.Excluded = IsCutAt 33 IsExcluded text
Explains text Causes.DashFirst = IsCutAt 45 IsExcluded text
Explains text Causes.HasZone = IsCutAt 37 (IsAddressFirst IPv6) text
Explains text Causes.HasPort = IsCutAt 58 (IsAddressFirst IPv4) text
Explains text Causes.NotFourNumbers = IsNoIpv4 text
Explains text Causes.HasStar = Has 42 text
Explains text Causes.AllAddresses = IsAllWord text
Explains text Causes.HostName = IsHostName text

-- The causes, in their order.
abbrev pub causes : List Cause
causes =
    Causes.NulByte ∷ Causes.NotUtf8 ∷ Causes.CarriageReturn ∷ Causes.LegacyAlone ∷ Causes.LengthAbove32
    ∷ Causes.LengthAbove128 ∷ Causes.EndsBeforeStart ∷ Causes.TwoFamilies ∷ Causes.RangeOfNetworks ∷ Causes.OtherDash
    ∷ Causes.NoLastAddress ∷ Causes.WildcardMask ∷ Causes.MaskAfterBlank ∷ Causes.TwoEntries ∷ Causes.CommaFollows
    ∷ Causes.SemicolonFollows ∷ Causes.TextFollows ∷ Causes.InBrackets ∷ Causes.InQuotes ∷ Causes.Excluded
    ∷ Causes.DashFirst ∷ Causes.HasZone ∷ Causes.HasPort ∷ Causes.NotFourNumbers ∷ Causes.HasStar
    ∷ Causes.AllAddresses ∷ Causes.HostName ∷ []

-- The first of the causes whose sentence is true of the text, or `None` if no sentence is.
abbrev pub IsFirstOf : List Cause → List ℕ → Option Cause → Type 0
IsFirstOf [] text reported = reported ≡ None
IsFirstOf (cause ∷ more) text reported =
    (Explains text cause × (reported ≡ Some cause)) ⊎ ((¬ (Explains text cause)) × IsFirstOf more text reported)

-- An entry has no cause. Another text has the first of the causes that explains it.
-- Example: `LengthAbove32` for `10.0.0.0/33` and `010.0.0.0/0033`; `EndsBeforeStart` for `10.0.0.9 - 10.0.0.1`;
-- `LegacyAlone` for `010.0.0.1` in the strict grammar; `MaskAfterBlank`, and not `TwoEntries`, for
-- `10.0.0.0 255.0.0.0`; `TextFollows` for `10.0.0.0/8 web server`; none for `10.0.0.0/+33`.
abbrev pub IsReportedCause : Grammar → List ℕ → Option Cause → Type 0
IsReportedCause grammar text reported = (((range : AddressRange) × IsEntryText grammar text range) × (reported ≡ None))
    ⊎ (IsNoEntry grammar text × IsFirstOf causes text reported)
