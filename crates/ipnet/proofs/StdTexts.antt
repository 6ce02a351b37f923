-- The strict texts of addresses are exactly the texts of std's own grammar.
use Rattle.std.proofs.Common.{◌≡◌, ℕ, ◌<◌, ◌↔◌, Bool, true, List, [], ◌∷◌, ◌++◌, decimal, refl, sym, ap, ◌∙◌, arith}
use Rattle.std.proofs.Common.{inl, inr, append_assoc, append-nil, ◌⊎◌, false, subst, lit<}
use Rattle.std.proofs.lemmas.Str.Parse.{numerals_by_value, tells_digits}
use Rattle.std.proofs.lemmas.Fmt.{decimal-digits_value}
use Rattle.std.specs.Net.Grammar.{IsGroupsAfter, IsColonHex as StdColonHex, IsElided as StdElided}
use Rattle.std.specs.Net.Grammar.{IsDotted as StdDotted, IsGroup as StdGroup}
use Rattle.std.specs.Net.Addr.{segments_of}
use Rattle.ipnet.specs.declared.parser.Grammar.TheVariants.{Strict}
use Rattle.ipnet.specs.Numerals.{IsOctet, IsGroup}
use Rattle.ipnet.specs.AddressTexts.{IsIpv4AddressText, IsGroups, EndsInIpv4, IsCompressed, IsIpv6AddressText, IsJoined}
use Rattle.ipnet.proofs.Ipv4Texts.{Dots-from}
use Rattle.ipnet.proofs.PrintedDigits.{IsDecimal-decimal}

-- ---- std's address texts are strict

-- the decimal of an octet is its strict text
IsOctet-decimal : (n : ℕ) → n < 256 → IsOctet Strict (decimal n) n
IsOctet-decimal n fits = IsDecimal-decimal 3 255 n (lit< tt) (omega arith) (omega arith) (omega arith)

pub IsIpv4AddressText-std : (text octets : List ℕ) → StdDotted text octets → IsIpv4AddressText Strict text octets
IsIpv4AddressText-std text octets h =
    let all : IsJoined (46 ∷ []) (IsOctet Strict) text (h.a ∷ h.b ∷ h.c ∷ h.d ∷ []) = (
      decimal h.a,
      decimal h.b ++ (46 ∷ []) ++ (decimal h.c ++ (46 ∷ []) ++ decimal h.d),
      h.spelled ∙ simp append_assoc,
      IsOctet-decimal h.a h.fit.0,
      (
        _,
        _,
        simp append_assoc,
        IsOctet-decimal h.b h.fit.1,
        (_, _, refl, IsOctet-decimal h.c h.fit.2, IsOctet-decimal h.d h.fit.3),
      ),
    ) in
    rw h.value (all, refl)

IsGroup-std : (text : List ℕ) (n : ℕ) → StdGroup text n → IsGroup text n
IsGroup-std text n h = record { digits = h.0.0; value = h.0.1; short = h.1 }

-- only groups, or groups with a dotted address at the end
abbrev IsPieces : List ℕ → List ℕ → Type 0
IsPieces text groups = IsGroups text groups ⊎ EndsInIpv4 Strict text groups

more_pieces : (text first rest groups : List ℕ) (g h : ℕ) → text ≡ first ++ (58 ∷ []) ++ rest → IsGroup first g
    → IsPieces rest (h ∷ groups) → IsPieces text (g ∷ h ∷ groups)
more_pieces text first rest groups g h split is (inl plain) = inl (first, rest, split, is, plain)
more_pieces text first rest [] g h split is (inr mixed) = absurd mixed
more_pieces text first rest (i ∷ groups) g h split is (inr mixed) = inr (first, rest, split, is, mixed)

last_dotted : (text octets : List ℕ) (g : ℕ) (groups : List ℕ) → StdDotted text octets → g ∷ groups ≡ segments_of octets
    → IsPieces text (g ∷ groups)
last_dotted text octets g groups h value =
    let two = value ∙ ap segments_of h.value in
    subst (IsPieces text) (sym two) (inr (octets, IsIpv4AddressText-std text octets h, ap segments_of (sym h.value)))

-- what std writes after a lead
pieces_after : (lead text : List ℕ) (g : ℕ) (groups : List ℕ) → IsGroupsAfter true lead text (g ∷ groups)
    → (rest : List ℕ) × (text ≡ lead ++ rest) × IsPieces rest (g ∷ groups)
pieces_after lead text g groups (inr h) = (h.0, h.3, last_dotted h.0 h.1 g groups h.4 h.5)
pieces_after lead text g [] (inl h) =
    (h.0, rw h.4 at h.2 ∙ simp (append_assoc, append-nil), inl (IsGroup-std h.0 g h.3))
pieces_after lead text g (i ∷ groups) (inl h) =
    let (rest, split, pieces) = pieces_after (58 ∷ []) h.1 i groups h.4 in (
      h.0 ++ (58 ∷ []) ++ rest,
      rw split at h.2 ∙ simp append_assoc,
      more_pieces _ h.0 rest groups g i refl (IsGroup-std h.0 g h.3) pieces,
    )

pieces : (text groups : List ℕ) → IsGroupsAfter true [] text groups → IsPieces text groups
pieces text [] h = inl h
pieces text (g ∷ groups) h =
    let (rest, split, is) = pieces_after [] text g groups h in
    rw split is

plain_after : (lead text : List ℕ) (g : ℕ) (groups : List ℕ) → IsGroupsAfter false lead text (g ∷ groups)
    → (rest : List ℕ) × (text ≡ lead ++ rest) × IsGroups rest (g ∷ groups)
plain_after lead text g groups (inr h) = let never : false ≡ true = h.2 in cc
plain_after lead text g [] (inl h) = (h.0, rw h.4 at h.2 ∙ simp (append_assoc, append-nil), IsGroup-std h.0 g h.3)
plain_after lead text g (i ∷ groups) (inl h) =
    let (rest, split, plain) = plain_after (58 ∷ []) h.1 i groups h.4 in (
      h.0 ++ (58 ∷ []) ++ rest,
      rw split at h.2 ∙ simp append_assoc,
      (h.0, rest, refl, IsGroup-std h.0 g h.3, plain),
    )

plain_pieces : (text groups : List ℕ) → IsGroupsAfter false [] text groups → IsGroups text groups
plain_pieces text [] h = h
plain_pieces text (g ∷ groups) h =
    let (rest, split, is) = plain_after [] text g groups h in
    rw split is

IsCompressed-std : (text groups : List ℕ) → StdElided text groups → IsCompressed Strict text groups
IsCompressed-std text groups h = record {
  head_text = h.head_text;
  tail_text = h.tail_text;
  head = h.head;
  tail = h.tail;
  spelled = h.spelled;
  head_groups = plain_pieces h.head_text h.head h.head_groups;
  tail_groups = pieces h.tail_text h.tail h.tail_groups;
  short_head = omega (arith, h.room);
  room = omega (arith, h.room);
  value = h.value;
}

pub IsIpv6AddressText-std : (text groups : List ℕ) → StdColonHex text groups → IsIpv6AddressText Strict text groups
IsIpv6AddressText-std text groups (inl h) =
    elim (pieces text groups h.0) [ inl plain ↦ inl (h.1, plain) | inr mixed ↦ inr (inl (h.1, mixed)) ]
IsIpv6AddressText-std text groups (inr h) = inr (inr (IsCompressed-std text groups h))

-- ---- strict address texts are std's

-- a strict octet is the decimal of its value
octet_decimal : (text : List ℕ) (n : ℕ) → IsOctet Strict text n → (n < 256) × (text ≡ decimal n)
octet_decimal text n h = (
  omega (arith, h.small),
  sym (decimal-digits_value (numerals_by_value _ tells_digits) text h.digits.1 h.digits.0 (h.plain refl)
      (omega (arith, h.value, h.small)))
      ∙ ap decimal h.value,
)

dotted : (text octets : List ℕ) → IsIpv4AddressText Strict text octets → StdDotted text octets
dotted text octets h =
    let dots = Dots-from Strict text octets h in
    let (fits_a, is_a) = octet_decimal dots.t₁ dots.a dots.is_a in
    let (fits_b, is_b) = octet_decimal dots.t₂ dots.b dots.is_b in
    let (fits_c, is_c) = octet_decimal dots.t₃ dots.c dots.is_c in
    let (fits_d, is_d) = octet_decimal dots.t₄ dots.d dots.is_d in
    record {
      a = dots.a;
      b = dots.b;
      c = dots.c;
      d = dots.d;
      fit = (fits_a, fits_b, fits_c, fits_d);
      value = dots.value;
      spelled = dots.spelled ∙ rw (is_a, is_b, is_c, is_d) (simp append_assoc);
    }

pub ipv4_std : (text octets : List ℕ) → IsIpv4AddressText Strict text octets ↔ StdDotted text octets
ipv4_std text octets = (dotted text octets, IsIpv4AddressText-std text octets)

group : (text : List ℕ) (n : ℕ) → IsGroup text n → StdGroup text n
group text n h = ((h.digits, h.value), h.short)

after_lead : (lead text first rest : List ℕ) → text ≡ first ++ (58 ∷ []) ++ rest
    → lead ++ text ≡ lead ++ first ++ (58 ∷ rest)
after_lead lead text first rest split = rw split (simp append_assoc)

-- groups after a lead, as std writes them
groups_after : (ipv4 : Bool) (lead text : List ℕ) (g : ℕ) (groups : List ℕ) → IsGroups text (g ∷ groups)
    → IsGroupsAfter ipv4 lead (lead ++ text) (g ∷ groups)
groups_after ipv4 lead text g [] h = inl (text, [], sym (append-nil (lead ++ text)), group text g h, refl)
groups_after ipv4 lead text g (i ∷ groups) h =
    inl (
      h.0,
      58 ∷ h.1,
      after_lead lead text h.0 h.1 h.2,
      group h.0 g h.3,
      groups_after ipv4 (58 ∷ []) h.1 i groups h.4,
    )

groups_std : (ipv4 : Bool) (text groups : List ℕ) → IsGroups text groups → IsGroupsAfter ipv4 [] text groups
groups_std ipv4 text [] h = h
groups_std ipv4 text (g ∷ groups) h = groups_after ipv4 [] text g groups h

mixed_after : (lead text groups : List ℕ) → EndsInIpv4 Strict text groups
    → IsGroupsAfter true lead (lead ++ text) groups
mixed_after lead text [] h = absurd h
mixed_after lead text (g ∷ []) h = absurd h
mixed_after lead text (g ∷ i ∷ []) (octets, is, value) = inr (text, octets, refl, refl, dotted text octets is, value)
mixed_after lead text (g ∷ i ∷ j ∷ groups) h =
    inl (
      h.0,
      58 ∷ h.1,
      after_lead lead text h.0 h.1 h.2,
      group h.0 g h.3,
      mixed_after (58 ∷ []) h.1 (i ∷ j ∷ groups) h.4,
    )

compressed_std : (text groups : List ℕ) → IsCompressed Strict text groups → StdElided text groups
compressed_std text groups h = record {
  head_text = h.head_text;
  tail_text = h.tail_text;
  head = h.head;
  tail = h.tail;
  spelled = h.spelled;
  head_groups = groups_std _ h.head_text h.head h.head_groups;
  tail_groups =
      elim h.tail_groups [
        | inl plain ↦ groups_std true h.tail_text h.tail plain
        | inr mixed ↦ mixed_after [] h.tail_text h.tail mixed
      ];
  room = omega (arith, h.room);
  value = h.value;
}

colon_hex : (text groups : List ℕ) → IsIpv6AddressText Strict text groups → StdColonHex text groups
colon_hex text groups (inl h) = inl (groups_std true text groups h.1, h.0)
colon_hex text groups (inr (inl h)) = inl (mixed_after [] text groups h.1, h.0)
colon_hex text groups (inr (inr h)) = inr (compressed_std text groups h)

pub ipv6_std : (text groups : List ℕ) → IsIpv6AddressText Strict text groups ↔ StdColonHex text groups
ipv6_std text groups = (colon_hex text groups, IsIpv6AddressText-std text groups)
