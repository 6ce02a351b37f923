-- Texts without "-": what their signs say of the entry that they are.
use Rattle.std.proofs.Common.{◌≡◌, ◌≢◌, ◌⊎◌, ℕ, ◌+◌, ◌*◌, ◌<◌, ◌≤◌, Bool, true, false, List, [], ◌∷◌, ◌++◌, All, length}
use Rattle.std.proofs.Common.{take, drop, get_or, Some, refl, sym, ap, ◌∙◌, subst, arith, inl, inr}
use Rattle.std.proofs.Common.{append_assoc, ◌||◌, ◌==◌, bit_and, bit_or, cond, nat_lt, not}
use Rattle.std.specs.Char.{digit_value, is_ascii_whitespace}
use Rattle.std.proofs.lemmas.Bool.{cases_eq, ne_eqb}
use Rattle.std.proofs.lemmas.Nat.{and_or_self, and_or_apart}
use Rattle.std.specs.Str.Parse.{AllDigits, digits_value}
use Rattle.std.proofs.lemmas.Bool.Decides.{nat_tests}
use Rattle.std.proofs.lemmas.List.{take_all, take_more, drop_all, drop_more, take-append-drop}
use Rattle.std.proofs.lemmas.List.Elements.{All-nil, All-append, All-cons, All-head, All-more, All-pop}
use Rattle.std.proofs.lemmas.List.Elements.{All-tail}
use Rattle.ipnet_base.specs.Address.{IPv4, IPv6, Address, width}
use Rattle.ipnet_base.specs.Blocks.{IsMaximal}
use Rattle.ipnet_base.specs.Network.{Network, IsSubnetOf}
use Rattle.ipnet_base.specs.Ranges.{AddressRange}
use Rattle.ipnet_base.proofs.BlockLaws.{own, own_in, block_from_between}
use Rattle.ipnet_base.proofs.NestingLaws.{bits_from_subnet}
use Rattle.ipnet.specs.declared.parser.Grammar.{Grammar}
use Rattle.ipnet.specs.declared.parser.Grammar.TheVariants.{Strict}
use Rattle.ipnet.specs.AddressTexts.{IsIpv4AddressText, IsIpv6AddressText, IsGroups, EndsInIpv4}
use Rattle.ipnet.specs.Numerals.{IsDecimal}
use Rattle.ipnet.specs.NetworkTexts.{IsNetworkText}
use Rattle.ipnet.proofs.Ipv4Texts.{Dots-from}
use Rattle.ipnet_sets.specs.SetRanges.{IsInRange}
use Rattle.ipnet_lists.specs.Entries.{IsAddressText, IsEntryText, IsPlainEntry, IsNetworkOrMasked, IsMaskedText}
use Rattle.ipnet_lists.specs.Entries.{block_range}
use Rattle.ipnet_lists.proofs.PlainLines.{plain_contents}
use Rattle.ipnet_lists.proofs.AddressBytes.{IsAddressByte, IsPlainByte, decimal_bytes, middle, one_back}
use Rattle.ipnet_lists.proofs.EntryTexts.{address_bytes, cut_no_address, network_cut}
use Rattle.ipnet_lists.proofs.RangeCovers.{whole_block}
use Rattle.netset_entries.specs.NoteSteps.{AreSigns, EndsInLength, HasLength, byte_sign, family_if}
use Rattle.netset_entries.specs.declared.plain.Signs.{Signs}

-- ---- the signs of the bytes so far

pub record AreSeen (text : List ℕ) (i : ℕ) (is_plain has_colon has_slash : Bool) : Type 0 where
  pub plain : is_plain ≡ true → All IsPlainByte (take i text)
  pub no_dash : is_plain ≡ true → All (λ b. b ≢ 45) (take i text)
  pub colon : has_colon ≡ true → ¬ (All (λ b. b ≢ 58) (take i text))
  pub no_colon : has_colon ≡ false → All (λ b. b ≢ 58) (take i text)
  pub no_slash : has_slash ≡ false → All (λ b. b ≢ 47) (take i text)

pub seen_none : (text : List ℕ) (is_plain : Bool) → AreSeen text 0 is_plain false false
seen_none text is_plain = record {
  plain = λ e. All-nil IsPlainByte;
  no_dash = λ e. All-nil (λ b. b ≢ 45);
  colon = λ e. let clash : false ≡ true = e in absurd cc;
  no_colon = λ e. All-nil (λ b. b ≢ 58);
  no_slash = λ e. All-nil (λ b. b ≢ 47);
}

-- what one byte more says
record IsByteSeen (b : ℕ) (plain colon slash new_plain new_colon new_slash : Bool) : Type 0 where
  before : new_plain ≡ true → plain ≡ true
  is_plain : new_plain ≡ true → IsPlainByte b
  no_dash : new_plain ≡ true → b ≢ 45
  some_colon : new_colon ≡ true → (colon ≡ true) ⊎ (b ≡ 58)
  no_colon : new_colon ≡ false → (colon ≡ false) × (b ≢ 58)
  no_slash : new_slash ≡ false → (slash ≡ false) × (b ≢ 47)

seen_more : (text : List ℕ) (i : ℕ) (plain colon slash new_plain new_colon new_slash : Bool) → i < length text
    → IsByteSeen (get_or text i 0) plain colon slash new_plain new_colon new_slash
    → AreSeen text i plain colon slash → AreSeen text (i + 1) new_plain new_colon new_slash
seen_more text i plain colon slash new_plain new_colon new_slash less byte h = record {
  plain = λ e. more IsPlainByte (h.plain (byte.before e)) (byte.is_plain e);
  no_dash = λ e. more (λ z. z ≢ 45) (h.no_dash (byte.before e)) (byte.no_dash e);
  colon = λ e all.
      let parts = All-pop (λ z. z ≢ 58) (take i text ++ get_or text i 0 ∷ []) (take i text) (Some (get_or text i 0))
      refl (subst (All (λ z. z ≢ 58)) (take_more text i 0 less) all) in
      elim (byte.some_colon e) [ inl before ↦ h.colon before parts.0 | inr here ↦ parts.1 here ];
  no_colon = λ e. more (λ z. z ≢ 58) (h.no_colon (byte.no_colon e).0) (byte.no_colon e).1;
  no_slash = λ e. more (λ z. z ≢ 47) (h.no_slash (byte.no_slash e).0) (byte.no_slash e).1;
}
  where
    more : (P : ℕ → Type 0) → All P (take i text) → P (get_or text i 0) → All P (take (i + 1) text)
    more P before is = All-more P text i 0 less before is

-- ---- the sign of a byte

-- a dot or a hexadecimal digit
abbrev is_plain_byte : ℕ → Bool
is_plain_byte b = (b == 46) || nat_lt (digit_value b) 16

plain_high : (b : ℕ) → is_plain_byte b ≡ true → 46 ≤ b
plain_high b e = grind (arith, nat_tests, e)

plain_other : (b : ℕ) → is_plain_byte b ≡ true → b ≢ 59
plain_other b e is = grind (arith, nat_tests, e, is)

blank_low : (b : ℕ) → is_ascii_whitespace b ≡ true → b ≤ 32
blank_low b e = grind (arith, nat_tests, e)

plain_byte : (b : ℕ) → 46 ≤ b → b ≢ 59 → IsPlainByte b
plain_byte b high other = record {
  no_blank = by (is_ascii_whitespace b) refl;
  no_hash = λ e. omega (arith, high, e);
  no_semicolon = other;
}
  where
    by : (r : Bool) → is_ascii_whitespace b ≡ r → is_ascii_whitespace b ≡ false
    by false e = e
    by true e = absurd (omega (arith, high, blank_low b e))

-- whether the signs lack one
abbrev pub lacks : ℕ → ℕ → Bool
lacks signs sign = bit_and signs sign == 0

-- a sign that is added, and one that is not
added : (signs sign : ℕ) → (sign == 0) ≡ false → lacks (bit_or signs sign) sign ≡ false
added signs sign some = ap (λ z. z == 0) (and_or_self sign signs) ∙ some

kept : (signs sign other : ℕ) → bit_and other sign ≡ 0 → lacks (bit_or signs other) sign ≡ lacks signs sign
kept signs sign other apart = ap (λ z. z == 0) (and_or_apart sign signs other apart)

-- the signs of the bytes so far
abbrev pub HaveSigns : List ℕ → ℕ → ℕ → Type 0
HaveSigns text i seen = AreSeen text i (lacks seen 1) (not (lacks seen 2)) (not (lacks seen 4))

abbrev IsSeenWith : ℕ → ℕ → ℕ → Type 0
IsSeenWith b seen new =
    IsByteSeen b (lacks seen 1) (not (lacks seen 2)) (not (lacks seen 4)) (lacks new 1) (not (lacks new 2))
    (not (lacks new 4))

clash : (x : Bool) → x ≡ true → x ≡ false → ⊥
clash x e h = let c : true ≡ false = sym e ∙ h in absurd cc

not_false : (x : Bool) → not x ≡ false → x ≡ true
not_false true e = refl
not_false false e = let c : true ≡ false = e in absurd cc

colon_seen : (seen : ℕ) → IsSeenWith 58 seen (bit_or seen 2)
colon_seen seen = record {
  before = λ e. sym (kept seen 1 2 refl) ∙ e;
  is_plain = λ e. plain_byte 58 (omega arith) (λ e. omega (arith, e));
  no_dash = λ e is. omega (arith, is);
  some_colon = λ e. inr refl;
  no_colon = λ e. absurd (clash (lacks (bit_or seen 2) 2) (not_false (lacks (bit_or seen 2) 2) e) (added seen 2 refl));
  no_slash = λ e. (ap not (sym (kept seen 4 2 refl)) ∙ e, λ is. omega (arith, is));
}

slash_seen : (seen : ℕ) → IsSeenWith 47 seen (bit_or seen 4)
slash_seen seen = record {
  before = λ e. sym (kept seen 1 4 refl) ∙ e;
  is_plain = λ e. plain_byte 47 (omega arith) (λ e. omega (arith, e));
  no_dash = λ e is. omega (arith, is);
  some_colon = λ e. inl (ap not (sym (kept seen 2 4 refl)) ∙ e);
  no_colon = λ e. (ap not (sym (kept seen 2 4 refl)) ∙ e, λ is. omega (arith, is));
  no_slash = λ e. absurd (clash (lacks (bit_or seen 4) 4) (not_false (lacks (bit_or seen 4) 4) e) (added seen 4 refl));
}

digit_seen : (b seen : ℕ) → is_plain_byte b ≡ true → b ≢ 58 → b ≢ 47 → IsSeenWith b seen (bit_or seen 0)
digit_seen b seen plain no_colon no_slash = record {
  before = λ e. sym (kept seen 1 0 refl) ∙ e;
  is_plain = λ e. plain_byte b (plain_high b plain) (plain_other b plain);
  no_dash = λ e is. omega (arith, is, plain_high b plain);
  some_colon = λ e. inl (ap not (sym (kept seen 2 0 refl)) ∙ e);
  no_colon = λ e. (ap not (sym (kept seen 2 0 refl)) ∙ e, no_colon);
  no_slash = λ e. (ap not (sym (kept seen 4 0 refl)) ∙ e, no_slash);
}

other_seen : (b seen : ℕ) → b ≢ 58 → b ≢ 47 → IsSeenWith b seen (bit_or seen 1)
other_seen b seen no_colon no_slash = record {
  before = λ e. absurd (clash (lacks (bit_or seen 1) 1) e (added seen 1 refl));
  is_plain = λ e. absurd (clash (lacks (bit_or seen 1) 1) e (added seen 1 refl));
  no_dash = λ e is. absurd (clash (lacks (bit_or seen 1) 1) e (added seen 1 refl));
  some_colon = λ e. inl (ap not (sym (kept seen 2 1 refl)) ∙ e);
  no_colon = λ e. (ap not (sym (kept seen 2 1 refl)) ∙ e, no_colon);
  no_slash = λ e. (ap not (sym (kept seen 4 1 refl)) ∙ e, no_slash);
}

byte_seen : (b seen : ℕ) → IsSeenWith b seen (bit_or seen (byte_sign b))
byte_seen b seen = elim (cases_eq b 58) [
  | inl colon ↦ subst (λ z. IsSeenWith z seen (bit_or seen (byte_sign z))) (sym colon) (colon_seen seen)
  | inr no_colon ↦ elim (cases_eq b 47) [
    | inl slash ↦ subst (λ z. IsSeenWith z seen (bit_or seen (byte_sign z))) (sym slash) (slash_seen seen)
    | inr no_slash ↦ of no_colon no_slash (is_plain_byte b) refl
  ]
]
  where
    sign : b ≢ 58 → b ≢ 47 → byte_sign b ≡ cond (is_plain_byte b) 0 1
    sign no_colon no_slash = rw (ne_eqb b 58 no_colon, ne_eqb b 47 no_slash)

    of : b ≢ 58 → b ≢ 47 → (plain : Bool) → is_plain_byte b ≡ plain → IsSeenWith b seen (bit_or seen (byte_sign b))
    of no_colon no_slash true e =
        subst (λ z. IsSeenWith b seen (bit_or seen z))
        (sym (sign no_colon no_slash ∙ ap (λ z. cond z 0 1) e))
        (digit_seen b seen e no_colon no_slash)
    of no_colon no_slash false e =
        subst (λ z. IsSeenWith b seen (bit_or seen z))
        (sym (sign no_colon no_slash ∙ ap (λ z. cond z 0 1) e))
        (other_seen b seen no_colon no_slash)

pub sign_seen : (text : List ℕ) (i seen sign : ℕ) → i < length text → sign ≡ byte_sign (get_or text i 0)
    → HaveSigns text i seen → HaveSigns text (i + 1) (bit_or seen sign)
sign_seen text i seen sign less is h =
    seen_more text i _ _ _ _ _ _ less
    (subst (λ z. IsSeenWith (get_or text i 0) seen (bit_or seen z)) (sym is) (byte_seen (get_or text i 0) seen)) h

pub seen_all : (text : List ℕ) (i : ℕ) (is_plain : Bool) (s : Signs) → length text ≤ i → is_plain ≡ true
    → AreSeen text i is_plain s.has_colon s.has_slash → AreSigns text s
seen_all text i is_plain s past plain h =
    let whole = take_all i text past in
    record {
      contents = plain_contents text (subst (All IsPlainByte) whole (h.plain plain));
      no_dash = subst (All (λ b. b ≢ 45)) whole (h.no_dash plain);
      colon = λ e all. h.colon e (subst (All (λ b. b ≢ 58)) (sym whole) all);
      no_colon = λ e. subst (All (λ b. b ≢ 58)) whole (h.no_colon e);
      no_slash = λ e. subst (All (λ b. b ≢ 47)) whole (h.no_slash e);
    }

-- ---- a slash and a length at the end

some_digit : (a : ℕ) → 0 < digit_value a → a ≡ 48 → ⊥
some_digit a some e =
    let zero : 0 < digit_value 48 = subst (λ z. 0 < digit_value z) e some in absurd (omega (arith, zero))

three_digits : (a b c : ℕ) → digit_value a < 10 → digit_value b < 10 → digit_value c < 10 → 0 < digit_value a
    → digit_value a * 100 + digit_value b * 10 + digit_value c ≤ 128
    → IsDecimal Strict 3 128 (a ∷ b ∷ c ∷ []) (digit_value a * 100 + digit_value b * 10 + digit_value c)
three_digits a b c less other last some small = record {
  digits = (omega arith, (less, (other, (last, tt))));
  value = omega arith;
  short = omega arith;
  small = small;
  plain = λ s e. absurd (some_digit a some e);
}

at : (text : List ℕ) (i j : ℕ) → i + 1 ≡ j → i < length text → drop i text ≡ get_or text i 0 ∷ drop j text
at text i j next less = drop_more text i 0 less ∙ ap (λ z. get_or text i 0 ∷ drop z text) next

-- three digits after a slash at the end
module _ (text : List ℕ) (i j k l : ℕ) (long : l + 1 ≡ length text) (third : k + 1 ≡ l) (second : j + 1 ≡ k)
    (first : i + 1 ≡ j)
  where
    abbrev three : List ℕ
    three = get_or text j 0 ∷ get_or text k 0 ∷ get_or text l 0 ∷ []

    cut : drop i text ≡ get_or text i 0 ∷ three
    cut =
        at text i j first (omega (arith, first, second, third, long))
        ∙ ap (λ z. get_or text i 0 ∷ z) (at text j k second (omega (arith, second, third, long))
        ∙ ap (λ z. get_or text j 0 ∷ z) (at text k l third (omega (arith, third, long))
        ∙ ap (λ z. get_or text k 0 ∷ z) (at text l (length text) long (omega (arith, long))
        ∙ ap (λ z. get_or text l 0 ∷ z) (drop_all (length text) text (omega arith)))))

    pub ends_in_three : (a b c : ℕ) → get_or text i 0 ≡ 47 → a ≡ digit_value (get_or text j 0)
        → b ≡ digit_value (get_or text k 0) → c ≡ digit_value (get_or text l 0) → a < 10 → b < 10 → c < 10 → 0 < a
        → a * 100 + b * 10 + c ≤ 128 → EndsInLength text (a * 100 + b * 10 + c)
    ends_in_three a b c slash is_a is_b is_c less other last some small = record {
      front = take i text;
      digits = three;
      spelled = sym (take-append-drop i text) ∙ ap (λ z. take i text ++ z) (cut ∙ ap (λ z. z ∷ three) slash);
      writes = subst (IsDecimal Strict 3 128 three) (omega (arith, is_a, is_b, is_c))
          (three_digits (get_or text j 0) (get_or text k 0) (get_or text l 0) (omega (arith, is_a, less))
          (omega (arith, is_b, other)) (omega (arith, is_c, last)) (omega (arith, is_a, some))
          (omega (arith, is_a, is_b, is_c, small)));
    }

-- ---- colons

digits_lack : (c : ℕ) → ¬ (digit_value c < 10) → (ds : List ℕ) → AllDigits 10 ds → All (λ b. b ≢ c) ds
digits_lack c not [] h = All-nil (λ b. b ≢ c)
digits_lack c not (d ∷ ds) h =
    All-cons (λ b. b ≢ c) d ds (λ e. not (subst (λ z. digit_value z < 10) e h.0)) (digits_lack c not ds h.1)

digits_no_colon : (ds : List ℕ) → AllDigits 10 ds → All (λ b. b ≢ 58) ds
digits_no_colon ds h = digits_lack 58 (λ less. grind (arith, nat_tests, less)) ds h

no_colon_in : (front : List ℕ) (b : ℕ) (back : List ℕ) → All (λ z. z ≢ 58) front → b ≢ 58 → All (λ z. z ≢ 58) back
    → All (λ z. z ≢ 58) (front ++ b ∷ back)
no_colon_in front b back h is k =
    All-append (λ z. z ≢ 58) front (b ∷ back) h (All-cons (λ z. z ≢ 58) b back is k)

ipv4_no_colon : (grammar : Grammar) (text octets : List ℕ) → IsIpv4AddressText grammar text octets
    → All (λ b. b ≢ 58) text
ipv4_no_colon grammar text octets h =
    let d = Dots-from grammar text octets h in
    let dot : 46 ≢ 58 = λ e. omega (arith, e) in
    subst (All (λ b. b ≢ 58)) (sym d.spelled)
    (no_colon_in d.t₁ 46 _ (digits_no_colon d.t₁ d.is_a.digits.1) dot
    (no_colon_in d.t₂ 46 _ (digits_no_colon d.t₂ d.is_b.digits.1) dot
    (no_colon_in d.t₃ 46 _ (digits_no_colon d.t₃ d.is_c.digits.1) dot
    (digits_no_colon d.t₄ d.is_d.digits.1))))

colon_within : (text front back : List ℕ) → text ≡ front ++ 58 ∷ back → ¬ (All (λ b. b ≢ 58) text)
colon_within text front back e h = middle (λ b. b ≢ 58) front 58 back (subst (All (λ b. b ≢ 58)) e h) refl

groups_colon : (text groups : List ℕ) → length groups ≡ 8 → IsGroups text groups → ¬ (All (λ b. b ≢ 58) text)
groups_colon text [] eight h = absurd (omega (arith, eight))
groups_colon text (g ∷ []) eight h = absurd (omega (arith, eight))
groups_colon text (g ∷ i ∷ groups) eight h =
    colon_within text h.0 h.1 (h.2 ∙ append_assoc h.0 (58 ∷ []) h.1)

mixed_colon : (grammar : Grammar) (text groups : List ℕ) → length groups ≡ 8 → EndsInIpv4 grammar text groups
    → ¬ (All (λ b. b ≢ 58) text)
mixed_colon grammar text [] eight h = absurd h
mixed_colon grammar text (g ∷ []) eight h = absurd h
mixed_colon grammar text (g ∷ i ∷ []) eight h = absurd (omega (arith, eight))
mixed_colon grammar text (g ∷ i ∷ j ∷ groups) eight h =
    colon_within text h.0 h.1 (h.2 ∙ append_assoc h.0 (58 ∷ []) h.1)

ipv6_colon : (grammar : Grammar) (text groups : List ℕ) → IsIpv6AddressText grammar text groups
    → ¬ (All (λ b. b ≢ 58) text)
ipv6_colon grammar text groups (inl h) = groups_colon text groups h.0 h.1
ipv6_colon grammar text groups (inr (inl h)) = mixed_colon grammar text groups h.0 h.1
ipv6_colon grammar text groups (inr (inr h)) =
    colon_within text h.head_text (58 ∷ h.tail_text)
    (h.spelled ∙ append_assoc h.head_text (58 ∷ 58 ∷ []) h.tail_text)

all_front : (P : ℕ → Type 0) (front back : List ℕ) → All P (front ++ back) → All P front
all_front P [] back h = All-nil P
all_front P (b ∷ front) back h =
    All-cons P b front (All-head P b (front ++ back) h) (all_front P front back (All-tail P b (front ++ back) h))

-- ---- the family and the length of an entry

-- what lies in a network is not larger
block_len : (m n : Network) → m.prefix_len ≤ width m.family → IsMaximal (IsInRange (block_range m)) 0 n
    → (n.family ≡ m.family) × (m.prefix_len ≤ n.prefix_len)
block_len m n fits h =
    let sub : IsSubnetOf n m = λ x k. block_from_between m x (h.inside.within x k) in
    let same : n.family ≡ m.family = (sub (own n) (own_in n)).same_family in
    (same, omega (arith, bits_from_subnet n m sub, ap width same, h.inside.network.prefix_fits, fits))

module _ (text : List ℕ) (s : Signs) (h : AreSigns text s) where
  of_ipv4 : All (λ b. b ≢ 58) text → family_if s.has_colon ≡ IPv4
  of_ipv4 none = of s.has_colon refl
    where
      of : (has : Bool) → s.has_colon ≡ has → family_if has ≡ IPv4
      of true e = absurd (h.colon e none)
      of false e = refl

  of_ipv6 : ¬ (All (λ b. b ≢ 58) text) → family_if s.has_colon ≡ IPv6
  of_ipv6 some = of s.has_colon refl
    where
      of : (has : Bool) → s.has_colon ≡ has → family_if has ≡ IPv6
      of true e = refl
      of false e = absurd (some (h.no_colon e))

  address_family : (grammar : Grammar) (x : Address) → IsAddressText grammar text x
      → family_if s.has_colon ≡ x.family
  address_family grammar x (inl k) = of_ipv4 (ipv4_no_colon grammar text k.octets k.writes) ∙ sym k.family
  address_family grammar x (inr k) = of_ipv6 (ipv6_colon grammar text k.groups k.writes) ∙ sym k.family

  -- it is not a range
  as_plain : (grammar : Grammar) (range : AddressRange) → IsEntryText grammar text range
      → IsPlainEntry grammar text range
  as_plain grammar range (inl k) = k
  as_plain grammar range (inr k) =
      absurd (middle (λ b. b ≢ 45) k.first_text 45 k.last_text
      (subst (All (λ b. b ≢ 45)) (k.spelled ∙ append_assoc k.first_text (45 ∷ []) k.last_text) h.no_dash) refl)

  -- without a slash it is an address
  no_slash : (b : Bool) → not b ≡ true → b ≡ false
  no_slash true e = let clash : false ≡ true = e in absurd cc
  no_slash false e = refl

  pub address_len : not s.has_slash ≡ true
      → HasLength text (family_if s.has_colon) (width (family_if s.has_colon))
  address_len none grammar range writes n block = of (as_plain grammar range writes)
    where
      of : IsPlainEntry grammar text range
          → (n.family ≡ family_if s.has_colon) × (width (family_if s.has_colon) ≤ n.prefix_len)
      of (inl k) =
          let cut = network_cut grammar text k.network k.writes in
          absurd (middle (λ b. b ≢ 47) cut.front 47 cut.back
          (subst (All (λ b. b ≢ 47)) cut.spelled (h.no_slash (no_slash s.has_slash none))) refl)
      of (inr k) =
          let x = k.address in
          let family = address_family grammar x k.writes in
          let m : Network = record { family = x.family; number = x.number; prefix_len = width x.family } in
          let is = block_len m n (omega arith)
          (subst (λ r. IsMaximal (IsInRange r) 0 n) (k.is ∙ sym (whole_block x.family x.number)) block) in
          (is.0 ∙ sym family, omega (arith, is.1, ap width family))

  -- with a length it is a network
  module _ (len : ℕ) (e : EndsInLength text len) where
    same_digits : (front digits : List ℕ) → text ≡ front ++ 47 ∷ digits → All IsAddressByte digits
        → e.digits ≡ digits
    same_digits front digits spelled bytes =
        (one_back IsAddressByte 47 (λ k. k.no_slash refl) e.front e.digits front digits (sym e.spelled ∙ spelled)
        (decimal_bytes e.digits e.writes.digits.1) bytes).1

    of_network : (grammar : Grammar) (m n : Network) → IsNetworkText grammar text m
        → IsMaximal (IsInRange (block_range m)) 0 n → (n.family ≡ family_if s.has_colon) × (len ≤ n.prefix_len)
    of_network grammar m n (inl k) block =
        let spelled = k.spelled ∙ append_assoc k.address_text (47 ∷ []) k.length_text in
        let digits = same_digits k.address_text k.length_text spelled
        (decimal_bytes k.length_text k.writes_length.digits.1) in
        let value : len ≡ m.prefix_len =
        sym e.writes.value ∙ ap (digits_value 10) digits ∙ k.writes_length.value in
        let family = of_ipv4 (subst (All (λ b. b ≢ 58)) (sym spelled)
        (no_colon_in k.address_text 47 k.length_text (ipv4_no_colon grammar k.address_text k.octets k.writes_address)
        (λ z. omega (arith, z)) (digits_no_colon k.length_text k.writes_length.digits.1))) in
        let is = block_len m n (omega (arith, k.writes_length.small, ap width k.family)) block in
        (is.0 ∙ k.family ∙ sym family, omega (arith, is.1, value))
    of_network grammar m n (inr k) block =
        let spelled = k.spelled ∙ append_assoc k.address_text (47 ∷ []) k.length_text in
        let digits = same_digits k.address_text k.length_text spelled
        (decimal_bytes k.length_text k.writes_length.digits.1) in
        let value : len ≡ m.prefix_len =
        sym e.writes.value ∙ ap (digits_value 10) digits ∙ k.writes_length.value in
        let family = of_ipv6 (λ all. ipv6_colon grammar k.address_text k.groups k.writes_address
        (all_front (λ b. b ≢ 58) k.address_text (47 ∷ k.length_text) (subst (All (λ b. b ≢ 58)) spelled all))) in
        let is = block_len m n (omega (arith, k.writes_length.small, ap width k.family)) block in
        (is.0 ∙ k.family ∙ sym family, omega (arith, is.1, value))

    -- a netmask has dots
    not_masked : (grammar : Grammar) (m : Network) → IsMaskedText grammar text m → ⊥
    not_masked grammar m k =
        let digits = same_digits k.address_text k.mask_text
        (k.spelled ∙ append_assoc k.address_text (47 ∷ []) k.mask_text)
        (address_bytes grammar k.mask_text k.parts.mask k.parts.writes_mask) in
        mask_is_no_number k.parts.writes_mask k.parts.addresses.mask_family
        (subst (AllDigits 10) digits e.writes.digits.1)
      where
        mask_is_no_number : IsAddressText grammar k.mask_text k.parts.mask → k.parts.mask.family ≡ IPv4
            → AllDigits 10 k.mask_text → ⊥
        mask_is_no_number (inl ipv4) family all =
            let d = Dots-from grammar k.mask_text ipv4.octets ipv4.writes in
            middle (λ b. b ≢ 46) d.t₁ 46 _
            (subst (All (λ b. b ≢ 46)) d.spelled
            (digits_lack 46 (λ less. grind (arith, nat_tests, less)) k.mask_text all)) refl
        mask_is_no_number (inr ipv6) family all = absurd (let other = ipv6.family in cc)

    pub network_len : HasLength text (family_if s.has_colon) len
    network_len grammar range writes n block = of (as_plain grammar range writes)
      where
        of : IsPlainEntry grammar text range → (n.family ≡ family_if s.has_colon) × (len ≤ n.prefix_len)
        of (inl k) = network k.writes
          where
            network : IsNetworkOrMasked grammar text k.network
                → (n.family ≡ family_if s.has_colon) × (len ≤ n.prefix_len)
            network (inl is) =
                of_network grammar k.network n is (subst (λ r. IsMaximal (IsInRange r) 0 n) k.is block)
            network (inr masked) = absurd (not_masked grammar k.network masked)
        of (inr k) = absurd (cut_no_address grammar text e.front e.digits k.address e.spelled k.writes)
