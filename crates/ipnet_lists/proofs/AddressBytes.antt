-- The bytes of the texts of addresses and networks, and where such a text is cut.
use Rattle.std.proofs.Common.{◌≡◌, ◌≢◌, ℕ, ◌<◌, ◌⊎◌, List, [], ◌∷◌, ◌++◌, All, length, get_or}
use Rattle.std.proofs.Common.{refl, sym, ap, ◌∙◌, subst, arith, inl, inr, append_assoc, Bool, true, false, ◌==◌}
use Rattle.std.proofs.Common.{eq-eqb}
use Rattle.std.proofs.Common.{eqb-true, get_or-take, length-take-le, take}
use Rattle.std.specs.List.{position_or_len, before_first, after_first}
use Rattle.std.proofs.lemmas.List.Sums.{fails_before_first, passes_at_first, split_at_first}
use Rattle.std.proofs.lemmas.List.Elements.{All-nil, All-cons, All-head, All-tail, All-append, All-from_get_or}
use Rattle.std.proofs.lemmas.Bool.Decides.{nat_tests}
use Rattle.std.specs.Char.{digit_value, is_ascii_whitespace}
use Rattle.std.specs.Str.Parse.{AllDigits}
use Rattle.ipnet.specs.declared.parser.Grammar.{Grammar}
use Rattle.ipnet.specs.AddressTexts.{IsIpv4AddressText, IsIpv6AddressText, IsGroups, EndsInIpv4, IsCompressed}
use Rattle.ipnet.proofs.DigitTexts.{AllDigits_hex}
use Rattle.ipnet.proofs.Ipv4Texts.{Dots-from}

-- a byte that is not a blank, and does not begin a comment
pub record IsPlainByte (b : ℕ) : Type 0 where
  pub no_blank : is_ascii_whitespace b ≡ false
  pub no_hash : b ≢ 35
  pub no_semicolon : b ≢ 59

-- a plain byte of ASCII that is not "-", "/", a quotation mark or a comma
pub record IsAddressByte (b : ℕ) : Type 0 where
  pub plain : IsPlainByte b
  pub ascii : b < 128
  pub no_dash : b ≢ 45
  pub no_slash : b ≢ 47
  pub no_quote : b ≢ 34
  pub no_comma : b ≢ 44

-- the digit value of a blank, and of "#" and ";", is 36
hex_plain : (b : ℕ) → digit_value b < 16 → IsPlainByte b
hex_plain b h = record {
  no_blank = by (is_ascii_whitespace b) refl;
  no_hash = λ e. grind (arith, nat_tests, h, e);
  no_semicolon = λ e. grind (arith, nat_tests, h, e);
}
  where
    by : (r : Bool) → is_ascii_whitespace b ≡ r → is_ascii_whitespace b ≡ false
    by false e = e
    by true e = absurd (grind (arith, nat_tests, h, e))

hex_byte : (b : ℕ) → digit_value b < 16 → IsAddressByte b
hex_byte b h = record {
  plain = hex_plain b h;
  ascii = grind (arith, nat_tests, h);
  no_dash = λ e. grind (arith, nat_tests, h, e);
  no_slash = λ e. grind (arith, nat_tests, h, e);
  no_quote = λ e. grind (arith, nat_tests, h, e);
  no_comma = λ e. grind (arith, nat_tests, h, e);
}

hex_bytes : (ds : List ℕ) → AllDigits 16 ds → All IsAddressByte ds
hex_bytes [] h = All-nil IsAddressByte
hex_bytes (d ∷ ds) h = All-cons IsAddressByte d ds (hex_byte d h.0) (hex_bytes ds h.1)

pub decimal_bytes : (ds : List ℕ) → AllDigits 10 ds → All IsAddressByte ds
decimal_bytes ds h = hex_bytes ds (AllDigits_hex ds h)

plain_dot : IsPlainByte 46
plain_dot = record { no_blank = refl; no_hash = λ e. omega (arith, e); no_semicolon = λ e. omega (arith, e) }

plain_colon : IsPlainByte 58
plain_colon = record { no_blank = refl; no_hash = λ e. omega (arith, e); no_semicolon = λ e. omega (arith, e) }

dot : IsAddressByte 46
dot = record {
  plain = plain_dot;
  ascii = omega arith;
  no_dash = λ e. omega (arith, e);
  no_slash = λ e. omega (arith, e);
  no_quote = λ e. omega (arith, e);
  no_comma = λ e. omega (arith, e);
}

colon : IsAddressByte 58
colon = record {
  plain = plain_colon;
  ascii = omega arith;
  no_dash = λ e. omega (arith, e);
  no_slash = λ e. omega (arith, e);
  no_quote = λ e. omega (arith, e);
  no_comma = λ e. omega (arith, e);
}

-- a part, one byte and the rest
joined : (front : List ℕ) (b : ℕ) (back : List ℕ) → All IsAddressByte front → IsAddressByte b → All IsAddressByte back
    → All IsAddressByte (front ++ b ∷ back)
joined front b back h is k = All-append IsAddressByte front (b ∷ back) h (All-cons IsAddressByte b back is k)

pub ipv4_bytes : (grammar : Grammar) (text octets : List ℕ) → IsIpv4AddressText grammar text octets
    → All IsAddressByte text
ipv4_bytes grammar text octets h =
    let dots = Dots-from grammar text octets h in
    subst (All IsAddressByte) (sym dots.spelled)
    (joined dots.t₁ 46 _ (decimal_bytes dots.t₁ dots.is_a.digits.1) dot
    (joined dots.t₂ 46 _ (decimal_bytes dots.t₂ dots.is_b.digits.1) dot
    (joined dots.t₃ 46 _ (decimal_bytes dots.t₃ dots.is_c.digits.1) dot
    (decimal_bytes dots.t₄ dots.is_d.digits.1))))

-- a part, ":" and the rest
after_colon : (text first rest : List ℕ) → text ≡ first ++ (58 ∷ []) ++ rest → All IsAddressByte first
    → All IsAddressByte rest → All IsAddressByte text
after_colon text first rest e h k =
    subst (All IsAddressByte) (sym (e ∙ append_assoc first (58 ∷ []) rest)) (joined first 58 rest h colon k)

groups_bytes : (text groups : List ℕ) → IsGroups text groups → All IsAddressByte text
groups_bytes text [] h = subst (All IsAddressByte) (sym h) (All-nil IsAddressByte)
groups_bytes text (g ∷ []) h = hex_bytes text h.digits.1
groups_bytes text (g ∷ i ∷ groups) h =
    after_colon text h.0 h.1 h.2 (hex_bytes h.0 h.3.digits.1) (groups_bytes h.1 (i ∷ groups) h.4)

mixed_bytes : (grammar : Grammar) (text groups : List ℕ) → EndsInIpv4 grammar text groups → All IsAddressByte text
mixed_bytes grammar text [] h = absurd h
mixed_bytes grammar text (g ∷ []) h = absurd h
mixed_bytes grammar text (g ∷ i ∷ []) h = ipv4_bytes grammar text h.0 h.1
mixed_bytes grammar text (g ∷ i ∷ j ∷ groups) h =
    after_colon text h.0 h.1 h.2 (hex_bytes h.0 h.3.digits.1) (mixed_bytes grammar h.1 (i ∷ j ∷ groups) h.4)

compressed_bytes : (grammar : Grammar) (text groups : List ℕ) → IsCompressed grammar text groups
    → All IsAddressByte text
compressed_bytes grammar text groups h =
    subst (All IsAddressByte) (sym (h.spelled ∙ append_assoc h.head_text (58 ∷ 58 ∷ []) h.tail_text))
    (joined h.head_text 58 (58 ∷ h.tail_text) (groups_bytes h.head_text h.head h.head_groups) colon
    (All-cons IsAddressByte 58 h.tail_text colon (tail h.tail_groups)))
  where
    tail : IsGroups h.tail_text h.tail ⊎ EndsInIpv4 grammar h.tail_text h.tail → All IsAddressByte h.tail_text
    tail (inl k) = groups_bytes h.tail_text h.tail k
    tail (inr k) = mixed_bytes grammar h.tail_text h.tail k

pub ipv6_bytes : (grammar : Grammar) (text groups : List ℕ) → IsIpv6AddressText grammar text groups
    → All IsAddressByte text
ipv6_bytes grammar text groups (inl h) = groups_bytes text groups h.1
ipv6_bytes grammar text groups (inr (inl h)) = mixed_bytes grammar text groups h.1
ipv6_bytes grammar text groups (inr (inr h)) = compressed_bytes grammar text groups h

-- ---- cuts

-- the byte between two parts
pub middle : (P : ℕ → Type 0) (front : List ℕ) (b : ℕ) (back : List ℕ) → All P (front ++ b ∷ back) → P b
middle P [] b back h = All-head P b back h
middle P (a ∷ front) b back h = middle P front b back (All-tail P a (front ++ b ∷ back) h)

-- a text that is cut at a byte which the fronts lack is cut there alone
pub one_front : (P : ℕ → Type 0) (b : ℕ) → ¬ (P b) → (front back front' back' : List ℕ)
    → front ++ b ∷ back ≡ front' ++ b ∷ back' → All P front → All P front' → (front ≡ front') × (back ≡ back')
one_front P b not [] back [] back' e h k = (refl, cc)
one_front P b not [] back (a ∷ front') back' e h k =
    let same : b ≡ a = cc in
    absurd (not (subst P (sym same) (All-head P a front' k)))
one_front P b not (a ∷ front) back [] back' e h k =
    let same : a ≡ b = cc in
    absurd (not (subst P same (All-head P a front h)))
one_front P b not (a ∷ front) back (a' ∷ front') back' e h k =
    let first : a ≡ a' = cc in
    let rest : front ++ b ∷ back ≡ front' ++ b ∷ back' = cc in
    let later = one_front P b not front back front' back' rest (All-tail P a front h) (All-tail P a' front' k) in
    (cc, later.1)

-- and so is one cut at a byte which the backs lack
pub one_back : (P : ℕ → Type 0) (b : ℕ) → ¬ (P b) → (front back front' back' : List ℕ)
    → front ++ b ∷ back ≡ front' ++ b ∷ back' → All P back → All P back' → (front ≡ front') × (back ≡ back')
one_back P b not [] back [] back' e h k = (refl, cc)
one_back P b not [] back (a ∷ front') back' e h k =
    let rest : back ≡ front' ++ b ∷ back' = cc in
    absurd (not (middle P front' b back' (subst (All P) rest h)))
one_back P b not (a ∷ front) back [] back' e h k =
    let rest : front ++ b ∷ back ≡ back' = cc in
    absurd (not (middle P front b back (subst (All P) (sym rest) k)))
one_back P b not (a ∷ front) back (a' ∷ front') back' e h k =
    let first : a ≡ a' = cc in
    let rest : front ++ b ∷ back ≡ front' ++ b ∷ back' = cc in
    let later = one_back P b not front back front' back' rest h k in
    (cc, later.1)

-- ---- the first place of a byte

-- no byte before the first c is c
lacks_before : (c : ℕ) (text : List ℕ) (k : ℕ) → k < position_or_len (λ b. b == c) text → get_or text k 0 ≢ c
lacks_before c text k less e =
    let clash : true ≡ false =
    sym (eq-eqb (get_or text k 0) c e) ∙ fails_before_first (λ b. b == c) text k 0 less in
    absurd cc

pub all_lack : (c : ℕ) (text : List ℕ) → position_or_len (λ b. b == c) text ≡ length text → All (λ b. b ≢ c) text
all_lack c text none =
    All-from_get_or (λ b. b ≢ c) text 0 (λ i less. lacks_before c text i (omega (arith, none)))

pub front_lacks : (c : ℕ) (text : List ℕ) → position_or_len (λ b. b == c) text < length text
    → All (λ b. b ≢ c) (before_first (λ b. b == c) text)
front_lacks c text within =
    let n = position_or_len (λ b. b == c) text in
    let len : length (take n text) ≡ n = length-take-le n text (omega arith) in
    All-from_get_or (λ b. b ≢ c) (take n text) 0
    (λ i less. let below : i < n = omega (arith, len) in
    λ e. lacks_before c text i below (sym (get_or-take n text i 0 below) ∙ e))

-- the text is what stands before it, c, and what stands after
pub cut_at : (c : ℕ) (text : List ℕ) → position_or_len (λ b. b == c) text < length text
    → text ≡ before_first (λ b. b == c) text ++ c ∷ after_first (λ b. b == c) text
cut_at c text within =
    let n = position_or_len (λ b. b == c) text in
    let found : get_or text n 0 ≡ c = eqb-true (get_or text n 0) c (passes_at_first (λ b. b == c) text 0 within) in
    split_at_first (λ b. b == c) text 0 within
    ∙ ap (λ b. before_first (λ b. b == c) text ++ b ∷ after_first (λ b. b == c) text) found
