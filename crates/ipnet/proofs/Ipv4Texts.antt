-- `read_octet`, `read_dotted`, `read_prefix_len` and `read_ipv4_network` read their part of the grammar, and nothing
-- else.
use Rattle.std.proofs.Common.{◌≡◌, ℕ, ◌≤◌, true, ◌==◌, List, [], ◌∷◌, ◌++◌, length, Some, refl, sym, ap, ◌∙◌, subst}
use Rattle.std.proofs.Common.{arith, append_assoc, append-nil, lit≤, le-leb, eqb-true}
use Rattle.std.proofs.lemmas.Bool.{and_parts, leb-true}
use Rattle.std.proofs.lemmas.Option.{cond_some, option_and_then_some, some_pair_parts}
use Rattle.std.proofs.NetLemmas.Numbers.{NoDigit}
use Rattle.std.proofs.NetLemmas.Ipv4.{read_byte_sound}
use Rattle.ipnet.specs.declared.parser.Grammar.{Grammar}
use Rattle.ipnet.specs.Numerals.{IsDecimal, IsOctet}
use Rattle.ipnet.specs.AddressTexts.{IsIpv4AddressText}
use Rattle.std.specs.Int.{w32, from_be_bytes}
use Rattle.ipnet_base.specs.Network.{Network}
use Rattle.ipnet.specs.NetworkOf.{ipv4_network_of}
use Rattle.ipnet.specs.NetworkTexts.{IsIpv4NetworkText}
use Rattle.ipnet.specs.ReaderSteps.{read_byte, decimal_run, hex_run, decimal_of, octet_at, read_octet, read_dotted}
use Rattle.ipnet.specs.ReaderSteps.{read_prefix_len, read_ipv4_network}
use Rattle.ipnet.proofs.DigitTexts.{AllDigits_hex, digit_run-append, digit_run_sound, decimal_of_complete}
use Rattle.ipnet.proofs.DigitTexts.{decimal_of_sound}

-- the runs at the front of an octet that a byte other than a digit follows
pub octet_run : (grammar : Grammar) (ds : List ℕ) (n : ℕ) (rest : List ℕ) → IsOctet grammar ds n → NoDigit 16 rest
    → decimal_run (ds ++ rest) ≡ (ds, rest)
octet_run grammar ds n rest h stop =
    let decimal_stop : NoDigit 10 rest = omega (arith, stop) in
    digit_run-append 10 3 ds rest h.digits.1 h.short decimal_stop

pub octet_hex_run : (grammar : Grammar) (ds : List ℕ) (n : ℕ) (rest : List ℕ) → IsOctet grammar ds n → NoDigit 16 rest
    → hex_run (ds ++ rest) ≡ (ds, rest)
octet_hex_run grammar ds n rest h stop =
    digit_run-append 16 4 ds rest (AllDigits_hex ds h.digits.1) (omega (arith, h.short)) stop

octet_at_complete : (grammar : Grammar) (ds : List ℕ) (n : ℕ) (rest : List ℕ) → IsOctet grammar ds n → NoDigit 16 rest
    → octet_at grammar (ds ++ rest) ≡ Some (n, rest)
unfolding octet_at
octet_at_complete grammar ds n rest h stop =
    rw (octet_run grammar ds n rest h stop, decimal_of_complete grammar ds n h)

read_octet_complete : (grammar : Grammar) (ds : List ℕ) (n : ℕ) (rest : List ℕ) → IsOctet grammar ds n → NoDigit 16 rest
    → read_octet grammar (46 ∷ (ds ++ rest)) ≡ Some (n, rest)
unfolding read_octet
read_octet_complete grammar ds n rest h stop = octet_at_complete grammar ds n rest h stop

octet_at_sound : (grammar : Grammar) (text : List ℕ) (n : ℕ) (rest : List ℕ) → octet_at grammar text ≡ Some (n, rest)
    → (ds : List ℕ) × (text ≡ ds ++ rest) × IsOctet grammar ds n
unfolding octet_at
octet_at_sound grammar text n rest e =
    option_and_then_some _ (decimal_of grammar (decimal_run text).0) _ e λ o octet e₁.
    let (value_is, rest_is) = some_pair_parts o n (decimal_run text).1 rest e₁ in
    let run = digit_run_sound 10 3 text in (
      (decimal_run text).0,
      run.spelled ∙ ap (λ t. (decimal_run text).0 ++ t) rest_is,
      rw value_is at (decimal_of_sound grammar _ o octet),
    )

read_octet_sound : (grammar : Grammar) (text : List ℕ) (n : ℕ) (rest : List ℕ)
    → read_octet grammar text ≡ Some (n, rest) → (ds : List ℕ) × (text ≡ 46 ∷ (ds ++ rest)) × IsOctet grammar ds n
unfolding read_octet
read_octet_sound grammar text n rest e =
    option_and_then_some _ (read_byte 46 text) _ e λ digits dot e₁.
    let (ds, split, octet) = octet_at_sound grammar digits n rest e₁ in
    (ds, read_byte_sound 46 text digits dot ∙ ap (λ t. 46 ∷ t) split, octet)

-- a dotted address by its parts
pub record Dots (grammar : Grammar) (text octets : List ℕ) : Type 0 where
  pub t₁ : List ℕ
  pub t₂ : List ℕ
  pub t₃ : List ℕ
  pub t₄ : List ℕ
  pub a : ℕ
  pub b : ℕ
  pub c : ℕ
  pub d : ℕ
  pub is_a : IsOctet grammar t₁ a
  pub is_b : IsOctet grammar t₂ b
  pub is_c : IsOctet grammar t₃ c
  pub is_d : IsOctet grammar t₄ d
  pub value : octets ≡ a ∷ b ∷ c ∷ d ∷ []
  pub spelled : text ≡ t₁ ++ (46 ∷ (t₂ ++ (46 ∷ (t₃ ++ (46 ∷ t₄)))))

pub Dots-from : (grammar : Grammar) (text octets : List ℕ) → IsIpv4AddressText grammar text octets
    → Dots grammar text octets
Dots-from grammar text [] h = absurd (omega (arith, h.1))
Dots-from grammar text (a ∷ []) h = absurd (omega (arith, h.1))
Dots-from grammar text (a ∷ b ∷ []) h = absurd (omega (arith, h.1))
Dots-from grammar text (a ∷ b ∷ c ∷ []) h = absurd (omega (arith, h.1))
Dots-from grammar text (a ∷ b ∷ c ∷ d ∷ e ∷ more) h = absurd (omega (arith, h.1))
Dots-from grammar text (a ∷ b ∷ c ∷ d ∷ []) ((t₁, r₁, s₁, h₁, (t₂, r₂, s₂, h₂, (t₃, t₄, s₃, h₃, h₄))), four) = record {
  t₁ = t₁;
  t₂ = t₂;
  t₃ = t₃;
  t₄ = t₄;
  a = a;
  b = b;
  c = c;
  d = d;
  is_a = h₁;
  is_b = h₂;
  is_c = h₃;
  is_d = h₄;
  value = refl;
  spelled = s₁ ∙ rw (s₂, s₃) (simp append_assoc);
}

-- its text, with what follows it
pub Dots-rest : (grammar : Grammar) (text octets rest : List ℕ) (h : Dots grammar text octets)
    → text ++ rest ≡ h.t₁ ++ (46 ∷ (h.t₂ ++ (46 ∷ (h.t₃ ++ (46 ∷ (h.t₄ ++ rest))))))
Dots-rest grammar text octets rest h = rw h.spelled (simp append_assoc)

pub read_dotted_complete : (grammar : Grammar) (text octets rest : List ℕ) (h : Dots grammar text octets)
    → NoDigit 16 rest → read_dotted grammar h.a (46 ∷ (h.t₂ ++ (46 ∷ (h.t₃ ++ (46 ∷ (h.t₄ ++ rest))))))
    ≡ Some (octets, rest)
unfolding read_dotted
read_dotted_complete grammar text octets rest h stop =
    rw (
      read_octet_complete grammar h.t₂ h.b _ h.is_b (lit≤ tt),
      read_octet_complete grammar h.t₃ h.c _ h.is_c (lit≤ tt),
      read_octet_complete grammar h.t₄ h.d rest h.is_d stop,
      h.value,
    )

-- three more octets, one after the other
three_more : (x y z w t₂ t₃ t₄ rest : List ℕ) → x ≡ 46 ∷ (t₂ ++ y) → y ≡ 46 ∷ (t₃ ++ z) → z ≡ 46 ∷ (t₄ ++ w) → w ≡ rest
    → x ≡ (46 ∷ (t₂ ++ (46 ∷ (t₃ ++ (46 ∷ t₄))))) ++ rest
three_more x y z w t₂ t₃ t₄ rest s₂ s₃ s₄ same = s₂ ∙ rw (s₃, s₄, same) (simp append_assoc)

pub read_dotted_sound : (grammar : Grammar) (ds : List ℕ) (a : ℕ) (text octets rest : List ℕ)
    → IsOctet grammar ds a → read_dotted grammar a text ≡ Some (octets, rest)
    → (front : List ℕ) × (text ≡ front ++ rest) × IsIpv4AddressText grammar (ds ++ front) octets
unfolding read_dotted
read_dotted_sound grammar ds a text octets rest first e =
    option_and_then_some _ (read_octet grammar text) _ e λ b read_b e₁.
    option_and_then_some _ (read_octet grammar b.1) _ e₁ λ c read_c e₂.
    option_and_then_some _ (read_octet grammar c.1) _ e₂ λ d read_d e₃.
    let (value_is, rest_is) = some_pair_parts (a ∷ b.0 ∷ c.0 ∷ d.0 ∷ []) octets d.1 rest e₃ in
    let (t₂, s₂, is_b) = read_octet_sound grammar text b.0 b.1 read_b in
    let (t₃, s₃, is_c) = read_octet_sound grammar b.1 c.0 c.1 read_c in
    let (t₄, s₄, is_d) = read_octet_sound grammar c.1 d.0 d.1 read_d in
    let front = 46 ∷ (t₂ ++ (46 ∷ (t₃ ++ (46 ∷ t₄)))) in
    let split : text ≡ front ++ rest = three_more text b.1 c.1 d.1 t₂ t₃ t₄ rest s₂ s₃ s₄ rest_is in
    let dotted : IsIpv4AddressText grammar (ds ++ front) (a ∷ b.0 ∷ c.0 ∷ d.0 ∷ []) = (
      (
        ds,
        t₂ ++ (46 ∷ (t₃ ++ (46 ∷ t₄))),
        simp append_assoc,
        first,
        (t₂, t₃ ++ (46 ∷ t₄), simp append_assoc, is_b, (t₃, t₄, simp append_assoc, is_c, is_d)),
      ),
      refl,
    ) in
    (front, split, subst (λ o. IsIpv4AddressText grammar (ds ++ front) o) value_is dotted)

-- ---- the length, which ends the text

no_rest : (ds rest : List ℕ) → (length rest == 0) ≡ true → ds ++ rest ≡ ds
no_rest ds [] e = append-nil ds
no_rest ds (c ∷ rest) e = absurd (omega (arith, eqb-true (length (c ∷ rest)) 0 e))

-- a text is its first run, the rest of the address, and a length after "/"
both_parts : (text ds more front after digits : List ℕ) → text ≡ ds ++ more → more ≡ front ++ after
    → after ≡ 47 ∷ digits → text ≡ ds ++ front ++ (47 ∷ []) ++ digits
both_parts text ds more front after digits e₁ e₂ e₃ = e₁ ∙ rw (e₂, e₃) (simp append_assoc)

pub read_prefix_len_complete : (grammar : Grammar) (most greatest : ℕ) (text : List ℕ) (n : ℕ) → most ≤ 3
    → greatest ≤ 255
    → IsDecimal grammar most greatest text n → read_prefix_len grammar most greatest (47 ∷ text) ≡ Some n
unfolding read_prefix_len
read_prefix_len_complete grammar most greatest text n few low h =
    let octet : IsOctet grammar text n = record {
      digits = h.digits;
      value = h.value;
      short = omega (arith, h.short);
      small = omega (arith, h.small);
      plain = h.plain;
    } in
    let read = rw append-nil at (octet_at_complete grammar text n [] octet (lit≤ tt)) in
    rw (read, le-leb n greatest h.small, le-leb (length text) most h.short)

pub read_prefix_len_sound : (grammar : Grammar) (most greatest : ℕ) (text : List ℕ) (n : ℕ)
    → read_prefix_len grammar most greatest text ≡ Some n
    → (digits : List ℕ) × (text ≡ 47 ∷ digits) × IsDecimal grammar most greatest digits n
unfolding read_prefix_len
read_prefix_len_sound grammar most greatest text n e =
    option_and_then_some _ (read_byte 47 text) _ e λ digits slash e₁.
    option_and_then_some _ (octet_at grammar digits) _ e₁ λ o read e₂.
    let (tests, value) = cond_some _ _ _ e₂ in
    let (front, none_left) = and_parts _ _ tests in
    let (small, short) = and_parts _ _ front in
    let (ds, split, octet) = octet_at_sound grammar digits o.0 o.1 read in
    let whole : digits ≡ ds = split ∙ no_rest ds o.1 none_left in
    let is : IsOctet grammar digits o.0 = subst (λ t. IsOctet grammar t o.0) (sym whole) octet in
    let decimal : IsDecimal grammar most greatest digits n = record {
      digits = is.digits;
      value = is.value ∙ value;
      short = leb-true _ most short;
      small = subst (λ m. m ≤ greatest) value (leb-true o.0 greatest small);
      plain = is.plain;
    } in
    (digits, read_byte_sound 47 text digits slash, decimal)

-- ---- the network

pub read_ipv4_network_complete : (grammar : Grammar) (text : List ℕ) (network : Network)
    (h : IsIpv4NetworkText grammar text network)
    → read_ipv4_network grammar text ≡ Some (h.octets, network.prefix_len)
unfolding read_ipv4_network
read_ipv4_network_complete grammar text network h =
    let dots = Dots-from grammar h.address_text h.octets h.writes_address in
    let after = 47 ∷ h.length_text in
    let shown =
    h.spelled ∙ append_assoc h.address_text (47 ∷ []) h.length_text
    ∙ Dots-rest grammar h.address_text h.octets after dots in
    rw (
      shown,
      octet_at_complete grammar dots.t₁ dots.a _ dots.is_a (lit≤ tt),
      read_dotted_complete grammar h.address_text h.octets after dots (lit≤ tt),
      read_prefix_len_complete grammar 2 32 h.length_text network.prefix_len (lit≤ tt) (lit≤ tt) h.writes_length,
    )

pub read_ipv4_network_sound : (grammar : Grammar) (text octets : List ℕ) (n : ℕ)
    → read_ipv4_network grammar text ≡ Some (octets, n)
    → IsIpv4NetworkText grammar text (ipv4_network_of (from_be_bytes w32 octets) n)
unfolding read_ipv4_network
read_ipv4_network_sound grammar text octets n e =
    option_and_then_some _ (octet_at grammar text) _ e λ first octet e₁.
    option_and_then_some _ (read_dotted grammar first.0 first.1) _ e₁ λ address read e₂.
    option_and_then_some _ (read_prefix_len grammar 2 32 address.1) _ e₂ λ m length_read e₃.
    let (octets_are, n_is) = some_pair_parts address.0 octets m n e₃ in
    let (ds, spelled, is_first) = octet_at_sound grammar text first.0 first.1 octet in
    let (front, split, dotted) =
    read_dotted_sound grammar ds first.0 first.1 address.0 address.1 is_first read in
    let (digits, slash, decimal) = read_prefix_len_sound grammar 2 32 address.1 m length_read in
    record {
      address_text = ds ++ front;
      length_text = digits;
      octets = octets;
      spelled = both_parts text _ _ front address.1 digits spelled split slash;
      writes_address = subst (λ o. IsIpv4AddressText grammar (ds ++ front) o) octets_are dotted;
      writes_length = subst (λ m. IsDecimal grammar 2 32 digits m) n_is decimal;
      family = refl;
      number = refl;
    }
