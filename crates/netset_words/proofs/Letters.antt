-- The bytes of an IPv4 address do not cut a line into words.
use Rattle.std.proofs.Common.{◌≡◌, ℕ, zero, suc, ◌+◌, ◌-◌, ◌<◌, ◌≤◌, Bool, true, false, not, ◌&&◌, List, [], ◌∷◌}
use Rattle.std.proofs.Common.{◌++◌}
use Rattle.std.proofs.Common.{All, length, take, get_or, refl, sym, arith, inl, inr, subst, length-take-le}
use Rattle.std.proofs.Common.{get_or-take}
use Rattle.std.specs.Char.{digit_value}
use Rattle.std.proofs.lemmas.Bool.{cases_eq}
use Rattle.std.proofs.lemmas.Bool.Decides.{nat_tests}
use Rattle.std.proofs.lemmas.List.Elements.{All-nil, All-cons, All-append, All-get_or}
use Rattle.ipnet.specs.AddressTexts.{IsIpv4AddressText}
use Rattle.std.specs.Str.Parse.{AllDigits}
use Rattle.ipnet.specs.declared.parser.Grammar.{Grammar}
use Rattle.ipnet.proofs.Ipv4Texts.{Dots-from}
use Rattle.netset_words.specs.Words.{cuts}
use Rattle.netset_words.proofs.LogEntryLaws.{not_true}

-- the byte does not cut
abbrev IsLetter : ℕ → Type 0
IsLetter b = cuts b ≡ false

-- a test is true below n
all_below : (ℕ → Bool) → ℕ → Bool
all_below test zero = true
all_below test (suc n) = test n && all_below test n

both : (p q : Bool) → (p && q) ≡ true → (p ≡ true) × (q ≡ true)
both true q e = (refl, e)
both false q e = absurd cc

at_below : (test : ℕ → Bool) (n : ℕ) → all_below test n ≡ true → (k : ℕ) → k < n → test k ≡ true
unfolding all_below
at_below test zero h k less = absurd (omega (arith, less))
at_below test (suc n) h k less =
    let parts = both (test n) (all_below test n) h in
    elim (cases_eq k n) [
      | inl is ↦ rw is parts.0
      | inr other ↦ at_below test n parts.1 k (omega (arith, less, other))
    ]

-- the ten digits, by computing
digits_pass : all_below (λ k. not (cuts (48 + k))) 10 ≡ true
unfolding all_below
digits_pass = refl

digit_letter : (b : ℕ) → digit_value b < 10 → IsLetter b
digit_letter b h =
    let low : 48 ≤ b = grind (arith, nat_tests, h) in
    let high : b < 58 = grind (arith, nat_tests, h) in
    let is : 48 + (b - 48) ≡ b = omega (arith, low) in
    not_true (cuts b)
    (subst (λ z. not (cuts z) ≡ true) is
    (at_below (λ k. not (cuts (48 + k))) 10 digits_pass (b - 48) (omega (arith, low, high))))

digit_letters : (ds : List ℕ) → AllDigits 10 ds → All IsLetter ds
digit_letters [] h = All-nil IsLetter
digit_letters (d ∷ ds) h = All-cons IsLetter d ds (digit_letter d h.0) (digit_letters ds h.1)

-- a part, "." and the rest
joined : (front back : List ℕ) → All IsLetter front → All IsLetter back → All IsLetter (front ++ 46 ∷ back)
joined front back h k = All-append IsLetter front (46 ∷ back) h (All-cons IsLetter 46 back refl k)

pub ipv4_letters : (grammar : Grammar) (text octets : List ℕ) → IsIpv4AddressText grammar text octets
    → All (λ b. cuts b ≡ false) text
ipv4_letters grammar text octets h =
    let dots = Dots-from grammar text octets h in
    subst (All IsLetter) (sym dots.spelled)
    (joined dots.t₁ _ (digit_letters dots.t₁ dots.is_a.digits.1)
    (joined dots.t₂ _ (digit_letters dots.t₂ dots.is_b.digits.1)
    (joined dots.t₃ _ (digit_letters dots.t₃ dots.is_c.digits.1) (digit_letters dots.t₄ dots.is_d.digits.1))))

-- at a place of the bytes
pub letters_at : (bytes : List ℕ) (len : ℕ) → len ≤ length bytes → All (λ b. cuts b ≡ false) (take len bytes)
    → (k : ℕ) → k < len → cuts (get_or bytes k 0) ≡ false
letters_at bytes len within h k less =
    let size = length-take-le len bytes within in
    subst (λ b. cuts b ≡ false) (get_or-take len bytes k 0 less)
    (All-get_or IsLetter (take len bytes) k 0 (omega (arith, size, less)) h)
