-- The run of digits at the front of a text, and what it writes.
use Rattle.std.proofs.Common.{take, drop, lit<, add-one, add-zero, length-take-le, get_or-drop, take-append-drop, ◌≡◌}
use Rattle.std.proofs.Common.{ℕ, zero, suc, ◌+◌, ◌*◌, ◌^◌, ◌<◌, ◌≤◌, true, false, List, [], ◌∷◌, ◌++◌, length, get_or}
use Rattle.std.proofs.Common.{Some, refl, ap, arith, inl, inr, lt-ltb, le-ltb, le-leb, ne_eqb, eq-eqb}
use Rattle.std.proofs.lemmas.Bool.{cases_lt, cases_eq, and_from, and_parts, ltb-true, leb-true}
use Rattle.std.proofs.Math.Nat.{pow-le-pow_right, pow-suc}
use Rattle.std.proofs.lemmas.Option.{cond_some}
use Rattle.std.specs.Char.{digit_value, is_digit}
use Rattle.std.specs.List.{list_all}
use Rattle.std.specs.Str.Parse.{AllDigits, digits_value}
use Rattle.std.proofs.NetLemmas.Numbers.{NoDigit}
use Rattle.ipnet.specs.declared.parser.Grammar.{Grammar}
use Rattle.ipnet.specs.declared.parser.Grammar.TheVariants.{Strict, Legacy}
use Rattle.ipnet.specs.Numerals.{IsOctet, IsGroup}
use Rattle.ipnet.specs.ReaderSteps.{digit_run, decimal_of, group_of, is_plain}

-- ---- the run

-- the run is at most `room` digits; if it is shorter, no digit follows
digit_run_stop : (radix room : ℕ) (ds rest : List ℕ) → AllDigits radix ds → length ds ≤ room
    → (length ds < room → NoDigit radix rest) → digit_run radix room (ds ++ rest) ≡ (ds, rest)
unfolding digit_run
digit_run_stop radix zero [] rest all fits stop = refl
digit_run_stop radix zero (d ∷ ds) rest all fits stop = absurd (omega arith)
digit_run_stop radix (suc room) [] [] all fits stop = refl
digit_run_stop radix (suc room) [] (c ∷ rest) all fits stop = rw (le-ltb (digit_value c) radix (stop (omega arith)))
digit_run_stop radix (suc room) (d ∷ ds) rest all fits stop =
    rw (
      lt-ltb (digit_value d) radix all.0,
      digit_run_stop radix room ds rest all.1 (omega arith) (λ less. stop (omega arith)),
    )

pub digit_run-append : (radix room : ℕ) (ds rest : List ℕ) → AllDigits radix ds → length ds ≤ room → NoDigit radix rest
    → digit_run radix room (ds ++ rest) ≡ (ds, rest)
digit_run-append radix room ds rest all fits stop = digit_run_stop radix room ds rest all fits (λ _. stop)

-- `ds` are digits at the front of the text, at most `room` of them, and `rest` is the text after them
pub record IsRun (radix room : ℕ) (text ds rest : List ℕ) : Type 0 where
  pub spelled : text ≡ ds ++ rest
  pub all : AllDigits radix ds
  pub fits : length ds ≤ room

pub digit_run_sound : (radix room : ℕ) (text : List ℕ)
    → IsRun radix room text (digit_run radix room text).0 (digit_run radix room text).1
unfolding digit_run
digit_run_sound radix zero text = record { spelled = refl; all = tt; fits = omega arith }
digit_run_sound radix (suc room) [] = record { spelled = refl; all = tt; fits = omega arith }
digit_run_sound radix (suc room) (c ∷ text) =
    let more = digit_run_sound radix room text in
    elim (cases_lt (digit_value c) radix) [
      | inl digit ↦ rw (lt-ltb (digit_value c) radix digit)
          (record { spelled = ap (λ t. c ∷ t) more.spelled; all = (digit, more.all); fits = omega (arith, more.fits) })
      | inr other ↦ rw (le-ltb (digit_value c) radix other) (record { spelled = refl; all = tt; fits = omega arith })
    ]

-- ---- what it writes

pub AllDigits_hex : (ds : List ℕ) → AllDigits 10 ds → AllDigits 16 ds
AllDigits_hex [] h = tt
AllDigits_hex (d ∷ ds) h = let v = digit_value d in (omega (arith, h.0), AllDigits_hex ds h.1)

pub all_decimal : (ds : List ℕ) → AllDigits 10 ds → list_all (λ c. is_digit c 10) ds ≡ true
all_decimal [] h = refl
all_decimal (d ∷ ds) h = and_from _ _ (lt-ltb (digit_value d) 10 h.0) (all_decimal ds h.1)

decimal_all : (ds : List ℕ) → list_all (λ c. is_digit c 10) ds ≡ true → AllDigits 10 ds
decimal_all [] h = tt
decimal_all (d ∷ ds) h = let (one, more) = and_parts _ _ h in (ltb-true (digit_value d) 10 one, decimal_all ds more)

-- no leading zero, as the test says it
plain_from : (grammar : Grammar) (ds : List ℕ) → (grammar ≡ Strict → get_or ds 0 0 ≡ 48 → length ds ≡ 1)
    → is_plain grammar ds ≡ true
plain_from Legacy ds h = refl
plain_from Strict ds h =
    elim (cases_eq (get_or ds 0 0) 48) [
      | inl zero_first ↦ rw (eq-eqb _ 48 zero_first, le-ltb 1 (length ds) (omega (arith, h refl zero_first)))
      | inr other ↦ rw (ne_eqb _ 48 other)
    ]

plain_is : (grammar : Grammar) (ds : List ℕ) → 0 < length ds → is_plain grammar ds ≡ true → grammar ≡ Strict
    → get_or ds 0 0 ≡ 48 → length ds ≡ 1
plain_is Legacy ds some h strict zero_first = cc
plain_is Strict ds some h strict zero_first =
    elim (cases_lt 1 (length ds)) [
      | inl more ↦ let e : false ≡ true = rw (eq-eqb _ 48 zero_first, lt-ltb 1 (length ds) more) at h in cc
      | inr one ↦ omega arith
    ]

pub decimal_of_complete : (grammar : Grammar) (ds : List ℕ) (n : ℕ) → IsOctet grammar ds n
    → decimal_of grammar ds ≡ Some n
unfolding decimal_of
decimal_of_complete grammar ds n h =
    let fits : digits_value 10 ds ≤ 255 = omega (arith, h.value, h.small) in
    rw (
      lt-ltb 0 (length ds) h.digits.0,
      le-leb (length ds) 3 h.short,
      all_decimal ds h.digits.1,
      le-leb _ 255 fits,
      plain_from grammar ds h.plain,
      h.value,
    )

pub decimal_of_sound : (grammar : Grammar) (ds : List ℕ) (n : ℕ) → decimal_of grammar ds ≡ Some n → IsOctet grammar ds n
unfolding decimal_of
decimal_of_sound grammar ds n e =
    let (tests, value) = cond_some _ _ _ e in
    let (front, plain) = and_parts _ _ tests in
    let (front₁, small) = and_parts _ _ front in
    let (front₂, all) = and_parts _ _ front₁ in
    let (some, short) = and_parts _ _ front₂ in
    let some_digit = ltb-true 0 _ some in
    record {
      digits = (some_digit, decimal_all ds all);
      value = value;
      short = leb-true _ 3 short;
      small = omega (arith, value, leb-true _ 255 small);
      plain = plain_is grammar ds some_digit plain;
    }

pub group_of_complete : (ds : List ℕ) (n : ℕ) → IsGroup ds n → group_of ds ≡ Some n
unfolding group_of
group_of_complete ds n h = rw (lt-ltb 0 (length ds) h.digits.0, h.value)

pub group_of_sound : (ds : List ℕ) (n : ℕ) → AllDigits 16 ds → length ds ≤ 4 → group_of ds ≡ Some n → IsGroup ds n
unfolding group_of
group_of_sound ds n all fits e =
    let (some, value) = cond_some _ _ _ e in
    record { digits = (ltb-true 0 _ some, all); value = value; short = fits }

-- ---- the loop that reads the run

-- three digits leave room for a fourth
pub room_for_one : (i n : ℕ) → i < 4 → n < 16 ^ i → n < 4096
room_for_one i n less below =
    let few : i ≤ 3 = omega arith in
    let most : 16 ^ i ≤ 16 ^ 3 = pow-le-pow_right (lit< tt) few in
    omega arith

pub one_below : (i n d : ℕ) → n < 16 ^ i → d < 16 → n * 16 + d < 16 ^ (i + 1)
one_below i n d below digit = rw (add-one, pow-suc) (omega arith)

-- the run is the first i bytes, if i is the room or the next byte is not a digit
pub digit_run_at : (radix room i : ℕ) (text : List ℕ) → i ≤ room → i ≤ length text → AllDigits radix (take i text)
    → (i < room → radix ≤ digit_value (get_or text i 0)) → digit_run radix room text ≡ (take i text, drop i text)
digit_run_at radix room i text few within all stop =
    let len = length-take-le i text within in
    let next : length (take i text) < room → NoDigit radix (drop i text) =
    λ less. rw (get_or-drop i text 0 0, add-zero) (stop (omega arith)) in
    rw (take-append-drop i text) at (digit_run_stop radix room (take i text) (drop i text) all (omega arith) next)
