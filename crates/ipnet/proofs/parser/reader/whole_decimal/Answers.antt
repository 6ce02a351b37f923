-- If the decimal digits at the front are not all, the whole is not a decimal number of at most three digits.
use Rattle.std.proofs.Common.{◌≡◌, ℕ, ◌<◌, List, [], length, take, drop, Option, Some, None, refl, ap, ◌∙◌, sym, arith}
use Rattle.std.proofs.Common.{append-nil, lit≤, length-drop}
use Rattle.ipnet.specs.declared.parser.Grammar.{Grammar}
use Rattle.ipnet.specs.ReaderSteps.{decimal_run, decimal_of}
use Rattle.ipnet.proofs.DigitTexts.{decimal_of_sound, digit_run-append}
use Rattle.ipnet.proofs.parser.reader.whole_decimal.Goals as goal

-- what writes a decimal number is its own run of digits
whole_run : (grammar : Grammar) (ds : List ℕ) (n : ℕ) → decimal_of grammar ds ≡ Some n → decimal_run ds ≡ (ds, [])
whole_run grammar ds n e =
    let is = decimal_of_sound grammar ds n e in
    rw append-nil at (digit_run-append 10 3 ds [] is.digits.1 is.short (lit≤ tt))

not_whole : (grammar : Grammar) (ds : List ℕ) (i : ℕ) (o : Option ℕ) → decimal_run ds ≡ (take i ds, drop i ds)
    → i < length ds → decimal_of grammar ds ≡ o → o ≡ None
not_whole grammar ds i None run less e = refl
not_whole grammar ds i (Some n) run less e =
    let rest = ap (λ p. length p.1) (sym run ∙ whole_run grammar ds n e) in
    absurd (omega (arith, rest, length-drop i ds))

pub returns-else-front-digits : goal.returns-else-front-digits
returns-else-front-digits c =
    let front = c.first_decimals-front in
    sym (not_whole c.args.grammar c.args.digits.now front.result.count _ front.ensures.run
    (omega (arith, front.ensures.within, c.if-front-digits.false)) refl)
