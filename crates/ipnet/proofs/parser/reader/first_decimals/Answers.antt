-- The digits that were found are the whole run: there are three, or the next byte is not a digit.
use Rattle.std.proofs.Common.{◌≡◌, ℕ, ◌+◌, ◌<◌, List, length, get_or, take, arith}
use Rattle.std.proofs.lemmas.Int.Digits.{digits_more}
use Rattle.std.specs.Char.{digit_value}
use Rattle.std.specs.Str.Parse.{AllDigits}
use Rattle.ipnet.proofs.DigitTexts.{digit_run_at}
use Rattle.ipnet.proofs.parser.reader.first_decimals.Goals as goal

-- one digit more
more : (text : List ℕ) (i d : ℕ) → d < 10 → (d < 10 → d ≡ digit_value (get_or text i 0)) → (d < 10 → i < length text)
    → AllDigits 10 (take i text) → AllDigits 10 (take (i + 1) text)
more text i d small value within all = digits_more 10 text i (within small) all (rw (value small) at small)

pub returns-then-first-ge10-clause-run : goal.returns-then-first-ge10-clause-run
returns-then-first-ge10-clause-run c =
    digit_run_at 10 3 0 c.args.rest.now (omega arith) (omega arith) tt
    (λ _. c.decimal_digit-first.ensures.other c.if-first-ge10.true)

pub returns-then-second-ge10-clause-run : goal.returns-then-second-ge10-clause-run
returns-then-second-ge10-clause-run c =
    let text = c.args.rest.now in
    let first = c.decimal_digit-first in
    let one = more text 0 first.result c.if-first-ge10.false first.ensures.digit first.ensures.within tt in
    digit_run_at 10 3 1 text (omega arith) (omega (arith, first.ensures.within c.if-first-ge10.false)) one
    (λ _. c.decimal_digit-second.ensures.other c.if-second-ge10.true)

pub returns-then-third-ge10-clause-run : goal.returns-then-third-ge10-clause-run
returns-then-third-ge10-clause-run c =
    let text = c.args.rest.now in
    let first = c.decimal_digit-first in
    let second = c.decimal_digit-second in
    let one = more text 0 first.result c.if-first-ge10.false first.ensures.digit first.ensures.within tt in
    let two = more text 1 second.result c.if-second-ge10.false second.ensures.digit second.ensures.within one in
    digit_run_at 10 3 2 text (omega arith) (omega (arith, second.ensures.within c.if-second-ge10.false)) two
    (λ _. c.decimal_digit-third.ensures.other c.if-third-ge10.true)

pub returns-else-third-ge10-clause-run : goal.returns-else-third-ge10-clause-run
returns-else-third-ge10-clause-run c =
    let text = c.args.rest.now in
    let first = c.decimal_digit-first in
    let second = c.decimal_digit-second in
    let third = c.decimal_digit-third in
    let one = more text 0 first.result c.if-first-ge10.false first.ensures.digit first.ensures.within tt in
    let two = more text 1 second.result c.if-second-ge10.false second.ensures.digit second.ensures.within one in
    let three = more text 2 third.result c.if-third-ge10.false third.ensures.digit third.ensures.within two in
    digit_run_at 10 3 3 text (omega arith) (omega (arith, third.ensures.within c.if-third-ge10.false)) three
    (λ less. absurd (omega arith))
