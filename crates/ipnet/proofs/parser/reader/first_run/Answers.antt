-- A number of four digits fits a word, and the digits so far are the whole run.
use Rattle.std.proofs.Common.{◌<◌, ◌≤◌, get_or, length-take-le, arith}
use Rattle.std.specs.Char.{digit_value}
use Rattle.std.proofs.lemmas.Int.Digits.{digits_more, digits_value_more}
use Rattle.ipnet.proofs.DigitTexts.{room_for_one, one_below, digit_run_at}
use Rattle.ipnet.proofs.parser.reader.first_run.Goals as goal
use Rattle.ipnet.proofs.parser.reader.first_run.Goals.{else-loop-count-test, then-loop-count-test+in_default}

pub overflow_mul-number : goal.overflow_mul-number
overflow_mul-number c =
    omega (
      arith,
      room_for_one c.loop-count.count c.loop-count.number c.loop-count-test.true c.loop-count.invariant.below,
    )

pub overflow_add-number : goal.overflow_add-number
overflow_add-number c =
    omega (
      arith,
      c.in-Some.ensures.digit,
      room_for_one c.loop-count.count c.loop-count.number c.loop-count-test.true c.loop-count.invariant.below,
    )

pub loop-count-preserved : goal.loop-count-preserved
loop-count-preserved c =
    let i = c.loop-count.count in
    let text = c.args.rest.now in
    let inside = c.in-Some.ensures.within in
    let value = c.in-Some.ensures.value in
    record {
      fits = omega arith;
      within = omega (arith, inside);
      all = digits_more 16 text i inside c.loop-count.invariant.all (rw value at c.in-Some.ensures.digit);
      number = rw (digits_value_more 16 text i inside, ← c.loop-count.invariant.number, value);
      below = one_below i c.loop-count.number c.in-Some.digit c.loop-count.invariant.below c.in-Some.ensures.digit;
    }

pub returns-clause-run : goal.returns-clause-run
returns-clause-run c =
    let i = c.loop-count.count in
    let text = c.args.rest.now in
    let same = length-take-le i text c.loop-count.invariant.within in
    let stop : i < 4 → 16 ≤ digit_value (get_or text i 0) = λ less.
    elim c.loop-count-test.branch [
      | else-loop-count-test w ↦ absurd (omega (arith, w.loop-count-test.false))
      | then-loop-count-test+in_default w ↦ w.in_default.ensures.none
    ] in
    rw same (digit_run_at 16 4 i text c.loop-count.invariant.fits c.loop-count.invariant.within
    c.loop-count.invariant.all stop)
