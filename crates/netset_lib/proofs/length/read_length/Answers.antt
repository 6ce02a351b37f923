use Rattle.std.proofs.Common.{arith}
use Rattle.std.proofs.lemmas.Str.Pattern.{strip_prefix_char}
use Rattle.netset_lib.proofs.LengthTexts.{length_after, length_plain, stripped, not_stripped}
use Rattle.netset_lib.proofs.length.read_length.Goals as goal

pub returns-in-Some : goal.returns-in-Some
returns-in-Some c = λ n.
    let text = c.args.text.now in
    let cut = strip_prefix_char 47 text c.strip_prefix.result c.strip_prefix.ensures.cases (omega arith) in
    length_after text c.in-Some.digits.now c.read_decimal.result n
    (stripped text c.strip_prefix.result c.in-Some.digits cut c.in-Some.is) (c.read_decimal.ensures n)

pub returns-in-None : goal.returns-in-None
returns-in-None c = λ n.
    let text = c.args.text.now in
    let cut = strip_prefix_char 47 text c.strip_prefix.result c.strip_prefix.ensures.cases (omega arith) in
    length_plain text c.read_decimal-in-None.result n
    (not_stripped text c.strip_prefix.result cut c.in-None.is) (c.read_decimal-in-None.ensures n)
