-- Digits are UTF-8.
use Rattle.std.proofs.Common.{◌≡◌, ◌↔◌, Some, subst, rules}
use Rattle.ipnet.specs.Numerals.{IsDecimal}
use Rattle.ipnet.specs.declared.parser.Grammar.TheVariants.{Strict}
use Rattle.netset_lib.proofs.PrefixLaws.{decimal_utf8}
use Rattle.netset_lib.proofs.prefix_entry.read_number.Goals as goal

pub returns-in-Ok : goal.returns-in-Ok
returns-in-Ok c = λ n.
    let same : c.in-Ok.digits.now ≡ c.args.bytes.now = search rules in
    subst (λ z. (c.read_number.result ≡ Some n) ↔ IsDecimal Strict 10 4294967295 z n) same (c.read_number.ensures n)

pub returns-in-Err : goal.returns-in-Err
returns-in-Err c = λ n. (
  λ e. absurd cc,
  λ h. absurd (c.in-Err.ensures.cases.0 (decimal_utf8 10 4294967295 c.args.bytes.now n h)),
)
