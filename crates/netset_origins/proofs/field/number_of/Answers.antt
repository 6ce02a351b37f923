use Rattle.std.proofs.Common.{◌≡◌, ◌↔◌, Some, subst, rules}
use Rattle.netset_origins.specs.Fields.{IsNumber}
use Rattle.netset_origins.proofs.FieldLaws.{number_utf8}
use Rattle.netset_origins.proofs.field.number_of.Goals as goal

pub returns-in-Ok : goal.returns-in-Ok
returns-in-Ok c = λ n.
    let same : c.in-Ok.digits.now ≡ c.args.text.now = search rules in
    subst (λ z. (c.read_number.result ≡ Some n) ↔ IsNumber z n) same (c.read_number.ensures n)

pub returns-in-Err : goal.returns-in-Err
returns-in-Err c = λ n. (
  λ e. absurd cc,
  λ h. absurd (c.in-Err.ensures.cases.0 (number_utf8 c.args.text.now n h)),
)
