use Rattle.std.proofs.Common.{◌↔◌}
use Rattle.std.proofs.lemmas.Result.{IfOk-weaker}
use Rattle.ipnet_base.specs.Address.{Address}
use Rattle.ipnet_sets.specs.Members.{IsMember}
use Rattle.netset_lib.specs.RuleAnswers.{IsPermittedBy}
use Rattle.netset_lib.proofs.rule_answer.permitted_set.Goals as goal

pub returns : goal.returns
returns c =
    IfOk-weaker c.permitted.result _
    (λ set. (x : Address) → IsMember set x ↔ IsPermittedBy c.args.rules.items c.args.default x)
    (λ set h x. (λ m. (m.fits, (h x m.fits).0 m), λ p. (h x p.0).1 p.1)) c.permitted.ensures
