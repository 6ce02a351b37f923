use Rattle.std.proofs.Common.{◌↔◌, IsTrue, Contains, sym, subst}
use Rattle.ipnet_fewest.proofs.NumberLaws.{found}
use Rattle.ipnet_fewest.proofs.values.has_value.Goals as goal

pub returns : goal.returns
returns c =
    subst (λ b. IsTrue b ↔ Contains c.args.values.now c.args.value) (sym c.is_ok.ensures.value)
    (found c.args.values.now c.args.value c.binary_search.result c.binary_search.ensures.position c.requires)
