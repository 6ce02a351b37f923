-- The index decides the family, and with it the place of the value.
use Rattle.std.proofs.Common.{sym, arith}
use Rattle.ipnet_routes.proofs.TableValueLaws.{ipv4_value, ipv6_value}
use Rattle.ipnet_routes.proofs.routes.image.other_values.value_at.Goals as goal

pub overflow_mul-result : goal.overflow_mul-result
overflow_mul-result c = omega (arith, ipv4_value c.args.ipv4 c.args.index c.if-index-ipv4.true, c.requires)

pub overflow_add-result : goal.overflow_add-result
overflow_add-result c = omega (arith, ipv4_value c.args.ipv4 c.args.index c.if-index-ipv4.true, c.requires)

pub overflow_mul-result-2 : goal.overflow_mul-result-2
overflow_mul-result-2 c =
    omega (arith, ipv6_value c.args.ipv4 c.args.index (omega (arith, c.if-index-ipv4.false)), c.requires)

pub overflow_add-result-2 : goal.overflow_add-result-2
overflow_add-result-2 c =
    omega (arith, ipv6_value c.args.ipv4 c.args.index (omega (arith, c.if-index-ipv4.false)), c.requires)

pub overflow_mul-result-3 : goal.overflow_mul-result-3
overflow_mul-result-3 c =
    omega (arith, ipv6_value c.args.ipv4 c.args.index (omega (arith, c.if-index-ipv4.false)), c.requires)

pub overflow_add-result-3 : goal.overflow_add-result-3
overflow_add-result-3 c =
    omega (arith, ipv6_value c.args.ipv4 c.args.index (omega (arith, c.if-index-ipv4.false)), c.requires)

pub returns-then-index-ipv4 : goal.returns-then-index-ipv4
returns-then-index-ipv4 c = sym (ipv4_value c.args.ipv4 c.args.index c.if-index-ipv4.true)

pub returns : goal.returns
returns c = sym (ipv6_value c.args.ipv4 c.args.index (omega (arith, c.if-index-ipv4.false)))
