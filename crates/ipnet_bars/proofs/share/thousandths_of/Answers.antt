use Rattle.std.proofs.Common.{◌≤◌, ◌*◌, ◌/◌, ◌^◌, arith}
use Rattle.std.proofs.lemmas.Nat.{pow_pos}
use Rattle.ipnet_bars.proofs.ShareLaws.{at_most_all, by_halves}
use Rattle.ipnet_bars.proofs.share.thousandths_of.Goals as goal

pub overflow_cast-result-3 : goal.overflow_cast-result-3
overflow_cast-result-3 c =
    let same = by_halves c.args.count c.args.host_bits c.if-host_bits-lt64.false in
    let most : c.args.count * 1000 / 2 ^ c.args.host_bits ≤ 1000
    = at_most_all c.args.count (2 ^ c.args.host_bits) (pow_pos c.args.host_bits) c.requires.part in
    omega (arith, same, most)

pub returns : goal.returns
returns c = by_halves c.args.count c.args.host_bits c.if-host_bits-lt64.false
