use Rattle.std.proofs.Common.{◌/◌, ◌^◌, ◌∙◌, ap}
use Rattle.std.proofs.lemmas.Nat.Bits.{ones_shr}
use Rattle.ipnet.proofs.net.ipv4_net.hostmask_number.Goals as goal

pub returns : goal.returns
returns c = ap (λ a. a / 2 ^ c.args.prefix_len) c.from.ensures ∙ ones_shr 32 c.args.prefix_len c.requires
