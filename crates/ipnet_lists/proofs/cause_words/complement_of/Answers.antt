use Rattle.std.proofs.Common.{arith, ◌∙◌, ap, ◌-◌}
use Rattle.ipnet_base.proofs.AddressLaws.{bits_from_number}
use Rattle.ipnet_lists.proofs.cause_words.complement_of.Goals as goal

pub returns : goal.returns
returns c =
    bits_from_number c.from_bits.result (4294967295 - c.to_bits.result) (omega arith) c.from_bits.ensures
    ∙ ap (λ n. 4294967295 - n) c.to_bits.ensures
