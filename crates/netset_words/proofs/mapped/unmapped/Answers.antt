use Rattle.std.proofs.Common.{◌∙◌, ◌%◌}
use Rattle.ipnet_base.proofs.AddressLaws.{bits_from_number}
use Rattle.netset_words.proofs.MappedLaws.{high_is, low_bits, parts_of}
use Rattle.netset_words.proofs.mapped.unmapped.Goals as goal

pub returns-then-high-ne65535 : goal.returns-then-high-ne65535
returns-then-high-ne65535 c = λ ipv4 low is.
    c.if-high-ne65535.true (high_is c.to_bits-number.result ipv4 low (c.to_bits-number.ensures ∙ is))

pub returns : goal.returns
returns c =
    let low = c.to_bits-number.result % 4294967296 in
    parts_of c.to_bits-number.result _ _ c.to_bits-number.ensures c.if-high-ne65535.false
    (bits_from_number c.from_bits.result low (low_bits c.to_bits-number.result) c.from_bits.ensures)
