-- The four or sixteen bytes are the octets of the address that is made of their number.
use Rattle.std.proofs.Common.{arith}
use Rattle.ipnet_c.proofs.AddressBytes.{four_octets, sixteen_octets}
use Rattle.ipnet_c.proofs.set_questions.read_address.Goals as goal

pub returns-in-Some-default-empty-clause-some : goal.returns-in-Some-default-empty-clause-some
returns-in-Some-default-empty-clause-some c =
    let form = c.in-Some-default-empty in
    let parts = form.ensures.cases in
    four_octets c.from_bits.result c.args.octets.now form.four.now form.field-0-1.now c.from_be_bytes.result parts.0
    parts.2 form.len_below (λ k. omega (arith, c.type_inv.octets k)) c.from_be_bytes.ensures c.from_be_bytes.type_inv
    c.from_bits.ensures

pub returns-in-Some-default-empty-split_first_chunk-clause-some :
    goal.returns-in-Some-default-empty-split_first_chunk-clause-some
returns-in-Some-default-empty-split_first_chunk-clause-some c =
    let form = c.in-Some-default-empty-split_first_chunk in
    let parts = form.ensures.cases in
    let number = c.from_be_bytes-in-Some-default-empty-split_first_chunk in
    let made = c.from_bits-in-Some-default-empty-split_first_chunk in
    sixteen_octets made.result c.args.octets.now form.sixteen.now form.field-0-1.now number.result parts.0 parts.2
    form.len_below (λ k. omega (arith, c.type_inv.octets k)) number.ensures number.type_inv made.ensures
