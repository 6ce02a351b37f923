-- The number of a mapped address is 0xffff in all but its last 32 bits.
use Rattle.std.proofs.Common.{subst}
use Rattle.ipnet_base.specs.Address.{ip_address, ipv6_address}
use Rattle.ipnet_c.specs.Rows.{IsRowOf}
use Rattle.ipnet_c.proofs.MappedLaws.{mapped_block, last_is}
use Rattle.ipnet_c.proofs.bulk_rows.mapped_address.Goals as goal

pub returns-clause-some : goal.returns-clause-some
returns-clause-some c =
    let ip = c.in-Some-V6.ip in
    let number = c.to_bits-number in (
      ipv6_address ip,
      subst (λ z. IsRowOf c.args.family c.args.bytes.now (ip_address z)) c.in-Some-V6.field-0-is
          c.in-Some-V6.ensures.some,
      mapped_block ip number.result number.ensures c.if-number-ne65535.false,
      last_is c.from_bits.result ip number.result number.ensures c.from_bits.ensures,
    )
