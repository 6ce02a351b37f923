-- The row has one address, and the image was asked for it.
use Rattle.std.proofs.Common.{rules}
use Rattle.ipnet_base.specs.Address.{ip_address}
use Rattle.ipnet_c.proofs.MappedLaws.{row_answered}
use Rattle.ipnet_c.proofs.bulk_rows.row_answer.Goals as goal

pub returns-in-Some : goal.returns-in-Some
returns-in-Some c = record {
  address = λ x of_x. row_answered c.args.image.now.bytes.now c.args.family c.args.bytes.now
      (ip_address c.in-Some.address) x c.contains.result c.from.result c.in-Some.ensures.some of_x c.contains.ensures
      c.from.ensures;
  none = search rules;
}
