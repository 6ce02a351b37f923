use Rattle.std.proofs.Common.{◌∙◌}
use Rattle.ipnet_routes.proofs.TableValueLaws.{number_put}
use Rattle.ipnet_routes.proofs.routes.image.other_values.write_number.Goals as goal

pub returns : goal.returns
returns c =
    number_put c.args.bytes.now c.copy_from_slice.new.self c.args.at c.args.number c.requires c.ranges.number.fits
    (c.copy_from_slice.ensures.after ∙ c.to_le_bytes.ensures)
