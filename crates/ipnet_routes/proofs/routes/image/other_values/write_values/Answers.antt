-- Each turn writes one value more.
use Rattle.std.proofs.Common.{get_or, subst}
use Rattle.ipnet_routes.specs.TableImages.{IsNumberWritten}
use Rattle.ipnet_routes.proofs.TableValueLaws.{written_more}
use Rattle.ipnet_routes.proofs.routes.image.other_values.write_values.Goals as goal

pub loop-index-preserved : goal.loop-index-preserved
loop-index-preserved c =
    let l = c.loop-index in
    written_more c.args.ipv4 l.index c.args.values.now c.args.bytes.now l.bytes c.write_number.new.bytes l.invariant
    (subst (λ at. IsNumberWritten at (get_or c.args.values.now l.index 0) l.bytes c.write_number.new.bytes)
    c.value_at-at.ensures c.write_number.ensures)
