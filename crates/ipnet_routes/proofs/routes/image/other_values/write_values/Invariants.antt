-- The values before the index are written.
use Rattle.ipnet_routes.specs.TableImages.{AreValuesWritten}
use Rattle.ipnet_routes.proofs.routes.image.other_values.write_values.Given as goal

abbrev pub invariant-loop-index : goal.invariant-loop-index
invariant-loop-index l = AreValuesWritten l.ipv4 l.index l.values l.fn.bytes l.bytes
