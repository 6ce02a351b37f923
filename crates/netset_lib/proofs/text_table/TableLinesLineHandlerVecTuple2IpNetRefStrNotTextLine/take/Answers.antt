use Rattle.std.proofs.Common.{refl}
use Rattle.netset_lib.proofs.text_table.TableLinesLineHandlerVecTuple2IpNetRefStrNotTextLine.take.Goals as goal

pub returns-in-None : goal.returns-in-None
returns-in-None c = ((c.in-None.ensures.none.0 refl, refl), refl)
