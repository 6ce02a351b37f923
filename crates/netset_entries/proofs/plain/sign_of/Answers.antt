-- The table agrees with the definition at each byte (`TableLaws`).
use Rattle.std.proofs.Common.{get_or, refl, arith}
use Rattle.std.proofs.Math.Dec.{eqb}
use Rattle.std.proofs.lemmas.Bool.{eqb-true}
use Rattle.ipnet_base.proofs.TableLaws.{agree_below, agree_at}
use Rattle.netset_entries.specs.NoteSteps.{byte_sign}
use Rattle.netset_entries.specs.declared.plain.TheConstants.{SIGNS}
use Rattle.netset_entries.proofs.plain.sign_of.Goals as goal

pub returns : goal.returns
unfolding agree_below
returns c = agree_at eqb eqb-true (λ k. get_or SIGNS k 0) byte_sign 256 refl c.args.byte (omega arith)
