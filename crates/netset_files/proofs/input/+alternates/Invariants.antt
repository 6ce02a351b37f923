-- the rest of the bytes is shorter
use Rattle.std.proofs.Common.{length}
use Rattle.netset_files.proofs.input.+alternates.Given as goal

abbrev pub decreases-alternates : goal.decreases-alternates
decreases-alternates l = length l.bytes.now
