use Rattle.std.proofs.Common.{length}
use Rattle.ipnet_sets.specs.Members.{IsMember}
use Rattle.netset_words.proofs.LogLaws.{IsJudged}
use Rattle.netset_words.proofs.log_line.verdict_on.Given as goal

-- the words before the rest do not choose the text
abbrev pub invariant-entries : goal.invariant-entries
invariant-entries l = IsJudged l.fn.request (IsMember l.fn.set) l.fn.text l.rest l.verdict

abbrev pub decreases-entries : goal.decreases-entries
decreases-entries l = length l.rest
