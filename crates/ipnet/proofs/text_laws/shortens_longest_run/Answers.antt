use Rattle.ipnet.proofs.ZeroRuns.{groups_written, mapped_written}
use Rattle.ipnet.proofs.text_laws.shortens_longest_run.Goals as goal

pub returns-clause-mapped : goal.returns-clause-mapped
returns-clause-mapped c = mapped_written

pub returns-clause-others : goal.returns-clause-others
returns-clause-others c = groups_written
