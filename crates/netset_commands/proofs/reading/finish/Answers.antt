-- The lines that are refused are bad.
use Rattle.netset_commands.proofs.reading.finish.Goals as goal

pub returns-in_err-report_bad_lines-in-Err-clause-bad : goal.returns-in_err-report_bad_lines-in-Err-clause-bad
returns-in_err-report_bad_lines-in-Err-clause-bad c _ = (c.in-Err.lines, c.in-Err.ensures.refused)

pub returns-in_ok-report_bad_lines-in-Err-clause-some : goal.returns-in_ok-report_bad_lines-in-Err-clause-some
returns-in_ok-report_bad_lines-in-Err-clause-some c _ _ = (c.in-Err.lines, c.in-Err.ensures.refused)
