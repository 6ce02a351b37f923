use Rattle.netset_lib.proofs.answer.set_text.Goals as goal

pub returns-in-Networks : goal.returns-in-Networks
returns-in-Networks c = rw c.in-Networks.is c.network_lines.ensures

pub returns-in-Ranges : goal.returns-in-Ranges
returns-in-Ranges c = rw c.in-Ranges.is c.range_lines.ensures
