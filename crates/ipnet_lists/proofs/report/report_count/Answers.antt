use Rattle.ipnet_lists.proofs.report.report_count.Goals as goal

pub returns-clause-whole : goal.returns-clause-whole
returns-clause-whole g c = c.write_parts.ensures.whole

pub returns-clause-front : goal.returns-clause-front
returns-clause-front g c = c.write_parts.ensures.front
