use Rattle.ipnet_lists.proofs.ListLines.{found_line, only_line}
use Rattle.ipnet_lists.proofs.reader.first_line_of_bytes.Goals as goal

pub returns-in-Some-clause-lines : goal.returns-in-Some-clause-lines
returns-in-Some-clause-lines c =
    found_line c.args.bytes.now c.in-Some.end c.in-Some.ensures.0 c.in-Some.ensures.1

pub returns-in-None-clause-lines : goal.returns-in-None-clause-lines
returns-in-None-clause-lines c = only_line c.args.bytes.now c.requires c.in-None.ensures
