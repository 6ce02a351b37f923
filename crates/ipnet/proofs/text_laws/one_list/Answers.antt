-- One list, none with a bad line, one first bad line.
use Rattle.ipnet.proofs.LineLaws.{one_list, none_bad, one_bad_line}
use Rattle.ipnet.proofs.text_laws.one_list.Goals as goal

pub returns-clause-one : goal.returns-clause-one
returns-clause-one c = one_list

pub returns-clause-none_bad : goal.returns-clause-none_bad
returns-clause-none_bad c = none_bad

pub returns-clause-one_number : goal.returns-clause-one_number
returns-clause-one_number c = one_bad_line
