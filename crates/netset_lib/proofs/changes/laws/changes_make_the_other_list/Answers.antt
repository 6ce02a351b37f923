use Rattle.netset_lib.proofs.ChangeLaws.{other_list_made, no_changes}
use Rattle.netset_lib.proofs.changes.laws.changes_make_the_other_list.Goals as goal

pub returns-clause-made : goal.returns-clause-made
returns-clause-made c = other_list_made

pub returns-clause-none : goal.returns-clause-none
returns-clause-none c = no_changes
