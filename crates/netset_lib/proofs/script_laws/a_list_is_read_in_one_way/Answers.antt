use Rattle.ipnet_lists.proofs.OneReading.{one_reading, one_cause}
use Rattle.netset_lib.proofs.script_laws.a_list_is_read_in_one_way.Goals as goal

pub returns-clause-entries : goal.returns-clause-entries
returns-clause-entries c = λ index entries others refusals more h k.
    (one_reading c.args.grammar index c.args.list.now entries others refusals more h k).0

pub returns-clause-refusals : goal.returns-clause-refusals
returns-clause-refusals c = λ index entries others refusals more h k.
    (one_reading c.args.grammar index c.args.list.now entries others refusals more h k).1

pub returns-clause-causes : goal.returns-clause-causes
returns-clause-causes c = λ text cause other h k. one_cause c.args.grammar text cause other h k
