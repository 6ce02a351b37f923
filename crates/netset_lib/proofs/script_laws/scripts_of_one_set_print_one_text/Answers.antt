use Rattle.netset_lib.proofs.ScriptLaws.{one_script}
use Rattle.netset_lib.proofs.script_laws.scripts_of_one_set_print_one_text.Goals as goal

pub returns : goal.returns
returns c = λ script other call called h k.
    one_script c.args.grammar c.args.form script other c.args.first.now c.args.second.now call called h k
