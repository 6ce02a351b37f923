use Rattle.netset_lib.proofs.ScriptLaws.{given_right, script_fits}
use Rattle.netset_lib.proofs.script_laws.a_script_prints_its_set.Goals as goal

pub returns-clause-text : goal.returns-clause-text
returns-clause-text c = λ script call gives.
    (given_right c.args.grammar c.args.form script c.args.text.now gives).right call

pub returns-clause-addresses : goal.returns-clause-addresses
returns-clause-addresses c = λ script x h. script_fits c.args.grammar script x h
