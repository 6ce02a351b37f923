use Rattle.ipnet_sets.specs.Members.{IsMember}
use Rattle.netset_lib.proofs.AnswerReading.{answer_is_list}
use Rattle.netset_lib.proofs.script_laws.an_answer_is_a_list.Goals as goal

pub returns : goal.returns
returns c = λ h.
    answer_is_list c.args.form c.args.grammar (IsMember c.args.set.now) c.args.answer.now (λ x m. m.fits) h
