use Rattle.netset_lib.specs.Answering.{AreAnswersBy}
use Rattle.netset_lib.proofs.AnsweringLaws.{none_made}
use Rattle.ipnet_lists.proofs.MadeLaws.{made_of}
use Rattle.netset_lib.proofs.answerer.read_answers.Goals as goal

pub returns : goal.returns
returns g c =
    made_of (g.R.Read.remaining c.args.input.now) (g.R.Read.remaining c.read_list.new.input) c.args.reading.now
    c.read_list.new.self (AreAnswersBy c.args.answerer.now c.new-answers.result)
    (AreAnswersBy c.args.answerer.now c.read_list.new.made) c.in_ok-read_list.ensures
    (none_made c.args.answerer.now c.new-answers.result c.new-answers.ensures.text c.new-answers.ensures.found)
