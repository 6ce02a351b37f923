use Rattle.std.proofs.Common.{refl}
use Rattle.netset_lib.specs.declared.answer.Answer.{Answer}
use Rattle.netset_lib.specs.Answering.{AreAnsweredBy, AreAnswersBy}
use Rattle.netset_lib.proofs.AnsweringLaws.{made_answered}
use Rattle.netset_lib.proofs.ListsReading.{made_else, next_read}
use Rattle.netset_lib.proofs.set_reader.SetReader.read_answers.Goals as goal

pub returns : goal.returns
returns g c =
    let left = g.R.Read.remaining c.args.input.now in
    let left_after = g.R.Read.remaining c.read_answers.new.input in
    let answerer = c.args.answerer.now in
    let answers = c.in_ok-answers.answers in
    let answer : Answer = record { text = answers.text; succeeded = c.is_success.result } in
    next_read (AreAnsweredBy answerer answer) left left_after c.args.self _
    (made_else (AreAnswersBy answerer answers) (AreAnsweredBy answerer answer) left left_after c.args.self.reading
    c.read_answers.new.reading c.in_ok-answers.ensures
    (made_answered answerer answers answer refl c.is_success.ensures))
