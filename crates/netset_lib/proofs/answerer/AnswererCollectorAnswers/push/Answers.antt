use Rattle.std.proofs.Common.{sym, subst}
use Rattle.std.proofs.lemmas.Result.{on_ok_weaker}
use Rattle.netset_lib.specs.Answering.{AddsAnswer}
use Rattle.ipnet_lists.specs.FoundEntry.{entry_of}
use Rattle.netset_lib.proofs.AnsweringLaws.{made_push}
use Rattle.netset_lib.proofs.answerer.AnswererCollectorAnswers.push.Goals as goal

pub returns-in-Filter : goal.returns-in-Filter
returns-in-Filter c =
    let e = entry_of c.args.text.now c.args.entry in
    on_ok_weaker c.push_kept.result
    (λ adds before h. made_push c.args.self.now c.args.made.now c.push_kept.new.answers before e h
    (subst (λ a. AddsAnswer a c.args.made.now c.push_kept.new.answers e) (sym c.in-Filter.is) adds))
    c.push_kept.ensures

pub returns-in-Route : goal.returns-in-Route
returns-in-Route c =
    let e = entry_of c.args.text.now c.args.entry in
    on_ok_weaker c.push_route.result
    (λ adds before h. made_push c.args.self.now c.args.made.now c.push_route.new.answers before e h
    (subst (λ t. AddsAnswer c.args.self.now c.args.made.now c.push_route.new.answers (entry_of t c.args.entry))
    c.entry_text.ensures
    (subst (λ a. AddsAnswer a c.args.made.now c.push_route.new.answers
    (entry_of c.entry_text.result.now c.args.entry)) (sym c.in-Route.is) adds)))
    c.push_route.ensures
