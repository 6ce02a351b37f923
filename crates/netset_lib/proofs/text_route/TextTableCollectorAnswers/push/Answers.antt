use Rattle.std.proofs.Common.{subst}
use Rattle.std.proofs.lemmas.Result.{on_ok_weaker}
use Rattle.ipnet_lists.specs.FoundEntry.{entry_of}
use Rattle.netset_lib.specs.TextSteps.{AddsTextAnswer}
use Rattle.netset_lib.proofs.TextAnswerLaws.{text_push}
use Rattle.netset_lib.proofs.text_route.TextTableCollectorAnswers.push.Goals as goal

pub returns : goal.returns
returns c =
    let table = c.args.self.now.table in
    on_ok_weaker c.push_text_route.result
    (λ adds before h. text_push table c.args.made.now c.push_text_route.new.answers before
    (entry_of c.args.text.now c.args.entry) h
    (subst (λ t. AddsTextAnswer table c.args.made.now c.push_text_route.new.answers (entry_of t c.args.entry))
    c.entry_text.ensures adds))
    c.push_text_route.ensures
