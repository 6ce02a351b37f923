use Rattle.ipnet.specs.NetworkOf.{ip_network}
use Rattle.ipnet_sets.specs.Members.{IsMember}
use Rattle.netset_lib.specs.ChangeLists.{IsAnswerNetwork}
use Rattle.netset_lib.proofs.ChangeLineLaws.{signed_text, change_of_line, cause_of_line, no_network_line}
use Rattle.netset_lib.proofs.change_line.read_change.Goals as goal

pub returns-in-Ok-clause-change : goal.returns-in-Ok-clause-change
returns-in-Ok-clause-change c =
    let n = ip_network c.in-Ok.network in
    change_of_line c.args.grammar (IsAnswerNetwork (IsMember c.args.set.now)) c.args.text.now c.in-Some.sign n
    c.fit.result c.fit.ensures.change c.fit.ensures.fits
    (signed_text c.args.grammar c.args.text.now c.cut_word.result.0.now c.cut_word.result.1.now c.in-Some.sign n
    c.cut_word.ensures.word c.cut_word.ensures.rest (c.in-Some.ensures.some n)
    c.in-Ok.ensures.network)

pub returns-in-Ok-clause-cause : goal.returns-in-Ok-clause-cause
returns-in-Ok-clause-cause c =
    let n = ip_network c.in-Ok.network in
    cause_of_line c.args.grammar (IsAnswerNetwork (IsMember c.args.set.now)) c.args.text.now c.in-Some.sign n
    c.fit.result c.fit.ensures.cause
    (signed_text c.args.grammar c.args.text.now c.cut_word.result.0.now c.cut_word.result.1.now c.in-Some.sign n
    c.cut_word.ensures.word c.cut_word.ensures.rest (c.in-Some.ensures.some n)
    c.in-Ok.ensures.network)

pub returns-in-Err-clause-cause : goal.returns-in-Err-clause-cause
returns-in-Err-clause-cause c =
    no_network_line c.args.grammar (IsAnswerNetwork (IsMember c.args.set.now)) c.args.text.now
    c.cut_word.result.0.now c.cut_word.result.1.now c.in-Some.sign c.in-Err.cause c.cut_word.ensures.word
    c.cut_word.ensures.rest c.in-Some.ensures.some
    c.in-Err.ensures.none c.in-Err.ensures.cause
