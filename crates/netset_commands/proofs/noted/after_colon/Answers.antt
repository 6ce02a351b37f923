use Rattle.std.proofs.Common.{inl, inr, refl, take}
use Rattle.netset_commands.proofs.CommentLaws.{none_here, split_here}
use Rattle.netset_commands.proofs.noted.after_colon.Goals as goal

pub returns-in-Some : goal.returns-in-Some
returns-in-Some c =
    let text = c.args.text.now in
    let cases = c.in-Some.ensures.cases in
    inr (take cases.0 text, split_here text (take cases.0 text) cases.0 cases.1 c.in-Some.rest.now cases.2 refl cases.4)

pub returns-in-None : goal.returns-in-None
returns-in-None c = inl (none_here c.args.text.now c.in-None.ensures.cases, refl)
