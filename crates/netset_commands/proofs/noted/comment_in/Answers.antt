use Rattle.std.proofs.Common.{◌∙◌, inl, inr, refl, sym}
use Rattle.netset_commands.proofs.CommentLaws.{none_here, split_here}
use Rattle.netset_commands.proofs.noted.comment_in.Goals as goal

pub returns-then-ends_in_colon : goal.returns-then-ends_in_colon
returns-then-ends_in_colon c =
    let front = c.in-Some.front.now in
    let rest = c.in-Some.rest.now in
    let cases = c.in-Some.ensures.cases in
    inr (
      front,
      rest,
      split_here c.args.title.now front cases.0 cases.1 rest cases.2 cases.3 cases.4,
      inl (sym c.ends_in_colon.ensures ∙ c.if-ends_in_colon.true, c.after_colon.ensures),
    )

pub returns-else-ends_in_colon : goal.returns-else-ends_in_colon
returns-else-ends_in_colon c =
    let front = c.in-Some.front.now in
    let rest = c.in-Some.rest.now in
    let cases = c.in-Some.ensures.cases in
    inr (
      front,
      rest,
      split_here c.args.title.now front cases.0 cases.1 rest cases.2 cases.3 cases.4,
      inr (sym c.ends_in_colon.ensures ∙ c.if-ends_in_colon.false, refl),
    )

pub returns-in-None : goal.returns-in-None
returns-in-None c = inl (none_here c.args.title.now c.in-None.ensures.cases, refl)
