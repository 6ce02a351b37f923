use Rattle.std.proofs.Common.{arith}
use Rattle.ipnet_lists.proofs.CommentLaws.{none_opens}
use Rattle.ipnet_lists.proofs.comment.comment_start.Goals as goal

pub loop-index-preserved : goal.loop-index-preserved
loop-index-preserved c =
    none_opens c.args.line.now c.loop-index.index c.loop-index.invariant
    (λ h.
    let is = c.opens_comment.ensures.1 h in
    let not = c.if-opens_comment.false in
    absurd cc)

pub returns : goal.returns
returns c = record {
  within = omega arith;
  opens = λ less. absurd (omega (arith, less));
  first = λ k less. c.loop-index.invariant k (omega (arith, less, c.loop-index-test.false));
}
