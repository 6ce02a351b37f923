use Rattle.ipnet_lists.proofs.CommentLaws.{cut_at, cut_nowhere}
use Rattle.ipnet_lists.proofs.comment.before_hash.Goals as goal

pub returns-in-Some : goal.returns-in-Some
returns-in-Some c = cut_at 35 c.args.bytes.now c.in-Some.end c.in-Some.ensures.0 c.in-Some.ensures.1

pub returns-in-None : goal.returns-in-None
returns-in-None c = cut_nowhere 35 c.args.bytes.now c.in-None.ensures
