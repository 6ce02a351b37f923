use Rattle.std.proofs.Common.{◌≡◌, ◌≢◌, ◌<◌, [], length, get_or, subst, arith, rules}
use Rattle.ipnet_text.proofs.LineCuts.{some_bytes}
use Rattle.ipnet_lists.proofs.CommentLaws.{begins_so}
use Rattle.ipnet_lists.proofs.comment.hides_entry.Goals as goal

pub returns-else-begins_with_entry : goal.returns-else-begins_with_entry
returns-else-begins_with_entry c =
    let comment = c.args.comment.now in
    let some : comment ≢ [] = λ e.
    let wrong : 0 < 0 = subst (λ t. 0 < length t) e (some_bytes (length comment) c.if-is_empty.ensures) in
    absurd (omega (arith, wrong)) in
    let semicolon : get_or comment 0 0 ≡ 59 = search rules in
    begins_so comment c.comment_text-text.result.now c.begins_with_entry.result c.begins_with_rule.result some semicolon
    c.comment_text-text.ensures c.begins_with_entry.ensures c.if-begins_with_entry.false c.begins_with_rule.ensures
