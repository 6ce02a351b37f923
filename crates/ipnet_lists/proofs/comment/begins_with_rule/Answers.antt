use Rattle.std.proofs.Common.{inl}
use Rattle.ipnet_lists.proofs.comment.begins_with_rule.Goals as goal

pub returns-then-begins_with_action : goal.returns-then-begins_with_action
returns-then-begins_with_action c =
    (λ _. inl (c.begins_with_action.ensures.0 c.if-begins_with_action.true), λ _. c.if-begins_with_action.true)
