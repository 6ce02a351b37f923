-- The reply, of `ListReplies`, is proved of the text as UTF-8 hands it back, and so of the bytes that were lent.
use Rattle.std.proofs.Common.{sym, subst, IsUtf8, Err}
use Rattle.ipnet_tool.specs.Answers.{IsTextAnswer}
use Rattle.ipnet_c.specs.Replies.{IsAggregateReply}
use Rattle.ipnet_c.proofs.ListReplies.{aggregated, not_aggregated}
use Rattle.ipnet_c.proofs.aggregates.aggregate.Goals as goal

pub returns-in-Ok-aggregate_text_as : goal.returns-in-Ok-aggregate_text_as
returns-in-Ok-aggregate_text_as c =
    let (same, utf8) = c.in-Ok.ensures.cases in
    let made = c.write_to_buffer in
    subst (λ t. IsAggregateReply c.args.grammar t c.args.buffer.now made.new.buffer c.args.count.now made.new.count
    made.result) same
    (aggregated c.args.grammar c.in-Ok.text.now c.as_bytes.result.now c.args.buffer.now made.new.buffer c.args.count.now
    made.new.count made.result c.in-Ok-aggregate_text_as.answer (subst IsUtf8 (sym same) utf8)
    c.in-Ok-aggregate_text_as.ensures c.as_bytes.ensures.value made.ensures.known made.ensures.ok
    made.ensures.too_short)

pub returns-in-Err-Memory : goal.returns-in-Err-Memory
returns-in-Err-Memory c =
    let (same, utf8) = c.in-Ok.ensures.cases in
    subst (λ t. IsAggregateReply c.args.grammar t c.args.buffer.now c.args.buffer.now c.args.count.now
    c.args.count.now 3) same
    (not_aggregated c.args.grammar c.in-Ok.text.now c.args.buffer.now c.args.count.now (subst IsUtf8 (sym same) utf8)
    (subst (λ e. IsTextAnswer c.args.grammar c.in-Ok.text.now (Err e)) c.in-Err-Memory.field-0-is
    c.in-Err-Memory.ensures))
