-- Texts that are not read have no result. Memory does not run out if neither set has an address, because this is tested
-- first.
use Rattle.std.proofs.Common.{[], sym, ◌∙◌, subst}
use Rattle.std.proofs.lemmas.Bool.{false≢true}
use Rattle.ipnet.specs.declared.parser.Grammar.TheVariants.{Strict}
use Rattle.ipnet_sets.specs.Members.{IsMember}
use Rattle.ipnet_lists.specs.SetLines.{AreNetworkLines}
use Rattle.ipnet_c.specs.Replies.{IsSetReply}
use Rattle.ipnet_c.proofs.BadTexts.{later_no_memory}
use Rattle.ipnet_c.proofs.ListReplies.{good_at_once}
use Rattle.ipnet_c.proofs.SetReplies.{combined, not_read, empty_of_empty, text_of_both}
use Rattle.ipnet_c.proofs.TakenLaws.{empty_set}
use Rattle.ipnet_c.proofs.sets.write_combined_text.Goals as goal
use Rattle.ipnet_c.proofs.sets.write_combined_text.Goals.{else-is_empty-via-else-is_empty}
use Rattle.ipnet_c.proofs.sets.write_combined_text.Goals.{else-is_empty-via-then-is_empty+else-is_empty-2}

pub returns-in-Err : goal.returns-in-Err
returns-in-Err c =
    not_read c.args.operation c.args.texts.0.now c.args.texts.1.now c.args.buffer.now c.args.count.now
    c.sets_of_texts.new.line c.in-Err.status c.in-Err.ensures.bad

pub returns-then-is_empty-2 : goal.returns-then-is_empty-2
returns-then-is_empty-2 c =
    let (utf8, utf8_other, h, k, kept) = c.in-Ok.ensures.sets in
    let made = c.write_to_buffer in
    combined c.args.operation c.args.texts.0.now c.args.texts.1.now [] c.args.buffer.now made.new.buffer
    c.args.count.now made.new.count made.result utf8 utf8_other
    (empty_of_empty c.args.operation c.args.texts.0.now c.args.texts.1.now c.in-Ok.sets.0 c.in-Ok.sets.1 h k
    (c.is_empty.ensures.0 c.if-is_empty.true) (c.is_empty-then-is_empty.ensures.0 c.if-is_empty-2.true))
    made.ensures.known made.ensures.ok made.ensures.too_short

pub returns-in_default : goal.returns-in_default
returns-in_default c =
    let text = c.args.texts.0.now in
    let other = c.args.texts.1.now in
    let (utf8, utf8_other, h, k, kept) = c.in-Ok.ensures.sets in
    subst (λ count. IsSetReply c.args.operation text other c.args.buffer.now c.args.buffer.now c.args.count.now count 3)
    (sym kept)
    (not_read c.args.operation text other c.args.buffer.now c.args.count.now c.args.count.now 3
    (later_no_memory text other c.args.count.now utf8 utf8_other
    (λ none none_other. elim c.else-is_empty.branch [
      | else-is_empty-via-else-is_empty w ↦ false≢true (sym w.if-is_empty.false
          ∙ c.is_empty.ensures.1 (empty_set Strict text c.in-Ok.sets.0 h none))
      | else-is_empty-via-then-is_empty+else-is_empty-2 w ↦ false≢true (sym w.if-is_empty-2.false
          ∙ w.is_empty-then-is_empty.ensures.1 (empty_set Strict other c.in-Ok.sets.1 k none_other))
    ])
    (good_at_once Strict text h.networks h.written)
    (λ none. good_at_once Strict other k.networks k.written)))

pub returns : goal.returns
returns c =
    let text = c.args.texts.0.now in
    let other = c.args.texts.1.now in
    let (utf8, utf8_other, h, k, kept) = c.in-Ok.ensures.sets in
    let made = c.write_to_buffer-2 in
    let (set, is, spelled) = c.in-Ok-combined_text.ensures in
    combined c.args.operation text other c.as_bytes.result.now c.args.buffer.now made.new.buffer c.args.count.now
    made.new.count made.result utf8 utf8_other
    (text_of_both c.args.operation text other c.as_bytes.result.now c.in-Ok.sets.0 c.in-Ok.sets.1 set h k is
    (subst (AreNetworkLines (IsMember set)) (sym c.as_bytes.ensures.value) spelled))
    made.ensures.known made.ensures.ok made.ensures.too_short
