use Rattle.std.proofs.Common.{refl, inl, inr}
use Rattle.netset_words.specs.ExtractSteps.{entry_item}
use Rattle.netset_words.specs.WordSteps.{shown_text}
use Rattle.netset_words.proofs.ItemLaws.{entry_wanted, entry_unwanted}
use Rattle.netset_words.proofs.line_items.read_entry_item.Goals as goal
use Rattle.netset_words.proofs.line_items.read_entry_item.Goals.{else-request-via-then-request+else-state}
use Rattle.netset_words.proofs.line_items.read_entry_item.Goals.{else-request-via-else-request}

pub returns-then-state : goal.returns-then-state
returns-then-state c = λ base items h.
    entry_unwanted c.args.request base c.args.answer.now.items items c.args.state
    (entry_item (shown_text c.args.item.mapped c.args.item.text.now)) h
    c.args.state refl c.if-request.true c.if-state.true c.if-state.true refl

pub returns : goal.returns
returns c = λ base items h.
    entry_wanted c.args.request base c.args.answer.now.items items c.args.state
    (entry_item (shown_text c.args.item.mapped c.args.item.text.now)) h
    c.push_item.new.answer.items _ refl
    (elim c.else-request.branch [
      | else-request-via-then-request+else-state w ↦ inr w.if-state.false
      | else-request-via-else-request w ↦ inl w.if-request.false
    ])
    c.in_ok-push_item.ensures refl refl
