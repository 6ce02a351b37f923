use Rattle.std.proofs.Common.{◌≡◌, []}
use Rattle.netset_words.specs.Items.{IsNextItem}
use Rattle.netset_words.specs.Words.{words_of}
use Rattle.netset_words.specs.WordSteps.{item_of}
use Rattle.netset_words.proofs.Cases.{match_none}
use Rattle.netset_words.proofs.ItemLaws.{item_more, all_items}
use Rattle.netset_words.proofs.line_items.read_items.Goals as goal

pub items-preserved : goal.items-preserved
items-preserved c =
    let before = c.items.invariant in
    item_more c.args.request c.args.line.now c.items.rest.now c.in-Some.item.after.now c.args.answer.now.items
    c.items.answer.items c.read_item.new.answer.items c.items.state c.in_ok-state.state (item_of c.in-Some.item) before
    c.in-Some.ensures.item (c.in_ok-state.ensures c.args.answer.now.items before.items before.up_to)

pub returns : goal.returns
returns c =
    all_items c.args.request c.args.line.now c.items.rest.now c.args.answer.now.items c.items.answer.items c.items.state
    c.items.invariant
    (match_none c.next_item.result (words_of c.items.rest.now ≡ [])
    (λ item. IsNextItem c.args.request (words_of c.items.rest.now) (item_of item) (words_of item.after.now))
    c.next_item.ensures.item c.in_default.not-Some)
