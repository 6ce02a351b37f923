use Rattle.std.proofs.Common.{◌++◌, ◌∷◌, [], List, ℕ, IfOk, subst, sym}
use Rattle.netset_words.specs.ExtractSteps.{IsLineUpTo}
use Rattle.netset_words.specs.Items.{Item}
use Rattle.netset_words.specs.WordSteps.{item_of, item_text}
use Rattle.netset_words.proofs.ItemLaws.{other_item}
use Rattle.netset_words.proofs.line_items.read_item.Goals as goal

pub returns-in-Entry : goal.returns-in-Entry
returns-in-Entry c =
    let item = c.args.item in
    subst (λ k. IfOk c.read_entry_item.result (λ after. (base : List ℕ) → (items : List Item)
    → IsLineUpTo c.args.request base items c.args.answer.now.items c.args.state
    → IsLineUpTo c.args.request base
    (items ++ record { kind = k; text = item_text k item.mapped item.text.now } ∷ [])
    c.read_entry_item.new.answer.items after)) (sym c.in-Entry.is) c.read_entry_item.ensures

pub returns-in-Mask : goal.returns-in-Mask
returns-in-Mask c = λ base items h.
    let item = c.args.item in
    subst (λ k. IsLineUpTo c.args.request base
    (items ++ record { kind = k; text = item_text k item.mapped item.text.now } ∷ [])
    c.args.answer.now.items c.read_mask_item.result) (sym c.in-Mask.is)
    (c.read_mask_item.ensures c.args.request base items c.args.answer.now.items h)

pub returns-in-Other : goal.returns-in-Other
returns-in-Other c = λ base items h.
    other_item c.args.request base c.args.answer.now.items items c.args.state (item_of c.args.item) h c.in-Other.is
