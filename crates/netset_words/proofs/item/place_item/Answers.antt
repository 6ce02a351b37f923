use Rattle.std.proofs.Common.{◌≡◌, true, false, sym, ◌∙◌}
use Rattle.netset_words.proofs.KindLaws.{shown_entry}
use Rattle.netset_words.proofs.item.place_item.Goals as goal

pub returns-then-is_mask_entry-clause-item : goal.returns-then-is_mask_entry-clause-item
returns-then-is_mask_entry-clause-item c = λ w found.
    let mask = c.is_mask_entry.ensures c.args.request.grammar c.args.place.text.now found.kind in
    (found.is, mask.0 c.if-is_mask_entry.true)

pub returns-clause-item : goal.returns-clause-item
returns-clause-item c = λ w found.
    let g = c.args.request.grammar in
    let text = c.args.place.text.now in (
      text,
      found.is,
      (λ m.
          let clash : true ≡ false =
          sym ((c.is_mask_entry.ensures g text found.kind).1 m) ∙ c.if-is_mask_entry.false in
          absurd cc),
      shown_entry c.args.request.mapped g text c.mapped_ipv4.result (c.mapped_ipv4.ensures g text found.kind),
    )
