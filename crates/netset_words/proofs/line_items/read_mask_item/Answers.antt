use Rattle.std.proofs.Common.{refl}
use Rattle.netset_words.specs.ExtractSteps.{mask_item}
use Rattle.netset_words.proofs.ItemLaws.{later_mask, first_mask}
use Rattle.netset_words.proofs.line_items.read_mask_item.Goals as goal

pub returns-in-Some : goal.returns-in-Some
returns-in-Some c = λ how base items answer h.
    later_mask how base answer items c.args.state (mask_item c.args.text.now) h c.in-Some.field-0 refl c.in-Some.is

pub returns-in-None : goal.returns-in-None
returns-in-None c = λ how base items answer h.
    first_mask how base answer items c.args.state (mask_item c.args.text.now) h _ c.args.text refl c.in-None.is refl
    refl refl
