-- A named part is in the layout of its name; without a name there is no part.
use Rattle.std.proofs.Common.{sym, subst}
use Rattle.ipnet_sets.specs.Members.{IsMember}
use Rattle.netset_forms.specs.Forms.{AreBlocksIn}
use Rattle.netset_forms.specs.FormSteps.{IsItemsText, IsNamedText, layout_of, named_items, named_layout}
use Rattle.netset_forms.proofs.PartLaws.{text_of_item}
use Rattle.netset_forms.proofs.parts.named_part.Goals as goal

pub returns : goal.returns
returns c =
    let k = c.args.commands in
    let least = c.args.min_length in
    let S = IsMember c.args.set in
    let layout = layout_of c.in_ok-frame.frame in record {
      text_is = λ text h.
          subst (λ o. IsNamedText (named_layout k) (named_items k) o least S text) (sym c.in-Some.is)
          (subst (λ l. AreBlocksIn l (named_items k) least S text) c.in_ok-frame.ensures
          (text_of_item k layout least S text
          (subst (λ i. IsItemsText i layout least S text) c.item_of.ensures (c.network_part.ensures.text_is text h))));
      fits = c.network_part.ensures.fits;
    }

pub returns-in_default : goal.returns-in_default
returns-in_default c = record {
  text_is = λ text h.
      subst (λ o. IsNamedText (named_layout c.args.commands) (named_items c.args.commands) o c.args.min_length
      (IsMember c.args.set) text) (sym c.in_default.is) h;
  fits = λ _. tt;
}
