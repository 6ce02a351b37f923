-- The items decide what the text of the part is.
use Rattle.std.proofs.Common.{sym, subst, OnOk, OnErr}
use Rattle.ipnet_sets.specs.Members.{IsMember}
use Rattle.netset_forms.specs.FormSteps.{layout_of, IsItemsText, PutsSome, CutsSome}
use Rattle.netset_forms.proofs.BlockItems.{items_of_blocks}
use Rattle.netset_forms.proofs.blocks.put_part.Goals as goal

pub returns-in_default : goal.returns-in_default
returns-in_default g c =
    let held = g.W.Write.contents in
    let p = c.args.part.now in
    let same =
    items_of_blocks p.item (layout_of p.frame) p.min_length (IsMember p.set) c.in_default.not-Range in record {
      ok = subst (λ P. OnOk c.put_blocks.result (PutsSome P (held c.args.out.now) (held c.put_blocks.new.out)
          c.args.piece.now.bytes c.put_blocks.new.piece.bytes)) same c.put_blocks.ensures.ok;
      cut = subst (λ P. OnErr c.put_blocks.result (CutsSome P (held c.args.out.now) (held c.put_blocks.new.out)
          c.args.piece.now.bytes)) same c.put_blocks.ensures.cut;
    }

pub returns-in-Range-clause-ok : goal.returns-in-Range-clause-ok
returns-in-Range-clause-ok g c =
    let held = g.W.Write.contents in
    let p = c.args.part.now in
    subst (λ i. OnOk c.put_ranges.result (PutsSome (IsItemsText i (layout_of p.frame) p.min_length (IsMember p.set))
    (held c.args.out.now) (held c.put_ranges.new.out) c.args.piece.now.bytes c.put_ranges.new.piece.bytes))
    (sym c.in-Range.is) c.put_ranges.ensures.ok

pub returns-in-Range-clause-cut : goal.returns-in-Range-clause-cut
returns-in-Range-clause-cut g c =
    let held = g.W.Write.contents in
    let p = c.args.part.now in
    subst (λ i. OnErr c.put_ranges.result (CutsSome (IsItemsText i (layout_of p.frame) p.min_length (IsMember p.set))
    (held c.args.out.now) (held c.put_ranges.new.out) c.args.piece.now.bytes))
    (sym c.in-Range.is) c.put_ranges.ensures.cut
