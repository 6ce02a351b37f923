use Rattle.std.proofs.Common.{◌∙◌, [], refl, subst, sym, string_bytes}
use Rattle.std.proofs.lemmas.Result.{IfOk-weaker}
use Rattle.ipnet.specs.NetworkOf.{ip_network}
use Rattle.ipnet_sets.specs.Members.{IsMember}
use Rattle.svg_maps.specs.Legends.{IsOutsideNote}
use Rattle.svg_maps.specs.Overlays.{AreOutlinesOver, IsOutlinedMap, IsOutlinedSetMap}
use Rattle.svg_maps.proofs.shown.set_map_text.Goals as goal

pub returns : goal.returns
returns c =
    let n = ip_network c.args.frame.now in
    let d = c.in_ok-drawing.drawing in
    let look = c.args.look in
    let set = c.args.set.now in
    let outlines = c.in_ok-overlay.overlay.outlines.items in
    let note = c.as_str-2.result.now in
    IfOk-weaker c.map_text.result (λ text. IsOutlinedMap n _ d [] note c.as_str.result.now outlines (string_bytes text))
    (λ text. IsOutlinedSetMap look set n (string_bytes text)) (λ text m. (
      record {
        drawing = d;
        drawn = c.in_ok-drawing.ensures;
        counted = _;
        sets = refl;
        words = refl;
        note = note;
        outside = subst (IsOutsideNote (IsMember set) n) (sym c.as_str-2.ensures.value) c.in_ok-note.ensures;
        page = m.0;
      },
      record {
        style = m.1 ∙ c.as_str.ensures.value ∙ c.in_ok-style.ensures;
        outlines = subst (AreOutlinesOver look _ (IsMember set) n d.depth) (sym m.2) c.in_ok-overlay.ensures;
      },
    )) c.map_text.ensures
