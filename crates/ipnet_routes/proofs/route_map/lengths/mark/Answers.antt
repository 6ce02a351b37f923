-- One more mask has the length.
use Rattle.std.proofs.Common.{◌≡◌, ◌<◌, length, get_or, inl, inr, refl, sym, ◌∙◌, arith, subst}
use Rattle.std.proofs.lemmas.Bool.{cases_eq}
use Rattle.std.proofs.lemmas.List.{length-set, get_or-set_other, get_or_default}
use Rattle.std.proofs.lemmas.Grind.{get_or-set_at}
use Rattle.ipnet_routes.specs.RouteLengths.{HasLength}
use Rattle.ipnet_routes.proofs.route_map.lengths.mark.Goals as goal

pub loop-index-init : goal.loop-index-init
loop-index-init c = record {
  size = refl;
  keeps = λ i n h. h;
  has = λ i from lt inside. absurd (omega (arith, from, lt));
}

pub loop-index-preserved : goal.loop-index-preserved
loop-index-preserved c =
    let masks = c.loop-index.masks.items in
    let h = c.loop-index.invariant in
    let i = c.loop-index.index in
    let new = c.with_length.result in
    let mask = c.index.result.now in
    let inside : i < length masks = omega (arith, h.size) in
    let read : get_or masks i 0 ≡ mask = get_or_default masks i 0 mask inside ∙ sym c.index.ensures in
    record {
      size = length-set masks i new ∙ h.size;
      keeps = λ j n has. elim (cases_eq j i) [
        | inl same ↦ subst (λ z. HasLength z n) (sym (get_or-set_at masks i j new 0 same inside))
            (c.with_length.ensures.keeps n (subst (λ z. HasLength z n) read
            (subst (λ z. HasLength (get_or masks z 0) n) same (h.keeps j n has))))
        | inr other ↦ subst (λ z. HasLength z n) (sym (get_or-set_other masks i j new 0 other)) (h.keeps j n has)
      ];
      has = λ j from lt within. elim (cases_eq j i) [
        | inl same ↦ subst (λ z. HasLength z c.args.len) (sym (get_or-set_at masks i j new 0 same inside))
            c.with_length.ensures.has
        | inr other ↦ subst (λ z. HasLength z c.args.len) (sym (get_or-set_other masks i j new 0 other))
            (h.has j from (omega (arith, lt, other)) (omega (arith, within, length-set masks i new)))
      ];
    }
