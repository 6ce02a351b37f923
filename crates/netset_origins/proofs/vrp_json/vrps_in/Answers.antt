use Rattle.std.proofs.Common.{◌≡◌, ◌∙◌, ◌∷◌, ◌++◌, ◌+◌, [], map, take, Some, sym, ap, subst, subst₂, arith}
use Rattle.std.proofs.lemmas.List.{length-map, get_or-map, map-append, take-map, take_more}
use Rattle.std.proofs.lemmas.Option.{slice_get-get_or}
use Rattle.serde_json.specs.View.{view}
use Rattle.netset_origins.specs.VrpJson.{AreVrpItems}
use Rattle.netset_origins.proofs.VrpLaws.{items_last}
use Rattle.netset_origins.proofs.vrp_json.vrps_in.Goals as goal

pub loop-index-preserved : goal.loop-index-preserved
loop-index-preserved c =
    let items = c.args.items.now in
    let i = c.loop-index.index in
    let item = c.index-items-index.result in
    let more : map view (take (i + 1) items) ≡ map view (take i items) ++ view item ∷ []
    = ap (map view)
    (take_more items i item c.loop-index-test.true
    ∙ ap (λ z. take i items ++ z ∷ []) (sym c.index-items-index.is))
    ∙ map-append view (take i items) (item ∷ []) in
    subst₂ (AreVrpItems c.args.grammar) (sym more) (sym c.in_ok-push-in-Ok.ensures.items)
    (items_last c.args.grammar (map view (take i items)) c.loop-index.vrps.items (view item) c.in-Ok.vrp
    c.loop-index.invariant c.in-Ok.ensures.vrp)

pub returns-in-Err-clause-fault : goal.returns-in-Err-clause-fault
returns-in-Err-clause-fault c =
    let items = c.args.items.now in
    let i = c.loop-index.index in
    let item = c.index-items-index.result in
    let inside = c.loop-index-test.true in (
      (
        view item,
        slice_get-get_or (map view items) i (view item) (omega (arith, inside, length-map items view))
            ∙ ap Some (get_or-map view items i item (view item) inside ∙ ap view (sym c.index-items-index.is)),
        c.in-Err.ensures.cause,
      ),
      (
        c.loop-index.vrps.items,
        subst (λ z. AreVrpItems c.args.grammar z c.loop-index.vrps.items) (sym (take-map view i items))
            c.loop-index.invariant,
      ),
    )
