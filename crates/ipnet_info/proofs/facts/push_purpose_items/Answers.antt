use Rattle.std.proofs.Common.{◌≡◌, ◌+◌, ◌++◌, ◌∷◌, drop, map, sym, ap, subst, ◌∙◌, append-nil, string_bytes, arith}
use Rattle.std.proofs.lemmas.List.{drop_more, drop_all}
use Rattle.ipnet_info.specs.Facts.{items, purpose_item}
use Rattle.ipnet_info.specs.RegistryRows.{purpose_of, purposes_of}
use Rattle.ipnet_info.proofs.FactTexts.{then_, next_item}
use Rattle.ipnet_info.proofs.facts.push_purpose_items.Goals as goal

pub loop-purpose-preserved : goal.loop-purpose-preserved
loop-purpose-preserved c =
    let form = c.args.form in
    let text = string_bytes c.loop-purpose.text in
    let i = c.loop-purpose.purpose-index in
    next_item form c.loop-purpose.is_first (purpose_item form (purpose_of c.purpose-item.result))
    (map (purpose_item form) (purposes_of (drop (i + 1) c.args.purposes.now))) _
    (then_ c.in_ok-push_comma.ensures c.in_ok-push_purpose_item.ensures)
    (ap (λ left. text ++ items form c.loop-purpose.is_first (map (purpose_item form) (purposes_of left)))
    (ap (λ first. first ∷ drop (i + 1) c.args.purposes.now) c.purpose-item.is
    ∙ sym (drop_more c.args.purposes.now i _ c.loop-purpose-test.true))
    ∙ c.loop-purpose.invariant)

pub returns : goal.returns
returns c =
    let form = c.args.form in
    let text = string_bytes c.loop-purpose.text in
    record {
      is = sym (append-nil text)
          ∙ ap (λ left. text ++ items form c.loop-purpose.is_first (map (purpose_item form) (purposes_of left)))
          (sym (drop_all c.loop-purpose.purpose-index c.args.purposes.now
          (omega (arith, c.loop-purpose-test.false, c.loop-purpose.auto.purpose-index-end))))
          ∙ c.loop-purpose.invariant;
    }
