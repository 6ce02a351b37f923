-- Sorting and removing repeats keeps every end.
use Rattle.std.proofs.Common.{◌≡◌, ◌+◌, suc, All, [], ◌∷◌, ◌++◌, take, ap, sym, subst, ◌∙◌, arith}
use Rattle.std.proofs.Math.Seq.{take-suc}
use Rattle.std.proofs.lemmas.List.{take_all}
use Rattle.std.proofs.lemmas.List.Filters.{dedup_is}
use Rattle.std.proofs.lemmas.List.Kept.{Contains-dedup_nat}
use Rattle.std.proofs.lemmas.List.Sorted.{Contains-permutation}
use Rattle.std.proofs.lemmas.Map.Keys.{IsStrictlyIncreasing-dedup}
use Rattle.ipnet_rules.specs.Cells.{family_of}
use Rattle.ipnet_rules.proofs.CellLaws.{HasEnds, has_ends_push, all_cuts}
use Rattle.ipnet_rules.proofs.cells.cuts_of.Goals as goal

pub loop-rule-preserved : goal.loop-rule-preserved
loop-rule-preserved c =
    let f = family_of c.args.family in
    let rules = c.args.rules.now in
    let i = c.loop-rule.rule-index in
    let r = c.rule-item.result in
    let next : i + 1 ≡ suc i = omega arith in
    let front : take (i + 1) rules ≡ take i rules ++ r ∷ [] =
    ap (λ k. take k rules) next ∙ (take-suc rules i r c.loop-rule-test.true
    ∙ ap (λ q. take i rules ++ q ∷ []) (sym c.rule-item.is)) in
    subst (All (λ q. HasEnds f c.push_ends.new.cuts.items q.addresses)) (sym front)
    (has_ends_push f c.loop-rule.cuts.items c.push_ends.new.cuts.items (take i rules) r c.in_ok-pieces.pieces.items
    c.loop-rule.invariant
    (subst (λ ps. Rattle.ipnet_rules.specs.Cells.HasEndsAdded c.loop-rule.cuts.items ps c.push_ends.new.cuts.items)
    c.as_slice.ensures.value c.in_ok-push_ends.ensures)
    c.in_ok-pieces.ensures)

pub returns : goal.returns
returns c =
    let f = family_of c.args.family in
    let rules = c.args.rules.now in
    let is = dedup_is _ _ _ c.dedup.ensures.filtered in
    all_cuts f c.loop-rule.cuts.items c.dedup.new.self.items rules
    (subst (All (λ q. HasEnds f c.loop-rule.cuts.items q.addresses))
    (take_all c.loop-rule.rule-index rules (omega (arith, c.loop-rule-test.false))) c.loop-rule.invariant)
    (λ n h. rw is (Contains-dedup_nat _ n (Contains-permutation _ _ n c.sort_unstable.ensures.permutation h)))
    (rw is (IsStrictlyIncreasing-dedup _ c.sort_unstable.ensures.sorted))
