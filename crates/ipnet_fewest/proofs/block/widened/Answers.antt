-- The block has the same routes if the value is one of the best; else one choice more.
use Rattle.std.proofs.Common.{[], ◌∷◌, ◌≡◌, length, nat_eq, vec_len, rules, refl, sym, ap, ◌∙◌, subst, arith}
use Rattle.std.proofs.Common.{Contains}
use Rattle.std.proofs.lemmas.Bool.{eqb-true, eqb-false}
use Rattle.std.proofs.lemmas.List.{length-append}
use Rattle.ipnet_base.proofs.ResultLaws.{true_gives, false_gives}
use Rattle.ipnet_fewest.specs.ItemsOf.{items_of}
use Rattle.ipnet_fewest.specs.Plans.{choices_of}
use Rattle.ipnet_fewest.specs.Solved.{AreValuesBeside}
use Rattle.ipnet_fewest.proofs.BestLaws.{wider_same, wider_choice, block_of}
use Rattle.ipnet_fewest.proofs.block.widened.Goals as goal

pub returns-then-has_value : goal.returns-then-has_value
returns-then-has_value c old routes b inside =
    let now = c.args.choices.now.items in
    let around = c.args.around.now in
    let value = c.args.value in
    let has = subst (λ z. Contains z value) c.as_slice.ensures
    (true_gives c.has_value.result c.has_value.ensures c.if-has_value.true) in
    block_of old now around routes value _ refl
    (wider_same old now routes value around c.args.inner b inside c.requires.within c.requires.longer has
    (value ∷ []) refl)
    (omega (arith, b.size, ap length b.best.added, length-append old (choices_of b.best.plan)))

pub returns : goal.returns
returns c old routes b inside =
    let now = c.args.choices.now.items in
    let around = c.args.around.now in
    let inner = c.args.inner in
    let value = c.args.value in
    let parent = c.parent_and_sibling-parent.result.0 in
    let h = c.parent_and_sibling-parent.ensures in
    let is_half = nat_eq c.prefix_len.result c.prefix_len-2.result in
    let out : Contains (items_of inner.values) value → ⊥ =
    λ d. false_gives c.has_value.result c.has_value.ensures c.if-has_value.false
    (subst (λ z. Contains z value) (sym c.as_slice.ensures) d) in
    let size : vec_len c.args.choices.now ≡ length now = search rules in
    let new_size : vec_len c.push.new.self ≡ length c.push.new.self.items = search rules in
    block_of old c.push.new.self.items around routes value _ refl
    (wider_choice old now routes value around inner b inside c.requires.within c.requires.longer out parent
    c.parent_and_sibling-parent.result.1 h c.requires.truncated c.push.new.self.items c.in_ok-push.ensures.items
    (items_of c.in_ok-values.values) is_half
    (λ e. sym c.prefix_len.ensures ∙ eqb-true c.prefix_len.result c.prefix_len-2.result e ∙ c.prefix_len-2.ensures)
    (λ e. omega (
      arith,
      eqb-false c.prefix_len.result c.prefix_len-2.result e,
      c.prefix_len.ensures,
      c.prefix_len-2.ensures,
      c.requires.longer,
      h.first_len,
    ))
    (subst (λ z. AreValuesBeside is_half z value (items_of c.in_ok-values.values)) c.as_slice-2.ensures
    c.in_ok-values.ensures))
    (omega (
      arith,
      c.len.ensures,
      c.len-2.ensures,
      size,
      new_size,
      c.in_ok-push.ensures.len,
      b.size,
      ap length b.best.added,
      length-append old (choices_of b.best.plan),
    ))
