-- Two entries side by side have one place, or no two have.
use Rattle.std.proofs.Common.{◌≡◌, ◌+◌, ◌-◌, map, slice_index, get_or, refl, sym, ap, ◌∙◌, subst, arith, inl, inr}
use Rattle.std.proofs.Common.{None}
use Rattle.std.proofs.lemmas.Bool.{cases_lt}
use Rattle.netset_lib.specs.PrefixEntries.{place_of}
use Rattle.netset_lib.specs.PrefixEntryOf.{entry_of}
use Rattle.netset_lib.proofs.PrefixChoiceLaws.{seen_at, none_is, place_seen, side_by_side}
use Rattle.netset_lib.proofs.prefix_choice.same_number.Goals as goal

pub returns-then-place_of-clause-some : goal.returns-then-place_of-clause-some
returns-then-place_of-clause-some c =
    let xs = c.args.entries.now in
    let i = c.loop-index.index - 1 in
    let next : c.loop-index.index ≡ i + 1 = omega (arith, c.loop-index.auto.index) in
    let x = c.index-entries-index.result in
    let y = c.index-entries-index-in-loop-index.result in
    let same : c.place_of.result ≡ c.place_of-in-loop-index.result = omega (arith, c.if-place_of.true) in
    side_by_side xs i x y x.number (omega (arith, next, c.loop-index-test.true)) c.index-entries-index.is
    (subst (λ k. y ≡ get_or xs k y) next c.index-entries-index-in-loop-index.is)
    (sym c.place_of.ensures ∙ same ∙ c.place_of-in-loop-index.ensures) refl

pub returns-then-place_of-clause-none : goal.returns-then-place_of-clause-none
returns-then-place_of-clause-none c = λ none i less same.
    let x = c.index-entries-index.result in
    absurd (seen_at entry_of (λ e. e.number ≡ None → ⊥) c.args.entries.now (c.loop-index.index - 1) x
    (omega (arith, c.loop-index-test.true)) c.index-entries-index.is c.requires (none_is x.number none))

pub loop-index-preserved : goal.loop-index-preserved
loop-index-preserved c = λ i less same.
    let xs = c.args.entries.now in
    let places = map place_of (map entry_of xs) in
    let x = c.index-entries-index.result in
    let y = c.index-entries-index-in-loop-index.result in
    elim (cases_lt (i + 1) c.loop-index.index) [
      | inl before ↦ c.loop-index.invariant i before same
      | inr not ↦
          let here : c.loop-index.index - 1 ≡ i = omega (arith, not, less, c.loop-index.auto.index) in
          let there : i + 1 ≡ c.loop-index.index = omega (arith, not, less, c.loop-index.auto.index) in
          let equal : c.place_of.result ≡ c.place_of-in-loop-index.result =
          c.place_of.ensures
          ∙ sym (place_seen xs (c.loop-index.index - 1) x (omega (arith, c.loop-index-test.true))
          c.index-entries-index.is)
          ∙ ap (λ k. slice_index places k) here ∙ same ∙ ap (λ k. slice_index places k) there
          ∙ place_seen xs c.loop-index.index y (omega (arith, c.loop-index-test.true))
          c.index-entries-index-in-loop-index.is
          ∙ sym c.place_of-in-loop-index.ensures in
          let wrong : ⊥ = omega (arith, c.if-place_of.false, equal) in wrong
    ]
