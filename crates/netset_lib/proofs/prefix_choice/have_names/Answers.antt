-- One entry has no name, or all have one.
use Rattle.std.proofs.Common.{◌≡◌, All, map, subst, refl, arith, None}
use Rattle.std.proofs.lemmas.Bool.{false≢true}
use Rattle.std.proofs.lemmas.List.{take_all}
use Rattle.netset_lib.specs.PrefixEntryOf.{entry_of}
use Rattle.netset_lib.proofs.PrefixChoiceLaws.{seen_at}
use Rattle.netset_lib.proofs.prefix_choice.have_names.Goals as goal

pub returns-then-not-has_name : goal.returns-then-not-has_name
returns-then-not-has_name c = (
  λ t. absurd (false≢true t),
  λ all.
      let yes = c.has_name.ensures.1 (seen_at entry_of (λ e. e.name ≡ None → ⊥) c.args.entries.now
      c.loop-entry.entry-index c.entry-item.result c.loop-entry-test.true c.entry-item.is all) in
      let is_not = c.if-not-has_name.true in
      absurd cc,
)

pub returns : goal.returns
returns c = (
  λ t. subst (λ z. All (λ e. e.name ≡ None → ⊥) (map entry_of z))
      (take_all c.loop-entry.entry-index c.args.entries.now (omega (arith, c.loop-entry-test.false)))
      c.loop-entry.invariant,
  λ all. refl,
)
