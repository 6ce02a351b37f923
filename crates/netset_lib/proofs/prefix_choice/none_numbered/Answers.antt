-- One entry has a number, or none has.
use Rattle.std.proofs.Common.{◌≡◌, All, map, subst, refl, arith, None}
use Rattle.std.proofs.lemmas.Bool.{false≢true}
use Rattle.std.proofs.lemmas.List.{take_all}
use Rattle.netset_lib.specs.PrefixEntryOf.{entry_of}
use Rattle.netset_lib.proofs.PrefixChoiceLaws.{seen_at, all_seen_more, none_of_not}
use Rattle.netset_lib.proofs.prefix_choice.none_numbered.Goals as goal

pub returns-then-has_number : goal.returns-then-has_number
returns-then-has_number c = (
  λ t. absurd (false≢true t),
  λ all. absurd (c.has_number.ensures.0 c.if-has_number.true (seen_at entry_of (λ e. e.number ≡ None)
      c.args.entries.now c.loop-entry.entry-index c.entry-item.result c.loop-entry-test.true c.entry-item.is all)),
)

pub loop-entry-preserved : goal.loop-entry-preserved
loop-entry-preserved c =
    all_seen_more (λ e. e.number ≡ None) c.args.entries.now c.loop-entry.entry-index c.entry-item.result
    c.loop-entry-test.true c.entry-item.is c.loop-entry.invariant
    (none_of_not c.entry-item.result.number (λ some.
    let yes = c.has_number.ensures.1 some in let is_not = c.if-has_number.false in absurd cc))

pub returns : goal.returns
returns c = (
  λ t. subst (λ z. All (λ e. e.number ≡ None) (map entry_of z))
      (take_all c.loop-entry.entry-index c.args.entries.now (omega (arith, c.loop-entry-test.false)))
      c.loop-entry.invariant,
  λ all. refl,
)
