-- One entry has another name than the first, or none has.
use Rattle.std.proofs.Common.{refl, arith}
use Rattle.std.proofs.lemmas.Bool.{false≢true}
use Rattle.netset_lib.specs.PrefixEntryOf.{entry_of}
use Rattle.netset_lib.proofs.PrefixChoiceLaws.{contains_seen, one_name}
use Rattle.netset_lib.proofs.prefix_choice.have_one_name.Goals as goal

pub returns-then-not-is_same_name : goal.returns-then-not-is_same_name
returns-then-not-is_same_name c =
    let xs = c.args.entries.now in
    let x = c.index-entries-0.result in
    let y = c.index-entries-index.result in (
      λ t. absurd (false≢true t),
      λ one.
          let yes = c.is_same_name.ensures.1 (one (entry_of x) (entry_of y)
          (contains_seen entry_of xs 0 x (omega (arith, c.loop-index-test.true)) c.index-entries-0.is)
          (contains_seen entry_of xs c.loop-index.index y (omega (arith, c.loop-index-test.true))
          c.index-entries-index.is)) in
          let is_not = c.if-not-is_same_name.true in
          absurd cc,
    )

pub returns : goal.returns
returns c = (
  λ t. one_name c.args.entries.now c.loop-index.index (omega (arith, c.loop-index-test.false)) c.loop-index.invariant,
  λ one. refl,
)
