-- Each range of the set is one piece, or none if it is of the other family.
use Rattle.std.proofs.Common.{IsNone, inl, inr, sym, subst, refl, []}
use Rattle.ipnet_base.specs.Address.{address_at}
use Rattle.ipnet_base.specs.RangeOf.{ip_range}
use Rattle.ipnet_sets.specs.RangesLeft.{ranges_left}
use Rattle.ipnet_rules.specs.Cells.{family_of}
use Rattle.ipnet_rules.proofs.VerdictLaws.{any_nil}
use Rattle.ipnet_rules.proofs.CellLaws.{AreGathered, gathered_push, gathered_skip, gathered_end, number_fits}
use Rattle.ipnet_rules.proofs.cells.pieces_of.Goals as goal

pub loop-range-init : goal.loop-range-init
loop-range-init c =
    let f = family_of c.args.family in
    subst (λ ps. AreGathered f c.args.addresses.now ps (ranges_left c.into_iter-range-iterator.result))
    (sym c.new-pieces.ensures.items)
    (subst (λ r. AreGathered f c.args.addresses.now [] (ranges_left r))
    (sym c.into_iter-range-iterator.ensures.into_iter_gives)
    (λ n.
    let x = address_at f n in
    let members = c.ranges-range-items.ensures.ranges.members x in
    let own = c.in_ok-set.ensures x in (
      λ has. inr (members.0 (own.1 has)),
      λ has. elim has [ inl none ↦ absurd (any_nil _ none) | inr a ↦ own.0 (members.1 a) ],
    )))

pub loop-range-preserved-in-Continue-branch-2 : goal.loop-range-preserved-in-Continue-branch-2
loop-range-preserved-in-Continue-branch-2 c =
    let f = family_of c.args.family in
    subst (λ ps. AreGathered f c.args.addresses.now ps (ranges_left c.next.new.self)) (sym c.in_ok-push.ensures.items)
    (gathered_push f c.args.addresses.now c.loop-range.pieces.items (ranges_left c.loop-range.range-iterator)
    (ranges_left c.next.new.self) (ip_range c.in-Some.range) c.in-Some-piece_of.piece c.in-Some.ensures.steps
    c.loop-range.invariant c.in-Some-piece_of.ensures.some)

pub loop-range-preserved : goal.loop-range-preserved
loop-range-preserved c =
    gathered_skip (family_of c.args.family) c.args.addresses.now c.loop-range.pieces.items
    (ranges_left c.loop-range.range-iterator) (ranges_left c.next.new.self) (ip_range c.in-Some.range)
    c.in-Some.ensures.steps c.loop-range.invariant (c.piece_of.ensures.none (subst IsNone (sym c.in_default.is) refl))

pub returns : goal.returns
returns c = record {
  numbers = gathered_end (family_of c.args.family) c.args.addresses.now c.loop-range.pieces.items
      (ranges_left c.loop-range.range-iterator) c.in-None.ensures.steps.0 c.loop-range.invariant;
  fit = λ n has. number_fits (family_of c.args.family) n
      ((c.in_ok-set.ensures (address_at (family_of c.args.family) n)).1 has).fits;
}
