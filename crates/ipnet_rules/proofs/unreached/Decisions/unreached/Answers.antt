-- A rule is unreached if and only if it owns no cell.
use Rattle.std.proofs.Common.{refl, arith, sym, subst}
use Rattle.std.specs.List.Sorted.{IsNonDecreasing}
use Rattle.ipnet_rules.proofs.OwnerLaws.{unreached_if_absent, reached_if_present}
use Rattle.ipnet_rules.proofs.unreached.Decisions.unreached.Goals as goal

pub returns-then-has_place-clause-none : goal.returns-then-has_place-clause-none
returns-then-has_place-clause-none c = λ h.
    let self = c.args.self.now in
    let has = c.has_place.ensures (subst IsNonDecreasing (sym c.as_slice.ensures.value) h.ascending) in
    reached_if_present c.args.rules.now self.ipv4 self.ipv6 h.ipv4 h.ipv6 c.args.place self.reached.items
    (h.members c.args.place) c.as_slice.result.now c.as_slice.ensures.value (has.0 c.if-has_place.true)

pub returns-clause-some : goal.returns-clause-some
returns-clause-some c = λ h.
    let self = c.args.self.now in
    let has = c.has_place.ensures (subst IsNonDecreasing (sym c.as_slice.ensures.value) h.ascending) in
    let unreached =
    unreached_if_absent c.args.rules.now self.ipv4 self.ipv6 h.ipv4 h.ipv6 c.args.place
    (omega (arith, c.if-place-rules.false)) self.reached.items (h.members c.args.place) c.as_slice.result.now
    c.as_slice.ensures.value c.has_place.result has c.if-has_place.false in
    record {
      of_place = refl;
      unreached = unreached;
      deciders = c.in_ok-deciders.ensures unreached h.ipv4 h.ipv6;
    }
