-- The lines of one rule more, if it is unreached; the piece is written at the end.
use Rattle.std.proofs.Common.{◌+◌, ◌++◌, List, length, map, sym, ap, subst, arith, IfSome, IfNone}
use Rattle.std.specs.Io.{StartsWith}
use Rattle.std.specs.Io.KnownBytes.{Appends}
use Rattle.ipnet_text.specs.Pieces.{IsInPieces}
use Rattle.ipnet_rules.specs.Decisions.{AreDecisions}
use Rattle.ipnet_rules.specs.UnreachedRules.{IsUnreached, IsUnreachedAt}
use Rattle.netset_lib.specs.RuleContentsOf.{line_of_rule}
use Rattle.netset_lib.specs.RuleWriting.{rule_lines}
use Rattle.netset_lib.proofs.RuleWritingLaws.{AreWrittenTo, written_none, written_skip, written_more}
use Rattle.netset_lib.proofs.RuleWritingLaws.{stopped, stopped_in, front_out, whole_out}
use Rattle.netset_lib.proofs.rule_writing.write_unreached.Goals as goal
use Rattle.netset_lib.proofs.rule_writing.write_unreached.Goals.{in-Some+in_ok-put_rule, in_default}

pub loop-place-init : goal.loop-place-init
loop-place-init g c =
    written_none c.args.prepared.now.rules.items (map line_of_rule c.args.prepared.now.lines.items)
    (g.W.Write.contents c.args.out.now) c.new-piece.result.items c.new-piece.ensures.items

pub loop-place-preserved : goal.loop-place-preserved
loop-place-preserved g c =
    let held = g.W.Write.contents in
    let rules = c.args.prepared.now.rules.items in
    let lines = map line_of_rule c.args.prepared.now.lines.items in
    let i = c.loop-place.place in
    let all = c.as_slice-rules.ensures.value in
    let start = held c.args.out.now in
    let decided = subst (λ z. AreDecisions z c.args.prepared.now.decisions) (sym all) c.requires.decided in
    elim c.match-found.branch [
      | in-Some+in_ok-put_rule w ↦
          let put = w.put_rule.new in
          let u = w.in-Some.unreached in
          let is = subst (λ z. IsUnreachedAt z i u) all
          (subst (λ z. IfSome z (IsUnreachedAt c.as_slice-rules.result.now i)) w.in-Some.is
          (c.in_ok-found.ensures.some decided)) in
          subst (λ o. AreWrittenTo rules lines (i + 1) start (held o) c.match-found.piece.items) (sym w.out-is)
          (subst (λ z. AreWrittenTo rules lines (i + 1) start (held put.out) z.items) (sym w.piece-is)
          (written_more rules lines i start (held c.loop-place.out) (held put.out) c.loop-place.piece.items
          put.piece.items u c.loop-place.invariant is
          (subst (λ z. IsInPieces (held c.loop-place.out) (held put.out) put.piece.items
          (c.loop-place.piece.items ++ rule_lines (map line_of_rule z) u)) w.as_slice.ensures.value
          w.in_ok-put_rule.ensures.whole)))
      | in_default w ↦
          subst (λ o. AreWrittenTo rules lines (i + 1) start (held o) c.match-found.piece.items) (sym w.out-is)
          (subst (λ z. AreWrittenTo rules lines (i + 1) start (held c.loop-place.out) z.items) (sym w.piece-is)
          (written_skip rules lines i start (held c.loop-place.out) c.loop-place.piece.items c.loop-place.invariant
          (subst (λ z. IsUnreached z i → ⊥) all
          (subst (λ z. IfNone z (IsUnreached c.as_slice-rules.result.now i → ⊥)) w.in_default.is
          (c.in_ok-found.ensures.none decided)))))
    ]

pub returns-in_err-put_rule-clause-front : goal.returns-in_err-put_rule-clause-front
returns-in_err-put_rule-clause-front g c =
    let held = g.W.Write.contents in
    let rules = c.args.prepared.now.rules.items in
    let lines = map line_of_rule c.args.prepared.now.lines.items in
    let i = c.loop-place.place in
    let all = c.as_slice-rules.ensures.value in
    let decided = subst (λ z. AreDecisions z c.args.prepared.now.decisions) (sym all) c.requires.decided in
    let u = c.in-Some.unreached in
    let here = held c.loop-place.out in
    let there = held c.put_rule.new.out in
    stopped_in rules lines i (held c.args.out.now) here there c.loop-place.piece.items u c.requires.answered.each
    c.loop-place.invariant (omega (arith, c.loop-place-test.true, ap length all))
    (subst (λ z. IsUnreachedAt z i u) all
    (subst (λ z. IfSome z (IsUnreachedAt c.as_slice-rules.result.now i)) c.in-Some.is
    (c.in_ok-found.ensures.some decided)))
    (subst (λ z. (front : List _) × StartsWith (c.loop-place.piece.items ++ rule_lines (map line_of_rule z) u) front
    × Appends here there front) c.as_slice.ensures.value c.put_rule.ensures.front)

pub returns-in_err-found-clause-front : goal.returns-in_err-found-clause-front
returns-in_err-found-clause-front g c =
    let held = g.W.Write.contents in
    stopped c.args.prepared.now.rules.items (map line_of_rule c.args.prepared.now.lines.items) c.loop-place.place
    (held c.args.out.now) (held c.loop-place.out) c.loop-place.piece.items c.requires.answered.each
    c.loop-place.invariant
    (omega (arith, c.loop-place-test.true, ap length c.as_slice-rules.ensures.value))

pub returns-then-write_and_flush-clause-whole : goal.returns-then-write_and_flush-clause-whole
returns-then-write_and_flush-clause-whole g c =
    let held = g.W.Write.contents in
    whole_out c.args.prepared.now.rules.items (map line_of_rule c.args.prepared.now.lines.items) c.loop-place.place
    (held c.args.out.now) (held c.loop-place.out) (held c.write_and_flush.new.out) c.loop-place.piece.items
    c.loop-place.invariant
    (omega (arith, c.loop-place-test.false, c.loop-place.auto.place-end, ap length c.as_slice-rules.ensures.value))
    (subst (Appends (held c.loop-place.out) (held c.write_and_flush.new.out)) c.as_slice-2.ensures.value
    (c.write_and_flush.ensures.whole c.if-write_and_flush.true))

pub returns-then-write_and_flush-clause-front : goal.returns-then-write_and_flush-clause-front
returns-then-write_and_flush-clause-front g c =
    let held = g.W.Write.contents in
    let here = held c.loop-place.out in
    let there = held c.write_and_flush.new.out in
    front_out c.args.prepared.now.rules.items (map line_of_rule c.args.prepared.now.lines.items) c.loop-place.place
    (held c.args.out.now) here there c.loop-place.piece.items c.requires.answered.each c.loop-place.invariant
    (omega (arith, c.loop-place.auto.place-end, ap length c.as_slice-rules.ensures.value))
    (subst (λ z. (front : List _) × StartsWith z front × Appends here there front) c.as_slice-2.ensures.value
    c.write_and_flush.ensures.front)

pub returns-clause-front : goal.returns-clause-front
returns-clause-front g c =
    let held = g.W.Write.contents in
    let here = held c.loop-place.out in
    let there = held c.write_and_flush.new.out in
    front_out c.args.prepared.now.rules.items (map line_of_rule c.args.prepared.now.lines.items) c.loop-place.place
    (held c.args.out.now) here there c.loop-place.piece.items c.requires.answered.each c.loop-place.invariant
    (omega (arith, c.loop-place.auto.place-end, ap length c.as_slice-rules.ensures.value))
    (subst (λ z. (front : List _) × StartsWith z front × Appends here there front) c.as_slice-2.ensures.value
    c.write_and_flush.ensures.front)
