-- Each way out of the loop, and one turn more, by the lemma of `ReaderTurns` on that turn.
use Rattle.std.proofs.Common.{◌≡◌, ◌≢◌, ◌-◌, length, get_or, sym, ◌∙◌, arith, append_assoc}
use Rattle.ipnet.specs.ReaderSteps.{read_groups}
use Rattle.ipnet.specs.ReaderState.{rest_of}
use Rattle.ipnet.proofs.ReaderTurns.{no_room, dotted, no_group, last_group, goes_on}
use Rattle.ipnet.proofs.parser.reader.Reader.groups.Goals as goal

pub returns-then-len-room-clause-value : goal.returns-then-len-room-clause-value
returns-then-len-room-clause-value c =
    sym (no_room _ _ _ _ _ _ _ (omega arith) c.next_group.invariant.same (c.if-is_at_dot.ensures.dot)
    (omega arith))

pub returns-in_default-clause-value : goal.returns-in_default-clause-value
returns-in_default-clause-value c =
    let whole =
    dotted _ _ _ _ _ _ _ (omega arith) c.next_group.invariant.same (c.if-is_at_dot.ensures.dot)
    (omega arith) in
    sym (whole ∙ rw (← c.next_group.invariant.forward.grammar, ← c.in_default.ensures.value))

pub returns-then-is_at_dot-clause-value : goal.returns-then-is_at_dot-clause-value
returns-then-is_at_dot-clause-value c =
    let whole =
    dotted _ _ _ _ _ _ _ (omega arith) c.next_group.invariant.same (c.if-is_at_dot.ensures.dot)
    (omega arith) in
    sym (whole ∙ rw (
      ← c.next_group.invariant.forward.grammar,
      ← c.in-Some.ensures.value,
      c.push-then-is_at_dot.ensures.items,
      c.push.ensures.items,
      append_assoc,
    ))

pub returns-then-is_empty-clause-value : goal.returns-then-is_empty-clause-value
returns-then-is_empty-clause-value c =
    sym (no_group _ _ _ _ _ _ _ (omega arith) c.next_group.invariant.same c.if-is_at_dot.ensures.other
    (sym c.is_empty.ensures ∙ c.if-is_empty.true))

pub returns-then-not-separator-clause-value : goal.returns-then-not-separator-clause-value
returns-then-not-separator-clause-value c =
    let other : get_or (rest_of c.next_group.self) 0 0 ≢ 46 = c.if-is_at_dot.ensures.other in
    let whole =
    last_group _ _ _ _ _ _ _ (omega arith) c.next_group.invariant.same _ other
    (sym c.is_empty.ensures ∙ c.if-is_empty.false) c.next_group.run.is_number (sym c.if-not-separator.ensures.single) in
    sym (whole ∙ rw (← c.push-in-next_group.ensures.items, ← c.if-not-separator.ensures.not_taken))

pub next_group-preserved : goal.next_group-preserved
next_group-preserved c =
    let other : get_or (rest_of c.next_group.self) 0 0 ≢ 46 = c.if-is_at_dot.ensures.other in
    record {
      fits = omega (arith, c.push-in-next_group.ensures.len);
      forward = record {
        position =
            omega (
              arith,
              c.next_group.invariant.forward.position,
              c.separator.ensures.forward.position,
              c.run-run.ensures.forward.position,
            );
        text = c.run-run.ensures.forward.text ∙ c.separator.ensures.forward.text ∙ c.next_group.invariant.forward.text;
        grammar =
            c.run-run.ensures.forward.grammar ∙ c.separator.ensures.forward.grammar
            ∙ c.next_group.invariant.forward.grammar;
      };
      same =
          goes_on _ _ _ _ _ _ _ (omega arith) c.next_group.invariant.same _ _ _ _ _ _ other
          (sym c.is_empty.ensures ∙ c.if-is_empty.false) c.next_group.run.is_number c.if-not-separator.ensures.single
          c.push-in-next_group.ensures.len c.push-in-next_group.ensures.items c.if-not-separator.ensures.taken
          c.run-run.ensures.digits c.run-run.ensures.rest;
    }

pub returns-clause-value : goal.returns-clause-value
unfolding read_groups
returns-clause-value c =
    let none : c.args.room - length c.next_group.groups.items ≡ 0 = omega arith in
    sym (c.next_group.invariant.same ∙ rw none)
