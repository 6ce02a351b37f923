-- Each turn writes the change of the first networks, if they differ; in the end both lists are empty.
use Rattle.std.proofs.Common.{◌≡◌, ◌++◌, map, sym, ap, ◌∙◌, append-nil, string_bytes}
use Rattle.ipnet.specs.NetworkOf.{ip_network}
use Rattle.netset_lib.proofs.ChangeLaws.{line_of, step_ascending, step_written, written_end}
use Rattle.netset_lib.proofs.changes.push_changes.Goals as goal
use Rattle.netset_lib.proofs.changes.push_changes.Goals.{in-Some-change+in_ok-push_change, in_default-change}

pub loop-step-preserved : goal.loop-step-preserved
loop-step-preserved c =
    let before = map ip_network c.loop-step.before_left.now in
    let after = map ip_network c.loop-step.after_left.now in
    let step = c.in-Some.step in
    let left = map ip_network step.before.now in
    let left_after = map ip_network step.after.now in
    let held = c.loop-step.invariant in
    let rest = step_ascending before after left left_after step.change c.in-Some.ensures.step held.before held.after in
    let line : string_bytes c.match-step.text ≡ string_bytes c.loop-step.text ++ line_of step.change =
    elim c.match-step.branch [
      | in-Some-change+in_ok-push_change w ↦
          ap string_bytes w.text-is ∙ w.in_ok-push_change.ensures
          ∙ ap (λ z. string_bytes c.loop-step.text ++ line_of z) (sym w.in-Some-change.is)
      | in_default-change w ↦
          ap string_bytes w.text-is ∙ sym (append-nil (string_bytes c.loop-step.text))
          ∙ ap (λ z. string_bytes c.loop-step.text ++ line_of z) (sym w.in_default-change.is)
    ] in
    record {
      before = rest.0;
      after = rest.1;
      written = step_written (map ip_network c.args.before.now) (map ip_network c.args.after.now) before after left
          left_after step.change (string_bytes c.args.text.now) (string_bytes c.loop-step.text)
          (string_bytes c.match-step.text) c.in-Some.ensures.step held.before held.after line held.written;
    }

pub returns : goal.returns
returns c =
    let empty = c.in_default.ensures.none in
    written_end (map ip_network c.args.before.now) (map ip_network c.args.after.now)
    (map ip_network c.loop-step.before_left.now) (map ip_network c.loop-step.after_left.now)
    (string_bytes c.args.text.now) (string_bytes c.loop-step.text) (ap (map ip_network) empty.0)
    (ap (map ip_network) empty.1) c.loop-step.invariant.written
