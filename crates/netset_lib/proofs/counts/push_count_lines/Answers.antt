use Rattle.std.proofs.Common.{◌≡◌, ◌+◌, ◌++◌, ◌∷◌, [], refl, sym, ap, ◌∙◌}
use Rattle.std.proofs.Common.{subst, take, take_all, append_assoc}
use Rattle.std.proofs.Common.{append-nil, string_bytes}
use Rattle.std.proofs.lemmas.List.{take_more}
use Rattle.ipnet_sets.specs.Members.{IsMember}
use Rattle.netset_lib.specs.Counts.{IsCountLine, AreCountLines}
use Rattle.netset_lib.proofs.CountTexts.{AreFirstLines, first_lines_push, first_lines_whole}
use Rattle.netset_lib.proofs.counts.push_count_lines.Goals as goal

pub loop-set-init : goal.loop-set-init
loop-set-init c = (refl, ([], sym (append-nil (string_bytes c.args.text.now)), record { go_on = λ later more k. k }))

pub loop-set-preserved : goal.loop-set-preserved
loop-set-preserved c =
    let (at, (lines, is, first)) = c.loop-set.invariant in
    let sets = c.args.sets.now in
    let set = c.set-item.result in
    let (line, line_is, pushed) = c.in_ok-push_count_line.ensures in
    let more : take (c.loop-set.set-index + 1) sets ≡ take c.loop-set.set-index sets ++ set ∷ [] =
    take_more sets c.loop-set.set-index set c.loop-set-test.true
    ∙ ap (λ z. take c.loop-set.set-index sets ++ z ∷ []) (sym c.set-item.is) in (
      ap (λ z. z + 1) at,
      (
        lines ++ line,
        pushed ∙ ap (λ z. z ++ line) is ∙ append_assoc (string_bytes c.args.text.now) lines line,
        subst (λ z. AreFirstLines c.args.names.now (c.loop-set.index + 1) z (lines ++ line)) (sym more)
            (first_lines_push c.args.names.now c.loop-set.index (take c.loop-set.set-index sets) lines set line first
            (subst (λ z. IsCountLine z (IsMember set) line) c.name_of.ensures line_is)),
      ),
    )

pub returns : goal.returns
returns c =
    let (at, (lines, is, first)) = c.loop-set.invariant in (
      lines,
      subst (λ z. AreCountLines IsMember c.args.names.now 0 z lines)
          (take_all c.loop-set.set-index c.args.sets.now c.loop-set-test.false)
          (first_lines_whole c.args.names.now c.loop-set.index _ lines first),
      is,
    )
