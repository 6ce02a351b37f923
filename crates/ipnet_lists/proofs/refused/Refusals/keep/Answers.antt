use Rattle.std.proofs.Common.{◌≡◌, length, arith}
use Rattle.std.proofs.lemmas.List.{length-map}
use Rattle.ipnet_lists.specs.RefusedLines.{shown_refusals, refusal_of}
use Rattle.ipnet_lists.proofs.RefusalLaws.{no_room}
use Rattle.ipnet_lists.proofs.refused.Refusals.keep.Goals as goal

pub returns-then-len-eq-MOST_LINES-clause-shown : goal.returns-then-len-eq-MOST_LINES-clause-shown
returns-then-len-eq-MOST_LINES-clause-shown g c =
    let lines = c.args.self.now in
    let full : length (shown_refusals lines) ≡ 10 =
    omega (arith, length-map lines.shown.items refusal_of, c.len.ensures, c.if-len-eq-MOST_LINES.true) in
    no_room (shown_refusals lines) _ full
