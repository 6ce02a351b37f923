use Rattle.std.proofs.Common.{map, Err, ap, ◌∙◌, subst, string_bytes}
use Rattle.ipnet_bars.specs.Frames.{HasNoFrame}
use Rattle.ipnet_sets.specs.ManySets.{IsInSome}
use Rattle.ipnet_sets.specs.Members.{IsMember}
use Rattle.netset_pictures.specs.MapAnswers.{IsFramedSetsMap}
use Rattle.netset_pictures.proofs.map_program.SetsMapCommandTextCommand.answer.Goals as goal

pub returns-in-Ok-clause-text : goal.returns-in-Ok-clause-text
returns-in-Ok-clause-text c =
    subst (λ sets. IsFramedSetsMap sets (map (λ name. name.now) c.args.self.names.now) c.args.self.request
    (string_bytes c.in-Ok.text)) c.as_slice.ensures.value c.in-Ok.ensures.map

pub returns-clause-failure : goal.returns-clause-failure
returns-clause-failure c = λ e.
    subst (λ sets. HasNoFrame c.args.self.request.frame (IsInSome IsMember sets)) c.as_slice.ensures.value
    (c.framed_sets_map_text.ensures.none (c.in-Err.is ∙ ap Err e))
