-- The set of the answerer is the side of the first set without the others.
use Rattle.netset_commands.proofs.WithoutLaws.{side_without}
use Rattle.netset_commands.proofs.except.answerer_without.Goals as goal

pub returns-clause-answerer : goal.returns-clause-answerer
returns-clause-answerer c =
    side_without c.args.side c.args.sets.items c.in_ok-set.set _ c.in_ok-set.ensures.set c.in_ok-side_set.ensures
