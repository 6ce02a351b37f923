use Rattle.ipnet_sets.proofs.JoinLaws.{held_push}
use Rattle.ipnet_sets.proofs.gather.push.Goals as goal

pub returns-clause-members : goal.returns-clause-members
returns-clause-members g c x fits =
    held_push g.T.Number.number c.args.boundaries.now.items c.args.waiting.now.items c.push.new.self.items
    (record { first = c.args.first; last = c.args.last }) c.in_ok-push.ensures.items x
