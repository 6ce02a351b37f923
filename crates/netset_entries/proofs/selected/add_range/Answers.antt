use Rattle.std.proofs.Common.{subst, true}
use Rattle.std.specs.BTreeSet.{Updates}
use Rattle.netset_entries.specs.SelectSteps.{key_cmp, range_at}
use Rattle.netset_entries.proofs.SelectLaws.{range_added}
use Rattle.netset_entries.proofs.selected.add_range.Goals as goal

pub returns-in-Ok-clause-added : goal.returns-in-Ok-clause-added
returns-in-Ok-clause-added c =
    range_added c.args.seen.now c.insert.new.self (range_at c.args.place.now)
    (subst (λ k. Updates key_cmp c.args.seen.now c.insert.new.self k true) c.key_at.ensures c.in-Ok.ensures.updates)
