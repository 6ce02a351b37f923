use Rattle.ipnet_sets.specs.Members.{IsMember}
use Rattle.ipnet_sets.proofs.ManyLaws.{both_ways}
use Rattle.ipnet_sets.proofs.SetEqualLaws.{member_or_not}
use Rattle.ipnet_maps.proofs.ChangedLaws.{removed_cells, mixed_cells, whole_cells, part_cells, left_of_three}
use Rattle.ipnet_maps.proofs.changed.changed_cells.Goals as goal

pub returns-clause-removed : goal.returns-clause-removed
returns-clause-removed c = λ x. both_ways (c.in_ok-difference-4.ensures.members x)
    (removed_cells (IsMember c.args.before.now) (IsMember c.args.after.now) (IsMember c.in_ok-difference.field-0)
    (IsMember c.in_ok-difference-2.field-0) (IsMember c.in_ok-gone.gone) (IsMember c.in_ok-new.new) c.args.cell_len
    c.in_ok-difference.ensures.members c.in_ok-difference-2.ensures.members c.in_ok-gone.ensures c.in_ok-new.ensures
    x)

pub returns-clause-added : goal.returns-clause-added
returns-clause-added c = λ x. both_ways (c.in_ok-difference-5.ensures.members x)
    (removed_cells (IsMember c.args.after.now) (IsMember c.args.before.now) (IsMember c.in_ok-difference-2.field-0)
    (IsMember c.in_ok-difference.field-0) (IsMember c.in_ok-new.new) (IsMember c.in_ok-gone.gone) c.args.cell_len
    c.in_ok-difference-2.ensures.members c.in_ok-difference.ensures.members c.in_ok-new.ensures c.in_ok-gone.ensures
    x)

pub returns-clause-mixed : goal.returns-clause-mixed
returns-clause-mixed c = λ x. both_ways (c.in_ok-intersection.ensures.members x)
    (mixed_cells (IsMember c.args.before.now) (IsMember c.args.after.now) (IsMember c.in_ok-difference.field-0)
    (IsMember c.in_ok-difference-2.field-0) (IsMember c.in_ok-gone.gone) (IsMember c.in_ok-new.new) c.args.cell_len
    c.in_ok-difference.ensures.members c.in_ok-difference-2.ensures.members c.in_ok-gone.ensures c.in_ok-new.ensures
    x)

pub returns-clause-kept_part : goal.returns-clause-kept_part
returns-clause-kept_part c = λ x. both_ways
    (left_of_three (c.in_ok-difference-3.ensures.members x) (c.in_ok-unchanged.ensures.members x)
    (c.in_ok-difference-6.ensures.members x))
    (part_cells (IsMember c.args.before.now) (IsMember c.args.after.now) (IsMember c.in_ok-difference.field-0)
    (IsMember c.in_ok-difference-2.field-0) (IsMember c.in_ok-gone.gone) (IsMember c.in_ok-new.new) c.args.cell_len
    c.in_ok-difference.ensures.members c.in_ok-difference-2.ensures.members c.in_ok-gone.ensures c.in_ok-new.ensures
    (IsMember c.in_ok-both.both) (IsMember c.in_ok-some.some)
    (IsMember c.in_ok-kept_whole.kept_whole) (member_or_not c.args.before.now) (member_or_not c.args.after.now)
    c.in_ok-both.ensures.members c.in_ok-some.ensures c.in_ok-kept_whole.ensures x)

pub returns-clause-kept_whole : goal.returns-clause-kept_whole
returns-clause-kept_whole c = λ x. whole_cells (IsMember c.args.before.now) (IsMember c.args.after.now)
    (IsMember c.in_ok-difference.field-0)
    (IsMember c.in_ok-difference-2.field-0) (IsMember c.in_ok-gone.gone) (IsMember c.in_ok-new.new) c.args.cell_len
    c.in_ok-difference.ensures.members c.in_ok-difference-2.ensures.members c.in_ok-gone.ensures c.in_ok-new.ensures
    (IsMember c.in_ok-both.both) (IsMember c.in_ok-some.some)
    (IsMember c.in_ok-kept_whole.kept_whole) (member_or_not c.args.before.now) (member_or_not c.args.after.now)
    c.in_ok-both.ensures.members c.in_ok-some.ensures c.in_ok-kept_whole.ensures x
