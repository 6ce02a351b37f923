use Rattle.std.proofs.Common.{refl}
use Rattle.ipnet_lists.specs.EntryOf.{entry_range}
use Rattle.netset_entries.proofs.FindLaws.{has_some, inside_start, inside_end, inside_from}
use Rattle.netset_entries.proofs.find.is_inside.Goals as goal

pub returns-then-not-begins_by_end : goal.returns-then-not-begins_by_end
returns-then-not-begins_by_end c =
    let r = entry_range c.args.entry in (
      λ t x h. absurd (let wrong = c.if-not-begins_by_end.ensures.1 (refl, has_some r x h) in cc),
      λ h. refl,
    )

pub returns-then-not-begins_within : goal.returns-then-not-begins_within
returns-then-not-begins_within c =
    let some = (c.if-not-begins_by_end.ensures.0 refl).1 in (
      λ t. absurd (let wrong = t in cc),
      λ h. c.if-not-begins_within.ensures.1
          (inside_start (entry_range c.args.entry) (entry_range c.args.other) some h),
    )

pub returns : goal.returns
returns c =
    let r = entry_range c.args.entry in
    let s = entry_range c.args.other in
    let some = (c.if-not-begins_by_end.ensures.0 refl).1 in (
      λ t. inside_from r s (c.if-not-begins_within.ensures.0 refl).1 (c.ends_within.ensures.0 t),
      λ h. c.ends_within.ensures.1 (inside_end r s some h),
    )
