use Rattle.std.proofs.Common.{refl}
use Rattle.ipnet_base.specs.Address.{ip_address}
use Rattle.ipnet_lists.specs.EntryOf.{entry_range}
use Rattle.netset_entries.proofs.FindLaws.{ends_compare, has_some, shared_begins, shared_from}
use Rattle.netset_entries.proofs.find.overlap.Goals as goal

pub returns-then-not-is_at_most : goal.returns-then-not-is_at_most
returns-then-not-is_at_most c =
    let r = entry_range c.args.entry in
    let s = entry_range c.args.other in
    let same = ends_compare (ip_address c.ends-first.result.0) (ip_address c.ends-other_first.result.1) r.family
    s.family r.start s.end c.ends-first.ensures.first c.ends-other_first.ensures.last in (
      λ t. absurd (let wrong = t in cc),
      λ (x, h, k). c.if-not-is_at_most.ensures.1 (same.1 (shared_begins r s x h k)),
    )

pub returns-then-not-is_at_most-2 : goal.returns-then-not-is_at_most-2
returns-then-not-is_at_most-2 c =
    let r = entry_range c.args.entry in
    let s = entry_range c.args.other in
    let same = ends_compare (ip_address c.ends-other_first.result.0) (ip_address c.ends-first.result.1) s.family
    r.family s.start r.end c.ends-other_first.ensures.first c.ends-first.ensures.last in (
      λ t. absurd (let wrong = t in cc),
      λ (x, h, k). c.if-not-is_at_most-2.ensures.1 (same.1 (shared_begins s r x k h)),
    )

pub returns-then-not-begins_by_end : goal.returns-then-not-begins_by_end
returns-then-not-begins_by_end c = (
  λ t. absurd (let wrong = t in cc),
  λ (x, h, k). c.if-not-begins_by_end.ensures.1 (refl, has_some (entry_range c.args.entry) x h),
)

pub returns : goal.returns
returns c =
    let r = entry_range c.args.entry in
    let s = entry_range c.args.other in
    let before = (ends_compare (ip_address c.ends-first.result.0) (ip_address c.ends-other_first.result.1) r.family
    s.family r.start s.end c.ends-first.ensures.first c.ends-other_first.ensures.last).0
    (c.if-not-is_at_most.ensures.0 refl) in
    let after = (ends_compare (ip_address c.ends-other_first.result.0) (ip_address c.ends-first.result.1) s.family
    r.family s.start r.end c.ends-other_first.ensures.first c.ends-first.ensures.last).0
    (c.if-not-is_at_most-2.ensures.0 refl) in (
      λ t. shared_from r s (c.if-not-begins_by_end.ensures.0 refl).1 (c.begins_by_end-2.ensures.0 t).1 before after.1,
      λ (x, h, k). c.begins_by_end-2.ensures.1 (refl, has_some s x k),
    )
