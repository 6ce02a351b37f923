-- The entry as written, and then the count of its part, its size and the share.
use Rattle.std.proofs.Common.{◌∙◌, ◌++◌, ap, append_assoc, refl, string_bytes}
use Rattle.std.proofs.lemmas.Result.{on_ok_weaker}
use Rattle.ipnet_bars.proofs.SummaryLaws.{written_as}
use Rattle.ipnet_bars.specs.Parts.{counted}
use Rattle.ipnet_lists.specs.EntryOf.{entry_range}
use Rattle.ipnet_sets.specs.Members.{IsMember}
use Rattle.netset_entries.proofs.ShareLineLaws.{entry_counted, part_size}
use Rattle.netset_entries.proofs.shares.push_share.Goals as goal

pub share_text-requires : goal.share_text-requires
share_text-requires c =
    let InSet = IsMember c.args.set.now in
    let range = entry_range c.args.line.now.entry in
    let count = counted c.count_of-count.result in
    part_size InSet range count (counted c.size_of.result)
    (entry_counted InSet c.in_ok-part.part range count c.in_ok-part.ensures c.count_of-count.ensures) c.size_of.ensures

pub returns : goal.returns
returns c =
    let line = c.args.line.now in
    let range = entry_range line.entry in
    let InSet = IsMember c.args.set.now in
    let count = counted c.count_of-count.result in
    on_ok_weaker c.extend_from_slice-2.result
    (λ text. (
      line.text.now ++ string_bytes c.in_ok-tail.tail,
      record {
        count = count;
        is_count = entry_counted InSet c.in_ok-part.part range count c.in_ok-part.ensures c.count_of-count.ensures;
        spelled = ap (λ z. line.text.now ++ z) (c.in_ok-tail.ensures ∙ rw c.size_of.ensures refl);
      },
      text ∙ ap (λ z. z ++ string_bytes c.in_ok-tail.tail) c.in_ok-extend_from_slice.ensures.items
          ∙ append_assoc c.args.text.now.items line.text.now (string_bytes c.in_ok-tail.tail),
    )) (written_as c.extend_from_slice-2.result c.extend_from_slice.new.self.items c.extend_from_slice-2.new.self.items
    c.as_bytes.result.now (string_bytes c.in_ok-tail.tail) c.as_bytes.ensures.value
    c.extend_from_slice-2.ensures.items)
