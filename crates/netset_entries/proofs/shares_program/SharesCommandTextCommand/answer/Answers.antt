-- The lines of the entries that were read, by the set of all addresses.
use Rattle.std.proofs.Common.{map, subst}
use Rattle.ipnet_sets.specs.Members.{IsMember}
use Rattle.netset_entries.specs.EntryLineOf.{numbered}
use Rattle.netset_entries.specs.Shares.{AreShareLines}
use Rattle.netset_entries.proofs.ShareLineLaws.{refused_entries}
use Rattle.netset_entries.proofs.TwoListLaws.{all_read}
use Rattle.netset_entries.proofs.shares_program.SharesCommandTextCommand.answer.Goals as goal

pub returns-clause-text : goal.returns-clause-text
returns-clause-text c =
    let list = c.in_ok-entries.field-0 in (
      c.in-Ok.set,
      c.in-Ok.ensures.combined.1,
      record {
        entries = map numbered list.entries.items;
        read = all_read c.args.self.grammar c.args.self.list.now list c.in_ok-entries.ensures c.if-refused-ne0.false;
        right = subst (λ entries. AreShareLines (IsMember c.in-Ok.set) (map numbered entries) c.in_ok-text.text.items)
            c.as_slice.ensures.value c.in_ok-text.ensures;
      },
    )

pub returns-then-refused-ne0-clause-failure : goal.returns-then-refused-ne0-clause-failure
returns-then-refused-ne0-clause-failure c =
    refused_entries c.args.self.grammar c.args.self.list.now c.in_ok-entries.field-0 c.in_ok-entries.ensures
    c.if-refused-ne0.true
