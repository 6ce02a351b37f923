use Rattle.std.proofs.Common.{subst}
use Rattle.ipnet_lists.proofs.RefusalLaws.{none_refused, some_refused}
use Rattle.netset_lib.specs.TextTables.{IsTextTable}
use Rattle.netset_lib.proofs.TextLaws.{table_of_lines}
use Rattle.netset_lib.proofs.text_route.table_of_texts.Goals as goal

pub returns-clause-table : goal.returns-clause-table
returns-clause-table c =
    let (lines, refusals, read, kept, are) = c.in_ok-routes.ensures in
    let none = none_refused c.in_ok-routes.field-0.refused refusals kept c.if-refused-ne0.false in record {
      lines = lines;
      read = subst (IsTextTable c.args.grammar c.args.bytes.now lines) none read;
      right = table_of_lines lines c.in_ok-routes.field-0.routes.items c.in_ok-table.table
          c.in_ok-table.ensures.table are;
    }

pub returns-then-refused-ne0-clause-failure : goal.returns-then-refused-ne0-clause-failure
returns-then-refused-ne0-clause-failure c = λ list.
    let (lines, refusals, read, kept, are) = c.in_ok-routes.ensures in (
      refusals,
      record {
        lines = lines;
        read = read;
        some = some_refused c.in_ok-routes.field-0.refused refusals kept c.if-refused-ne0.true;
      },
      kept,
    )
