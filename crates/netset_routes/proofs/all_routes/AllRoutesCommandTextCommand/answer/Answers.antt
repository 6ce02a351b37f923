use Rattle.std.proofs.Common.{refl, string_bytes}
use Rattle.netset_routes.proofs.AllRouteLaws.{routes_answer}
use Rattle.netset_routes.proofs.all_routes.AllRoutesCommandTextCommand.answer.Goals as goal

pub returns-clause-text : goal.returns-clause-text
returns-clause-text c =
    let made = c.in_ok-routes.field-0 in (
      made.routes.missing,
      routes_answer c.args.self.grammar c.args.self.table c.args.self.list.now made.routes made.refused
          c.in_ok-routes.ensures c.if-refused-ne0.false,
    )

pub returns-clause-outcome : goal.returns-clause-outcome
returns-clause-outcome c =
    let made = c.in_ok-routes.field-0 in (
      made.routes.missing,
      refl,
      (
        string_bytes made.routes.text,
        routes_answer c.args.self.grammar c.args.self.table c.args.self.list.now made.routes made.refused
            c.in_ok-routes.ensures c.if-refused-ne0.false,
      ),
    )
