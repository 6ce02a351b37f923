use Rattle.ipnet.specs.declared.parser.Grammar.TheVariants.{Legacy}
use Rattle.ipnet_lists.proofs.CauseTexts.{is_false}
use Rattle.ipnet_lists.proofs.ListLines.{address_utf8}
use Rattle.ipnet_lists.proofs.cause_follows.are_ends.Goals as goal

pub returns-in-Err : goal.returns-in-Err
returns-in-Err c =
    is_false (λ p. c.in-Err.ensures.cases.0 (address_utf8 Legacy c.args.last.now p.1.last p.1.writes_last))
