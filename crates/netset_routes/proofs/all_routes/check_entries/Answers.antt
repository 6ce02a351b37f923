use Rattle.std.specs.Prelude.{⊤}
use Rattle.ipnet_lists.proofs.ListTexts.{made_list}
use Rattle.netset_routes.proofs.AllRouteLaws.{only_entries, refused_entries}
use Rattle.netset_routes.proofs.all_routes.check_entries.Goals as goal

pub returns-then-refused-ne0-clause-failure : goal.returns-then-refused-ne0-clause-failure
returns-then-refused-ne0-clause-failure c =
    refused_entries c.args.grammar c.args.bytes.now (λ entries. ⊤) c.read.new.self.refused
    (made_list c.args.grammar c.args.bytes.now c.skip_mark.result.now c.new-lines.result c.read.new.self (λ entries. ⊤)
    (λ entries. ⊤) c.new-lines.ensures.grammar c.new-lines.ensures.first c.new-lines.ensures.line
    c.new-lines.ensures.none c.skip_mark.ensures c.in_ok-read.ensures tt) c.if-refused-ne0.true

pub returns-clause-entries : goal.returns-clause-entries
returns-clause-entries c =
    only_entries c.args.grammar c.args.bytes.now (λ entries. ⊤) c.read.new.self.refused
    (made_list c.args.grammar c.args.bytes.now c.skip_mark.result.now c.new-lines.result c.read.new.self (λ entries. ⊤)
    (λ entries. ⊤) c.new-lines.ensures.grammar c.new-lines.ensures.first c.new-lines.ensures.line
    c.new-lines.ensures.none c.skip_mark.ensures c.in_ok-read.ensures tt) c.if-refused-ne0.false
