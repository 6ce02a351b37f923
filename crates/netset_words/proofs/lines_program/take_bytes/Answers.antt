use Rattle.std.proofs.Common.{sym, subst, ◌++◌}
use Rattle.ipnet_text.proofs.ListsLaws.{OnOk_then}
use Rattle.netset_words.specs.FilterSteps.{IsTaken}
use Rattle.netset_words.proofs.lines_program.take_bytes.Goals as goal

pub returns-then-more : goal.returns-then-more
returns-then-more c = λ how set written known before h.
    subst (λ m. IsTaken m how set written known (before ++ c.args.bytes.now) c.read.new.self) (sym c.if-more.true)
    (c.in_ok-read.ensures how set written known before h)

pub returns : goal.returns
returns c =
    OnOk_then c.end.result c.end.ensures
    (λ ends how set written known before h.
    subst (λ m. IsTaken m how set written known (before ++ c.args.bytes.now) c.end.new.self)
    (sym c.if-more.false)
    (ends how set written known (before ++ c.args.bytes.now) (c.in_ok-read.ensures how set written known before h)))
