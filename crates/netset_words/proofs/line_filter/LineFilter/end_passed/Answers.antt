use Rattle.std.proofs.Common.{refl}
use Rattle.netset_words.proofs.LogFilterLaws.{long_ends}
use Rattle.netset_words.proofs.line_filter.LineFilter.end_passed.Goals as goal

pub returns : goal.returns
returns c = λ how set written known lines cur h.
    long_ends how set written known lines cur cur c.args.self.now _ h refl refl c.requires.next c.requires.passed
    c.in_ok-print_more.ensures refl refl refl refl refl
