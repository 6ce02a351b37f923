use Rattle.std.proofs.Common.{refl}
use Rattle.netset_words.proofs.LogFilterLaws.{whole_ends}
use Rattle.netset_words.proofs.line_filter.LineFilter.read_whole.Goals as goal

pub returns : goal.returns
returns c = λ how set written known lines cur h.
    whole_ends how set written known lines cur c.args.line.now c.args.self.now _ h refl refl c.in_ok-number.ensures.next
    c.requires.kept c.requires.none c.in_ok-read_line.ensures refl refl refl
