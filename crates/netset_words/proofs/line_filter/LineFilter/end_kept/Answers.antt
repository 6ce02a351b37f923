use Rattle.std.proofs.Common.{refl}
use Rattle.netset_words.proofs.LogFilterLaws.{kept_line_ends}
use Rattle.netset_words.proofs.line_filter.LineFilter.end_kept.Goals as goal

pub returns : goal.returns
returns c = λ how set written known lines cur h.
    kept_line_ends how set written known lines cur c.args.self.now _ h c.as_slice-line.result.now
    c.as_slice-line.ensures.value refl refl c.requires.next c.requires.kept c.in_ok-read_line.ensures refl refl
    c.clear.ensures.items
