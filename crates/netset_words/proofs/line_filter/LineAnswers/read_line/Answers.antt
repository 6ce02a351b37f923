use Rattle.std.proofs.Common.{refl}
use Rattle.ipnet_sets.specs.Members.{IsMember}
use Rattle.netset_words.proofs.LogFilterLaws.{line_read}
use Rattle.netset_words.proofs.line_filter.LineAnswers.read_line.Goals as goal

pub returns : goal.returns
returns c =
    line_read c.args.request (IsMember c.args.set.now) c.args.self.now _ c.args.line.now c.verdict_on-verdict.result
    c.whole_treatment-treatment.result c.in_ok-printed.printed c.requires c.verdict_on-verdict.ensures
    c.whole_treatment-treatment.ensures c.in_ok-printed.ensures.text c.in_ok-printed.ensures.printed
    refl c.in_ok-self.ensures
