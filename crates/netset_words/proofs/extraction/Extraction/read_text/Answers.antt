use Rattle.std.proofs.Common.{subst, refl}
use Rattle.ipnet_text.proofs.ListsLaws.{OnOk_then}
use Rattle.netset_words.specs.ExtractSteps.{TakesBytes}
use Rattle.netset_words.proofs.ExtractLaws.{IsTextUpTo, text_begins, text_takes, text_grows, text_ends}
use Rattle.netset_words.proofs.InputReading.{input_begins}
use Rattle.netset_words.proofs.extraction.Extraction.read_text.Goals as goal

pub loop-init : goal.loop-init
loop-init g c =
    let left = g.R.Read.remaining in
    record {
      start = c.begin.new.self;
      at = c.in_ok-more.ensures.words;
      text = text_begins c.in_ok-more.more (left c.args.input.now) (left c.begin.new.input) c.begin.new.self
          (input_begins c.in_ok-more.more (left c.args.input.now) (left c.begin.new.input) c.begin.new.self.window
          c.in_ok-more.ensures.past)
          c.in_ok-more.ensures.carry;
    }

pub returns-then-not-more : goal.returns-then-not-more
returns-then-not-more g c =
    let left = g.R.Read.remaining in
    let before = c.loop.invariant in
    OnOk_then c.end.result c.end.ensures.next
    (λ place. text_ends (left c.args.input.now) (left c.loop.input) c.args.self.now before.start c.loop.self
    c.take_bytes.new.self c.end.new.self before.at
    (subst (λ m. IsTextUpTo m (left c.args.input.now) (left c.loop.input) before.start c.loop.self) c.if-not-more.true
    before.text)
    (subst (λ m. TakesBytes m c.loop.self c.take_bytes.new.self) c.if-not-more.true c.in_ok-take_bytes.ensures) place
    c.end.ensures.same_request c.end.ensures.same_answer c.end.ensures.same_refused c.end.ensures.same_entry)

pub loop-preserved : goal.loop-preserved
loop-preserved g c =
    let left = g.R.Read.remaining in
    let before = c.loop.invariant in
    let (given, window, read) = c.in_ok-more-2.ensures.read in
    record {
      start = before.start;
      at = before.at;
      text = text_grows c.in_ok-more-2.more (left c.args.input.now) (left c.loop.input) (left c.fill.new.input)
          before.start c.take_bytes.new.self _ given
          (text_takes (left c.args.input.now) (left c.loop.input) before.start c.loop.self c.take_bytes.new.self
          (subst (λ m. IsTextUpTo m (left c.args.input.now) (left c.loop.input) before.start c.loop.self)
          c.if-not-more.false before.text)
          (subst (λ m. TakesBytes m c.loop.self c.take_bytes.new.self) c.if-not-more.false c.in_ok-take_bytes.ensures))
          refl refl window read c.in_ok-more-2.ensures.end;
    }
