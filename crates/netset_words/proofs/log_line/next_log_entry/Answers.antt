use Rattle.std.proofs.Common.{◌≡◌, [], arith}
use Rattle.netset_words.specs.LogEntries.{IsNoEntryWord}
use Rattle.netset_words.specs.Words.{words_of}
use Rattle.netset_words.specs.WordSteps.{word_of}
use Rattle.netset_words.proofs.LogEntryLaws.{if_none}
use Rattle.netset_words.proofs.LogLaws.{one_passed, all_passed, none_passed}
use Rattle.netset_words.proofs.log_line.next_log_entry.Goals as goal

pub words-init : goal.words-init
words-init c = record { passed = none_passed c.args.request.grammar c.args.bytes.now; shorter = omega arith }

pub returns-in-Some-read_log_entry-clause-shorter : goal.returns-in-Some-read_log_entry-clause-shorter
returns-in-Some-read_log_entry-clause-shorter c =
    omega (arith, c.words.invariant.shorter, c.in-Some-next_word.ensures.shorter)

pub words-preserved : goal.words-preserved
words-preserved c =
    let w = c.in-Some-next_word.word in
    record {
      passed = one_passed c.args.request.grammar c.args.bytes.now c.words.rest.now w.after.now (word_of w)
          c.words.invariant.passed c.in-Some-next_word.ensures.words
          (if_none (IsNoEntryWord c.args.request.grammar (word_of w)) c.read_log_entry.result
          c.read_log_entry.ensures.none c.in_default-read_log_entry.not-Some);
      shorter = omega (arith, c.words.invariant.shorter, c.in-Some-next_word.ensures.shorter);
    }

pub returns-clause-entry : goal.returns-clause-entry
returns-clause-entry c =
    all_passed c.args.request.grammar c.args.bytes.now c.words.rest.now c.words.invariant.passed
    (if_none (words_of c.words.rest.now ≡ []) c.next_word.result c.next_word.ensures.none
    c.in_default-next_word.not-Some)
