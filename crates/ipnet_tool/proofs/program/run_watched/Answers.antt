-- A run that reads all, aggregates and writes is answered; a run whose write fails is cut short; a run that reports a
-- line has read a text with that bad line.
use Rattle.std.proofs.Common.{◌≡◌, ℕ, List, Option, inr, Err, refl, sym, ap, ◌∙◌, arith, String, Global}
use Rattle.std.proofs.KnownBytes.{Keeps-refl}
use Rattle.ipnet.specs.declared.parser.Grammar.{Grammar}
use Rattle.ipnet_text.specs.LineTexts.{text_of_lines}
use Rattle.ipnet_text.specs.NetLists.{networks_of}
use Rattle.ipnet_text.specs.Watched.{writer_of}
use Rattle.ipnet_tool.specs.Reading.{IsBadLineFrom}
use Rattle.ipnet_tool.specs.Runs.{IsChosenBy, HasBadLine}
use Rattle.ipnet_tool.specs.Statuses.{status_of}
use Rattle.ipnet_tool.specs.declared.failure.Failure.{Failure}
use Rattle.ipnet_tool.specs.declared.failure.Failure.TheVariants.{Arguments, Unreadable, NotUtf8, Memory, Line}
use Rattle.ipnet_tool.specs.declared.failure.Failure.TheVariants.{Unwritable}
use Rattle.ipnet_tool.proofs.AnswerLaws.{answer_from}
use Rattle.ipnet_tool.proofs.program.run_watched.Goals as goal

-- the one failure with status 1
line_of_status : (failure : Failure) → status_of failure ≡ 1 → (number : ℕ) × (failure ≡ Line number)
line_of_status (Line number) is = (number, refl)
line_of_status Arguments is = absurd (omega arith)
line_of_status Unreadable is = absurd (omega arith)
line_of_status NotUtf8 is = absurd (omega arith)
line_of_status Memory is = absurd (omega arith)
line_of_status Unwritable is = absurd (omega arith)

-- the bad line of a reading, in the grammar that was chosen
bad_line_of : (args : List (String Global)) (grammar : Grammar) (left left_after : Option (List ℕ)) (number : ℕ)
    → IsChosenBy args grammar → IsBadLineFrom grammar left left_after number
    → (bad : HasBadLine args left left_after) × (bad.number ≡ number)
bad_line_of args grammar left left_after number chosen bad = (
  record {
    grammar = grammar;
    chosen = chosen;
    text = bad.text;
    is_text = bad.is_text;
    read = bad.read;
    number = number;
    bad = bad.bad;
  },
  refl,
)

pub returns-in-Err-clause-bad_line : goal.returns-in-Err-clause-bad_line
returns-in-Err-clause-bad_line g c = λ one.
    let (number, is) = line_of_status c.in-Err.failure (sym c.report-in-Err.ensures.status ∙ one) in
    (bad_line_of c.args.args.now c.in-Some.grammar _ _ number c.in-Some.ensures.some
    (c.in-Err.ensures.bad_line number (ap Err is))).0

pub returns-in-Err-clause-reported : goal.returns-in-Err-clause-reported
returns-in-Err-clause-reported g c = λ _. (
  c.in-Err.failure,
  c.report-in-Err.ensures.status,
  record {
    silent = λ _. Keeps-refl (g.W.Write.contents (writer_of c.args.out.now));
    arguments = λ is. absurd (c.in-Err.ensures.failure.0 is);
    not_utf8 = λ is. c.in-Err.ensures.not_utf8 (ap Err is);
    memory = λ is. (c.in-Some.grammar, c.in-Some.ensures.some, c.in-Err.ensures.memory (ap Err is));
    line = λ number is. bad_line_of c.args.args.now c.in-Some.grammar _ _ number c.in-Some.ensures.some
        (c.in-Err.ensures.bad_line number (ap Err is));
    unwritable = λ is. absurd (c.in-Err.ensures.failure.1 is);
  },
  c.report-in-Err.ensures.line,
)

pub returns-in_default-put_networks-clause-cut_short : goal.returns-in_default-put_networks-clause-cut_short
returns-in_default-put_networks-clause-cut_short g c = λ _.
    let read = c.in-Ok.ensures.networks in
    let blocks = networks_of c.aggregate.new.self in
    let (front, begins, written) = c.put_networks.ensures.front in
    inr (record {
      grammar = c.in-Some.grammar;
      chosen = c.in-Some.ensures.some;
      text = read.text;
      read = read.read;
      answer = record {
        text = text_of_lines blocks;
        right = answer_from c.in-Some.grammar read.text (text_of_lines blocks) read.written
            (networks_of c.in-Ok.families) blocks read.are read.same c.aggregate.ensures.aggregate refl;
        front = front;
        begins = begins;
        written = written;
      };
    })

pub returns-in_default-put_networks-clause-reported : goal.returns-in_default-put_networks-clause-reported
returns-in_default-put_networks-clause-reported g c = λ _.
    let read = c.in-Ok.ensures.networks in
    let blocks = networks_of c.aggregate.new.self in
    let (front, begins, written) = c.put_networks.ensures.front in (
      Unwritable,
      c.report-in_default-put_networks.ensures.status,
      record {
        silent = λ other. absurd (other refl);
        arguments = λ is. absurd cc;
        not_utf8 = λ is. absurd cc;
        memory = λ is. absurd cc;
        line = λ number is. absurd cc;
        unwritable = λ _. record {
          grammar = c.in-Some.grammar;
          chosen = c.in-Some.ensures.some;
          text = read.text;
          read = read.read;
          answer = record {
            text = text_of_lines blocks;
            right = answer_from c.in-Some.grammar read.text (text_of_lines blocks) read.written
                (networks_of c.in-Ok.families) blocks read.are read.same c.aggregate.ensures.aggregate refl;
            front = front;
            begins = begins;
            written = written;
          };
        };
      },
      c.report-in_default-put_networks.ensures.line,
    )

pub returns-clause-answered : goal.returns-clause-answered
returns-clause-answered g c = λ _.
    let read = c.in-Ok.ensures.networks in
    let blocks = networks_of c.aggregate.new.self in
    record {
      grammar = c.in-Some.grammar;
      chosen = c.in-Some.ensures.some;
      text = read.text;
      read = read.read;
      answer = record {
        text = text_of_lines blocks;
        right = answer_from c.in-Some.grammar read.text (text_of_lines blocks) read.written
            (networks_of c.in-Ok.families) blocks read.are read.same c.aggregate.ensures.aggregate refl;
        written = c.in-Ok-put_networks.ensures.whole;
      };
    }
