-- The set is made of the addresses that were taken. Empty lines leave the builder as it was, without an address.
use Rattle.std.proofs.Common.{◌≡◌, [], Err, ap, sym, subst, refl, arith}
use Rattle.std.proofs.lemmas.Bool.{false≢true}
use Rattle.ipnet.specs.Lines.{lines_of, IsFirstBadLine}
use Rattle.ipnet_sets.specs.Pushed.{IsPushed}
use Rattle.ipnet_c.specs.BadTexts.{IsBadList}
use Rattle.ipnet_c.proofs.BadTexts.{bad_line, no_memory}
use Rattle.ipnet_c.proofs.TakenLaws.{set_of_taken}
use Rattle.ipnet_c.proofs.lists.read_set.Goals as goal

pub returns-in-Err-Line-clause-bad : goal.returns-in-Err-Line-clause-bad
returns-in-Err-Line-clause-bad c =
    let shown = c.in-Err-Line in
    let (later, is, bad) = shown.ensures.bad_line shown.number (ap Err shown.field-0-is) in
    let same : later ≡ shown.number = omega (arith, is) in
    subst (λ z. IsBadList c.args.grammar c.args.text.now c.args.line.now z 1) (sym shown.number-is)
    (bad_line c.args.grammar c.args.text.now c.args.line.now shown.number
    (λ none. false≢true (shown.ensures.empty none).0)
    (subst (IsFirstBadLine c.args.grammar (lines_of c.args.text.now)) same bad))

pub returns-in-Err-Memory-clause-bad : goal.returns-in-Err-Memory-clause-bad
returns-in-Err-Memory-clause-bad c =
    no_memory c.args.grammar c.args.text.now c.args.line.now
    (λ none. false≢true (c.in-Err-Memory.ensures.empty none).0)
    (λ number h. let clash = c.in-Err-Memory.ensures.bad_at_once number h in absurd cc)

pub returns-in_default-clause-bad : goal.returns-in_default-clause-bad
returns-in_default-clause-bad c =
    no_memory c.args.grammar c.args.text.now c.args.line.now
    (λ none. false≢true (c.in_default.ensures.empty (λ x p. c.new.ensures x
    (subst (λ taken. IsPushed taken.builder x) (c.in-Ok.ensures.empty none).1 p))))
    (λ number h. let clash = c.in-Ok.ensures.bad_at_once number h in absurd cc)

pub returns-clause-set : goal.returns-clause-set
returns-clause-set c =
    let (networks, written, made) = c.in-Ok.ensures.networks in (
      set_of_taken c.args.grammar c.args.text.now networks c.new.result c.push_lines.new.sink.builder
          c.in-Ok-into_set.set written c.new.ensures (made []) c.in-Ok-into_set.ensures.members,
      refl,
    )
