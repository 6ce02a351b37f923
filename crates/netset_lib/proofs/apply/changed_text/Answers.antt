use Rattle.std.proofs.Common.{string_bytes, subst}
use Rattle.ipnet_sets.specs.Members.{IsMember}
use Rattle.ipnet_lists.proofs.ContentLaws.{items_all}
use Rattle.ipnet_lists.proofs.RefusalLaws.{none_refused, some_refused}
use Rattle.netset_lib.specs.ChangeLists.{IsAnswerNetwork, Fits, IsFittingChange, IsChangeLineCause, IsInChanged}
use Rattle.netset_lib.specs.ChangeLists.{IsChangeList}
use Rattle.netset_lib.proofs.AnswerTexts.{text_of_same}
use Rattle.netset_lib.proofs.apply.changed_text.Goals as goal

pub returns-clause-text : goal.returns-clause-text
returns-clause-text c =
    let Has = IsAnswerNetwork (IsMember c.args.set.now) in
    let (changes, refusals, read, kept, are) = c.in_ok-parts.ensures in
    let none = none_refused c.in_ok-parts.field-0.refused refusals kept c.if-refused-ne0.false in
    let fit = items_all (λ line. IsFittingChange c.args.grammar Has line.text) (IsChangeLineCause c.args.grammar Has)
    (Fits Has) (λ line change h. h.1) 1 read.0 changes refusals read.2 in
    record {
      changes = changes;
      read = subst (IsChangeList c.args.grammar Has c.args.bytes.now changes) none read;
      right = text_of_same c.args.form (IsMember c.in_ok-changed.changed) (IsInChanged Has changes)
          (string_bytes c.in_ok-set_text.field-0) (c.in_ok-changed.ensures changes are fit) c.in_ok-set_text.ensures;
    }

pub returns-then-refused-ne0-clause-failure : goal.returns-then-refused-ne0-clause-failure
returns-then-refused-ne0-clause-failure c =
    let (changes, refusals, read, kept, are) = c.in_ok-parts.ensures in (
      refusals,
      record {
        changes = changes;
        read = read;
        some = some_refused c.in_ok-parts.field-0.refused refusals kept c.if-refused-ne0.true;
      },
      kept,
    )
