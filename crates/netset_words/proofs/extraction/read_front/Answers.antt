use Rattle.std.proofs.Common.{◌≡◌, ◌++◌, [], length, true, false, refl, sym, ap, ◌∙◌, subst, append-nil}
use Rattle.std.proofs.lemmas.Bool.{eqb-true, eqb-false}
use Rattle.ipnet.specs.Lines.{lines_of}
use Rattle.ipnet_text.proofs.LineCuts.{empty_text}
use Rattle.netset_words.specs.ExtractSteps.{ReadsWords}
use Rattle.netset_words.proofs.ExtractLaws.{front_after, words_none}
use Rattle.netset_words.proofs.extraction.read_front.Goals as goal
use Rattle.netset_words.proofs.extraction.read_front.Goals.{else-is_empty-2-via-then-is_empty-2+else-more}
use Rattle.netset_words.proofs.extraction.read_front.Goals.{else-is_empty-2-via-else-is_empty-2}

pub returns-then-more : goal.returns-then-more
returns-then-more c =
    let carry = c.args.carry.now.items in
    let front = c.args.front.now in
    let none : front ≡ [] =
    empty_text front (eqb-true (length front) 0 (sym c.is_empty-2.ensures ∙ c.if-is_empty-2.true)) in
    record {
      taken = [];
      is = ap (λ z. carry ++ z) none ∙ append-nil carry;
      closed = λ e rest. refl;
      all = λ e. let clash : true ≡ false = sym c.if-more.true ∙ e in absurd cc;
      lines = words_none c.args.words.now;
    }

pub returns : goal.returns
returns c =
    let carry = c.args.carry.now.items in
    let front = c.args.front.now in
    record {
      taken = carry ++ front;
      is = sym (append-nil (carry ++ front)) ∙ ap (λ z. (carry ++ front) ++ z) (sym c.clear.ensures.items);
      closed = front_after carry front c.args.more
          (λ none e. elim c.else-is_empty-2.branch [
            | else-is_empty-2-via-then-is_empty-2+else-more w ↦
                let clash : true ≡ false = sym e ∙ w.if-more.false in absurd cc
            | else-is_empty-2-via-else-is_empty-2 w ↦
                eqb-false (length front) 0 (sym c.is_empty-2.ensures ∙ w.if-is_empty-2.false) none
          ])
          c.requires;
      all = λ e. c.clear.ensures.items;
      lines = subst (λ z. ReadsWords c.args.words.now c.read-2.new.self (lines_of z))
          (c.as_slice.ensures.value ∙ c.in_ok-extend_from_slice.ensures.items) c.in_ok-read.ensures;
    }
