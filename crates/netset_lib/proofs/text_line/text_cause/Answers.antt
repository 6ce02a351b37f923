use Rattle.std.proofs.Common.{◌≡◌, true, false, refl, sym, ◌∙◌, subst, inl, inr}
use Rattle.ipnet_lists.specs.Causes.{IsReportedCause}
use Rattle.ipnet_lists.specs.Entries.{IsEntryText, IsNoEntry}
use Rattle.ipnet_lists.specs.EntryOf.{entry_range}
use Rattle.netset_lib.proofs.text_line.text_cause.Goals as goal

pub returns-then-has_byte : goal.returns-then-has_byte
returns-then-has_byte c = inl (inl (sym c.has_byte.ensures ∙ c.if-has_byte.true), c.cause_of.ensures.reported)

pub returns-in-Some : goal.returns-in-Some
returns-in-Some c =
    let range = entry_range c.in-Some.field-0.entry in
    inl (
      inr (
        range,
        subst (λ z. IsEntryText c.args.grammar z range) c.cut_word.ensures.word c.in-Some.ensures.reads.some,
      ),
      c.cause_of-in-Some.ensures.reported,
    )

pub returns-in-None : goal.returns-in-None
returns-in-None c =
    let grammar = c.args.grammar in
    let word = c.cut_word.ensures.word in
    inr (
      λ whole. elim whole [
        | inl broken ↦
            let clash : true ≡ false = sym broken ∙ sym c.has_byte.ensures ∙ c.if-has_byte.false in
            absurd cc
        | inr (range, is) ↦ subst (IsNoEntry grammar) word (c.in-None.ensures.reads.none.0 refl) range is
      ],
      subst (λ z. IsReportedCause grammar z c.cause_of-in-None.result) word c.cause_of-in-None.ensures.reported,
    )
