use Rattle.std.proofs.Common.{true, false, sym, ◌∙◌}
use Rattle.netset_words.proofs.Cases.{match_none}
use Rattle.netset_words.proofs.NameLaws.{name_cut, no_name}
use Rattle.netset_words.proofs.place.is_name.Goals as goal

pub returns-in_default : goal.returns-in_default
returns-in_default c =
    sym (no_name c.args.text.now
    (match_none c.split_first.result _ _ c.split_first.ensures.cases c.in_default.not-Some))

pub returns-then-not-is_ascii_alphabetic : goal.returns-then-not-is_ascii_alphabetic
returns-then-not-is_ascii_alphabetic c =
    sym (name_cut c.args.text.now _ _ false c.in-Some.ensures.cases.0
    (sym c.is_ascii_alphabetic.ensures.value ∙ c.if-not-is_ascii_alphabetic.true))

pub returns : goal.returns
returns c =
    c.are_name_bytes.ensures
    ∙ sym (name_cut c.args.text.now _ _ true c.in-Some.ensures.cases.0
    (sym c.is_ascii_alphabetic.ensures.value ∙ c.if-not-is_ascii_alphabetic.false))
