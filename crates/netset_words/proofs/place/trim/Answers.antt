use Rattle.std.proofs.Common.{sym, ap, ◌∙◌, take}
use Rattle.netset_words.proofs.PlaceBytes.{trimmed_colon, trimmed_ends}
use Rattle.netset_words.proofs.place.trim.Goals as goal

pub returns-then-ends_in_colon : goal.returns-then-ends_in_colon
returns-then-ends_in_colon c =
    sym (trimmed_colon c.args.text.now (sym c.ends_in_colon.ensures ∙ c.if-ends_in_colon.true))

pub returns : goal.returns
returns c =
    ap (λ n. take n c.args.text.now) c.trimmed_len.ensures.len
    ∙ sym (trimmed_ends c.args.text.now (sym c.ends_in_colon.ensures ∙ c.if-ends_in_colon.false))
