use Rattle.std.proofs.Common.{IsTrue, ◌↔◌, subst}
use Rattle.std.proofs.lemmas.Str.Ascii.{trim_ascii_end_is}
use Rattle.ipnet_lists.specs.Causes.{IsSomeEntry}
use Rattle.ipnet_lists.proofs.cause_parts.is_entry_before_blanks.Goals as goal

pub returns : goal.returns
returns c =
    subst (λ z. IsTrue c.is_entry.result ↔ IsSomeEntry z)
    (trim_ascii_end_is c.args.text.now c.trim_ascii_end.result.now c.trim_ascii_end.ensures.value)
    c.is_entry.ensures
