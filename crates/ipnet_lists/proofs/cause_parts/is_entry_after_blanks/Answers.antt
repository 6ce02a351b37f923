use Rattle.std.proofs.Common.{IsTrue, ◌↔◌, subst}
use Rattle.std.proofs.lemmas.Str.Ascii.{trim_ascii_start_is}
use Rattle.ipnet_lists.specs.Causes.{IsSomeEntry}
use Rattle.ipnet_lists.proofs.cause_parts.is_entry_after_blanks.Goals as goal

pub returns : goal.returns
returns c =
    subst (λ z. IsTrue c.is_entry.result ↔ IsSomeEntry z)
    (trim_ascii_start_is c.args.text.now c.trim_ascii_start.result.now c.trim_ascii_start.ensures.value)
    c.is_entry.ensures
