use Rattle.std.proofs.Common.{IsTrue, ◌↔◌, subst}
use Rattle.std.proofs.lemmas.Str.Ascii.{trim_ascii_end_is}
use Rattle.ipnet_lists.specs.Causes.{IsSomeEntry}
use Rattle.ipnet_lists.proofs.cause_follows.is_first_entry.Goals as goal

pub returns : goal.returns
returns c =
    subst (λ z. IsTrue c.is_entry_word.result ↔ IsSomeEntry z)
    (trim_ascii_end_is c.args.bytes.now c.trim_ascii_end.result.now c.trim_ascii_end.ensures.value)
    c.is_entry_word.ensures
