-- The entries of the lines, one after another.
use Rattle.std.proofs.Common.{◌≡◌, ◌∷◌, ◌++◌, [], map, sym, ap, ◌∙◌, subst}
use Rattle.std.proofs.lemmas.List.{map_push}
use Rattle.ipnet_lists.proofs.ContentLaws.{list_taken}
use Rattle.netset_lib.specs.declared.prefix_entry.NamedRule.{NamedRule}
use Rattle.netset_lib.specs.PrefixEntries.{IsPrefixEntry, IsEntryLineCause, ArePrefixEntries}
use Rattle.netset_lib.specs.PrefixEntryOf.{entry_of}
use Rattle.netset_lib.proofs.prefix_answer.read_prefixes.Goals as goal

pub returns : goal.returns
returns c =
    let grammar = c.args.grammar in
    let (refusals, taken, kept) = c.in_ok-refused.ensures in
    let (entries, read, is) = list_taken (λ line. IsPrefixEntry grammar line.text) (IsEntryLineCause grammar)
    (λ line old new. (entry : NamedRule) × IsPrefixEntry grammar line.text (entry_of entry)
    × (new.items ≡ old.items ++ entry ∷ []))
    (λ made entries. map entry_of made.items ≡ entries)
    (λ line old new (entry, is, adds). (
      entry_of entry,
      is,
      λ entries h. ap (map entry_of) adds ∙ map_push entry_of old.items entry ∙ ap (λ z. z ++ entry_of entry ∷ []) h,
    ))
    c.args.bytes.now _ _ refusals (ap (map entry_of) c.new-entries.ensures.items) taken in
    (refusals, subst (λ z. ArePrefixEntries grammar c.args.bytes.now z refusals) (sym is) read, kept)
