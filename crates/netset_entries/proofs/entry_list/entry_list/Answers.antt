use Rattle.std.proofs.Common.{◌≡◌, ◌∷◌, ◌++◌, [], map, sym, ap, ◌∙◌, subst}
use Rattle.std.proofs.lemmas.List.{map_push}
use Rattle.ipnet_lists.proofs.ContentLaws.{list_taken}
use Rattle.netset_entries.specs.declared.entry_list.EntryLine.{EntryLine}
use Rattle.netset_entries.specs.EntryLineOf.{numbered}
use Rattle.netset_entries.specs.NumberedEntries.{IsEntryOfLine, IsEntryLineCause, IsEntryList}
use Rattle.netset_entries.proofs.entry_list.entry_list.Goals as goal

pub returns : goal.returns
returns c =
    let grammar = c.args.grammar in
    let (refusals, taken, kept) = c.in_ok-refused.ensures in
    let (entries, read, is) = list_taken (IsEntryOfLine grammar) (IsEntryLineCause grammar)
    (λ line old new. (entry : EntryLine) × IsEntryOfLine grammar line (numbered entry)
    × (new.items ≡ old.items ++ entry ∷ []))
    (λ made entries. map numbered made.items ≡ entries)
    (λ line old new (entry, is, adds). (
      numbered entry,
      is,
      λ entries h. ap (map numbered) adds ∙ map_push numbered old.items entry ∙ ap (λ z. z ++ numbered entry ∷ []) h,
    )) c.args.bytes.now _ _ refusals (ap (map numbered) c.new-entries.ensures.items) taken in
    (refusals, subst (λ z. IsEntryList grammar c.args.bytes.now z refusals) (sym is) read, kept)
