use Rattle.std.proofs.Common.{◌≡◌, ◌++◌, ◌∷◌, ◌==◌, true, false, None, refl, sym, subst, ap, ap₂, ◌∙◌, lit<}
use Rattle.std.proofs.Common.{All, ◌≢◌, IfSome}
use Rattle.std.specs.List.{list_any}
use Rattle.std.proofs.lemmas.Str.Ascii.{trim_ascii_end_is, trim_ascii_start_is}
use Rattle.ipnet_lists.specs.Entries.{HasReturn, IsAddressText, WriteRange, ReadsAs, after_blanks}
use Rattle.ipnet_lists.specs.EntryOf.{entry_range}
use Rattle.ipnet_lists.specs.EntrySteps.{HasEnds}
use Rattle.ipnet_lists.proofs.AddressBytes.{cut_at, front_lacks, all_lack}
use Rattle.ipnet_lists.proofs.EntryTexts.{reads_broken, reads_cut, reads_uncut, written_range}
use Rattle.ipnet_lists.proofs.entry.read_entry.Goals as goal

pub returns-then-has_byte-clause-reads : goal.returns-then-has_byte-clause-reads
returns-then-has_byte-clause-reads c =
    let text = c.args.text.now in
    let broken : HasReturn text =
    sym (c.has_byte.ensures ∙ ap (list_any (λ b. b == 13)) c.as_bytes.ensures.value) ∙ c.if-has_byte.true in
    reads_broken entry_range c.args.grammar text broken None refl

pub returns-else-has_byte-clause-reads : goal.returns-else-has_byte-clause-reads
returns-else-has_byte-clause-reads c =
    let grammar = c.args.grammar in
    let text = c.args.text.now in
    let first = c.in-Some.first.now in
    let last = c.in-Some.last.now in
    let cut = c.in-Some.ensures.byte (lit< tt) (λ w o h. h) in
    let spelled : text ≡ first ++ 45 ∷ last =
    cut_at 45 text cut.2 ∙ ap₂ (λ a b. a ++ 45 ∷ b) (sym cut.0) (sym cut.1) in
    let lacks : All (λ b. b ≢ 45) first = subst (All (λ b. b ≢ 45)) (sym cut.0) (front_lacks 45 text cut.2) in
    let unbroken : ¬ (HasReturn text) = λ h.
    let clash : true ≡ false =
    sym h ∙ sym (c.has_byte.ensures ∙ ap (list_any (λ b. b == 13)) c.as_bytes.ensures.value)
    ∙ c.if-has_byte.false in
    absurd cc in
    let before = trim_ascii_end_is first c.trim_ascii_end.result.now c.trim_ascii_end.ensures.value in
    let after = trim_ascii_start_is last c.trim_ascii_start.result.now c.trim_ascii_start.ensures.value in
    reads_cut entry_range grammar text first last spelled lacks unbroken c.read_range.result
    (subst (λ z. ReadsAs entry_range (WriteRange grammar z) (after_blanks last) c.read_range.result) before
    (subst (λ z. ReadsAs entry_range (WriteRange grammar c.trim_ascii_end.result.now) z c.read_range.result) after
    c.read_range.ensures.reads))

pub returns-else-has_byte-clause-kind : goal.returns-else-has_byte-clause-kind
returns-else-has_byte-clause-kind c =
    let grammar = c.args.grammar in
    let text = c.args.text.now in
    let first = c.in-Some.first.now in
    let last = c.in-Some.last.now in
    let cut = c.in-Some.ensures.byte (lit< tt) (λ w o h. h) in
    let spelled : text ≡ first ++ 45 ∷ last =
    cut_at 45 text cut.2 ∙ ap₂ (λ a b. a ++ 45 ∷ b) (sym cut.0) (sym cut.1) in
    let before = trim_ascii_end_is first c.trim_ascii_end.result.now c.trim_ascii_end.ensures.value in
    let after = trim_ascii_start_is last c.trim_ascii_start.result.now c.trim_ascii_start.ensures.value in
    written_range grammar text first last spelled c.read_range.result
    (subst (λ z. IfSome c.read_range.result (HasEnds (IsAddressText grammar z)
    (IsAddressText grammar (after_blanks last)))) before
    (subst (λ z. IfSome c.read_range.result
    (HasEnds (IsAddressText grammar c.trim_ascii_end.result.now) (IsAddressText grammar z))) after
    c.read_range.ensures.kind))

pub returns-in-None-clause-reads : goal.returns-in-None-clause-reads
returns-in-None-clause-reads c =
    let grammar = c.args.grammar in
    let text = c.args.text.now in
    let lacks = all_lack 45 text (c.in-None.ensures.byte (lit< tt) (λ w o h. h)) in
    reads_uncut entry_range grammar text lacks c.read_plain.result c.read_plain.ensures.reads
