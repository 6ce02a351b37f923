use Rattle.std.proofs.Common.{◌<◌, ◌∷◌, [], length, refl, subst}
use Rattle.ipnet_text.proofs.LineCuts.{some_bytes, no_bytes}
use Rattle.ipnet_text.proofs.ListsLaws.{OnOk_then}
use Rattle.ipnet_lists.specs.Entries.{IsEntryText, IsNoEntry}
use Rattle.ipnet_lists.specs.FoundEntry.{found_range}
use Rattle.ipnet_lists.specs.Lists.{refusal_at}
use Rattle.ipnet_lists.specs.RefusedLines.{HasMore}
use Rattle.ipnet_lists.proofs.ListLines.{entry_utf8}
use Rattle.ipnet_lists.proofs.ListReading.{adds_empty, adds_entry, adds_refusal, reads_one}
use Rattle.ipnet_lists.proofs.reader.LineReader.read_line.Goals as goal

pub returns-then-is_empty : goal.returns-then-is_empty
returns-then-is_empty g c =
    let text = c.contents_of-text.result.now in
    let made = g.C.Collector.is_made c.args.collector.now c.args.made.now in
    reads_one c.args.self.now _ c.args.line.now text made made c.contents_of-text.ensures
    (adds_empty c.args.self.now _ text refl refl c.in_ok-number.ensures.next made
    (no_bytes (length text) c.if-is_empty.ensures) refl refl)

pub push-requires : goal.push-requires
push-requires g c =
    entry_utf8 c.args.self.now.grammar c.contents_of-text.result.now (found_range c.in-Some.found)
    c.in-Some.ensures.reads.some

pub returns-in-Some : goal.returns-in-Some
returns-in-Some g c =
    let old = c.args.self.now in
    let text = c.contents_of-text.result.now in
    let f = c.in-Some.found in
    let before = g.C.Collector.is_made c.args.collector.now c.args.made.now in
    let after = g.C.Collector.is_made c.args.collector.now c.push.new.made in
    let some : 0 < length text = some_bytes (length text) c.if-is_empty.ensures in
    let is : IsEntryText old.grammar text (found_range f) = c.in-Some.ensures.reads.some in
    OnOk_then c.push.result c.push.ensures
    (λ made. reads_one old _ c.args.line.now text before after c.contents_of-text.ensures
    (adds_entry old _ text refl refl c.in_ok-number.ensures.next before after (found_range f) some is refl refl made))

pub returns-in-None : goal.returns-in-None
returns-in-None g c =
    let old = c.args.self.now in
    let text = c.contents_of-text.result.now in
    let made = g.C.Collector.is_made c.args.collector.now c.args.made.now in
    let none : IsNoEntry old.grammar text = c.in-None.ensures.reads.none.0 refl in
    OnOk_then c.push-in-None.result c.push-in-None.ensures
    (λ more. reads_one old _ c.args.line.now text made made c.contents_of-text.ensures
    (adds_refusal old _ text refl refl c.in_ok-number.ensures.next made
    (some_bytes (length text) c.if-is_empty.ensures) none
    (subst (λ n. HasMore old.refused c.push-in-None.new.self (refusal_at old.grammar old.list n text ∷ []))
    c.in_ok-number.ensures.next more) refl))
