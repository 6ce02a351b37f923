-- An entry with nothing around it is the contents of its line (`PlainLines`).
use Rattle.std.proofs.Common.{refl}
use Rattle.ipnet_text.proofs.ListsLaws.{OnOk_then}
use Rattle.ipnet_lists.specs.EntryOf.{entry_range}
use Rattle.ipnet_lists.proofs.ListLines.{entry_utf8}
use Rattle.ipnet_lists.proofs.ListReading.{adds_entry, reads_one}
use Rattle.ipnet_lists.proofs.PlainLines.{plain_contents, plain_entry, word_is_entry}
use Rattle.ipnet_lists.proofs.reader.LineReader.push_found.Goals as goal

pub push-requires : goal.push-requires
push-requires g c =
    let grammar = c.args.self.now.grammar in
    let range = entry_range c.args.entry in
    entry_utf8 grammar c.args.text.now range (word_is_entry grammar c.args.text.now range c.requires.entry)

pub returns : goal.returns
returns g c =
    let old = c.args.self.now in
    let text = c.args.text.now in
    let range = entry_range c.args.entry in
    let before = g.C.Collector.is_made c.args.collector.now c.args.made.now in
    let after = g.C.Collector.is_made c.args.collector.now c.push.new.made in
    OnOk_then c.push.result c.push.ensures
    (λ made. reads_one old _ text text before after
    (plain_contents text (plain_entry old.grammar text range c.requires.entry))
    (adds_entry old _ text refl refl c.in_ok-number.ensures.next before after range c.requires.some
    (word_is_entry old.grammar text range c.requires.entry) refl refl made))
