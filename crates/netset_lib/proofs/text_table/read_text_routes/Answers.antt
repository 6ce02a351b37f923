use Rattle.std.proofs.Common.{[], sym, subst}
use Rattle.ipnet_lists.proofs.ContentLaws.{list_taken}
use Rattle.ipnet_routes.specs.Routes.{without_host_bits}
use Rattle.netset_lib.specs.TextSteps.{AddsBlocks, AreRoutesOf, texts_in}
use Rattle.netset_lib.specs.TextTables.{TextLine, IsTextLine, IsTextLineCause}
use Rattle.netset_lib.proofs.TextLaws.{no_routes_yet, routes_more}
use Rattle.netset_lib.proofs.text_table.read_text_routes.Goals as goal

pub returns : goal.returns
returns c =
    let grammar = c.args.grammar in
    let (refusals, taken, kept) = c.in_ok-refused.ensures in
    let (lines, read, are) = list_taken (λ line. IsTextLine grammar line.text) (IsTextLineCause grammar)
    (λ line old new. (l : TextLine) × IsTextLine grammar line.text l
    × AddsBlocks (texts_in old.items) l.range l.text (texts_in new.items))
    (λ routes lines. AreRoutesOf lines (without_host_bits (texts_in routes.items)))
    (λ line old new (l, is, adds). (
      l,
      is,
      λ lines h. routes_more lines l.range l.text (texts_in old.items) (texts_in new.items) adds h,
    )) c.args.bytes.now _ _ refusals
    (subst (λ z. AreRoutesOf [] (without_host_bits (texts_in z))) (sym c.new-routes.ensures.items) no_routes_yet)
    taken in
    (lines, refusals, read, kept, are)
