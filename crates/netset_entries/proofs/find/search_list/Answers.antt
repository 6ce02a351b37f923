use Rattle.std.proofs.Common.{length, sym, ◌∙◌, subst, eqb-true}
use Rattle.ipnet_text.proofs.LineCuts.{empty_text}
use Rattle.ipnet_lists.specs.Lists.{after_mark}
use Rattle.netset_entries.specs.FindSteps.{search_of}
use Rattle.netset_entries.proofs.FindLaws.{SearchedBefore, before_more, before_end}
use Rattle.netset_entries.proofs.find.search_list.Goals as goal

pub lines-preserved : goal.lines-preserved
lines-preserved c =
    before_more (search_of c.args.search.now) c.args.name.now (after_mark c.args.bytes.now) c.lines.number
    c.in_ok-number.number c.lines.rest.now c.first_line_of_bytes.result.0.now c.first_line_of_bytes.result.1.now
    c.lines.found c.search_line.new.found c.lines.invariant c.first_line_of_bytes.ensures.lines
    c.in_ok-number.ensures.next c.in_ok-search_line.ensures

pub returns : goal.returns
returns c =
    let search = search_of c.args.search.now in
    let name = c.args.name.now in
    let bytes = after_mark c.args.bytes.now in
    let none = empty_text c.lines.rest.now
    (eqb-true (length c.lines.rest.now) 0 (sym c.is_empty.ensures ∙ c.lines-test.false)) in
    let h = subst (λ z. SearchedBefore search name bytes c.lines.number z c.lines.found) none c.lines.invariant in
    (h.refusals, before_end search name bytes c.lines.number c.lines.found h, h.kept)
