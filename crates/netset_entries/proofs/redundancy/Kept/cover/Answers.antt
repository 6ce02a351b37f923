-- The spans of the kept entries show the fewest that cover the entry.
use Rattle.std.proofs.Common.{◌≤◌, map, get_or, AllPairs, Any, sym, subst}
use Rattle.ipnet_base.proofs.ListLaws.{at_place}
use Rattle.netset_entries.specs.EntryLineOf.{numbered}
use Rattle.netset_entries.specs.Covers.{Rises, IsInNumbers, IsReach}
use Rattle.netset_entries.proofs.RedundancyLaws.{entry_of_line, spans_rise, ends_inside, cover_shortest}
use Rattle.netset_entries.proofs.redundancy.Kept.cover.Goals as goal

pub cover_in-start-requires-clause-rises : goal.cover_in-start-requires-clause-rises
cover_in-start-requires-clause-rises c =
    let lines = c.args.lines.now in
    let l = get_or lines c.args.place c.index-lines-place.result in
    let span = c.span_of-family.result.1 in
    subst (AllPairs Rises) (sym c.of_family.ensures)
    (spans_rise (map numbered lines) c.args.self.now c.requires.kept c.span_of-family.result.0 c.args.place
    (numbered l)
    (entry_of_line lines c.args.place l c.requires.within
    (at_place lines c.args.place l c.index-lines-place.result c.requires.within)) span.first span.last
    c.span_of-family.ensures.range)

pub cover_in-start-requires-clause-ends : goal.cover_in-start-requires-clause-ends
cover_in-start-requires-clause-ends c = λ ordered.
    let lines = c.args.lines.now in
    let l = get_or lines c.args.place c.index-lines-place.result in
    let span = c.span_of-family.result.1 in
    subst (λ z. Any (IsInNumbers span.first) z × Any (IsInNumbers span.last) z) (sym c.of_family.ensures)
    (ends_inside (map numbered lines) c.args.self.now c.requires.kept c.span_of-family.result.0 c.args.place
    (numbered l)
    (entry_of_line lines c.args.place l c.requires.within
    (at_place lines c.args.place l c.index-lines-place.result c.requires.within)) span.first span.last
    c.span_of-family.ensures.range ordered)

pub returns-clause-shortest : goal.returns-clause-shortest
returns-clause-shortest c =
    let lines = c.args.lines.now in
    let l = get_or lines c.args.place c.index-lines-place.result in
    let span = c.span_of-family.result.1 in
    let cover = c.cover_in-start.result in
    cover_shortest (map numbered lines) c.args.self.now c.requires.kept c.span_of-family.result.0 c.args.place
    (numbered l)
    (entry_of_line lines c.args.place l c.requires.within
    (at_place lines c.args.place l c.index-lines-place.result c.requires.within)) span.first span.last
    c.span_of-family.ensures.range cover.0 cover.1
    (subst (λ z. span.first ≤ span.last → IsReach z span.first span.last cover.0 cover.1) c.of_family.ensures
    c.cover_in-start.ensures.reach)
    c.cover_in-start.ensures.none
