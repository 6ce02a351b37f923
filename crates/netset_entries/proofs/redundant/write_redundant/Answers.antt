-- The dropped entries of the list are written.
use Rattle.std.proofs.Common.{map, length, eqb, subst, ◌∙◌, inr, ap}
use Rattle.std.specs.Io.KnownBytes.{Appends}
use Rattle.netset_entries.specs.Covers.{dropped_of}
use Rattle.netset_entries.specs.EntryLineOf.{numbered}
use Rattle.netset_entries.specs.EntryTexts.{IsFront}
use Rattle.netset_entries.specs.Redundancy.{dropped_lines}
use Rattle.netset_entries.proofs.RedundancyLaws.{dropped_if, kept_if, text_is}
use Rattle.netset_entries.proofs.redundant.write_redundant.Goals as goal

pub returns-clause-some : goal.returns-clause-some
returns-clause-some g c =
    dropped_if (map numbered c.args.lines.now) c.in_ok-kept.kept c.in_ok-kept.ensures c.in_ok-covered.covered.items
    c.in_ok-covered.ensures.dropped c.is_empty.result
    (c.is_empty.ensures ∙ ap (λ z. eqb (length z) 0) c.as_slice-list.ensures.value)

pub returns-clause-none : goal.returns-clause-none
returns-clause-none g c =
    kept_if (map numbered c.args.lines.now) c.in_ok-kept.kept c.in_ok-kept.ensures c.in_ok-covered.covered.items
    c.in_ok-covered.ensures.dropped c.is_empty.result
    (c.is_empty.ensures ∙ ap (λ z. eqb (length z) 0) c.as_slice-list.ensures.value)

pub returns-clause-whole : goal.returns-clause-whole
returns-clause-whole g c = λ ok.
    let held = g.W.Write.contents in
    let entries = map numbered c.args.lines.now in
    let kept = c.in_ok-kept.kept in
    let make = map (dropped_of kept.ipv4.items kept.ipv6.items) in record {
      text = dropped_lines entries (make c.in_ok-covered.covered.items);
      right = text_is entries kept c.in_ok-kept.ensures c.in_ok-covered.covered.items c.in_ok-covered.ensures.dropped;
      written = subst
          (λ z. Appends (held c.args.out.now) (held c.write_dropped.new.out) (dropped_lines entries (make z)))
          c.as_slice-list.ensures.value c.in_ok-write_dropped.ensures.whole;
    }

pub returns-in_err-write_dropped-clause-front : goal.returns-in_err-write_dropped-clause-front
returns-in_err-write_dropped-clause-front g c = λ err.
    let held = g.W.Write.contents in
    let entries = map numbered c.args.lines.now in
    let kept = c.in_ok-kept.kept in
    let make = map (dropped_of kept.ipv4.items kept.ipv6.items) in
    let (front, begins, written) =
    subst (λ z. IsFront (held c.args.out.now) (held c.write_dropped.new.out) (dropped_lines entries (make z)))
    c.as_slice-list.ensures.value c.in_err-write_dropped.ensures.front in
    inr record {
      text = dropped_lines entries (make c.in_ok-covered.covered.items);
      right = text_is entries kept c.in_ok-kept.ensures c.in_ok-covered.covered.items c.in_ok-covered.ensures.dropped;
      front = front;
      begins = begins;
      written = written;
    }
