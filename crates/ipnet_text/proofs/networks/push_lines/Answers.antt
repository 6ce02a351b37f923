-- The lines read and the lines still to be read make the whole text: each line, empty or a network, moves from the rest
-- to the lines that were read (`LineLaws`, `one_taken_more`). A bad line is the first bad one (`EarlyLines`).
use Rattle.std.proofs.Common.{◌≡◌, ◌+◌, ◌<◌, [], length, refl, subst, arith, rules, append-nil}
use Rattle.std.proofs.Common.{inl, inr, ap, sym, ◌∙◌, take, drop}
use Rattle.ipnet.specs.Lines.{lines_of, IsFirstBadLine}
use Rattle.ipnet.specs.NetworkOf.{ip_network}
use Rattle.ipnet.proofs.LineLaws.{empty_line, network_line, bad_line, good_line, no_lines}
use Rattle.ipnet_text.specs.BadLines.{StartsWithBadLine}
use Rattle.ipnet_text.proofs.EarlyLines.{none_taken, one_taken_more, none_taken_more}
use Rattle.ipnet_text.proofs.EarlyLines.{after_empty, bad_here, not_good, none_bad, not_all_empty, rest_empty}
use Rattle.ipnet_text.proofs.FrontLines.{front_line, cut_after}
use Rattle.ipnet_text.proofs.LineCuts.{some_bytes, no_bytes, empty_text}
use Rattle.ipnet_text.proofs.networks.push_lines.Goals as goal

pub lines-init : goal.lines-init
lines-init g c = record {
  is_text = search rules;
  room = omega arith;
  count = refl;
  taken = none_taken c.args.grammar (lines_of c.args.text.now) (g.S.NetworkSink.is_made c.args.sink.now);
  empty = λ h. (h, refl);
  bad_line = λ later h. (later, refl, h);
  at_once = λ number h. (number, refl, h);
}

pub returns-in_default-parse_as-clause-bad_line : goal.returns-in_default-parse_as-clause-bad_line
returns-in_default-parse_as-clause-bad_line g c = λ number e.
    let cut = c.first_line.ensures.lines in
    let first : IsFirstBadLine c.args.grammar (lines_of c.lines.rest.now) 1 =
    rw cut (bad_line c.args.grammar c.first_line.result.0.now (lines_of c.first_line.result.1.now)
    (some_bytes (length c.first_line.result.0.now) c.if-not-is_empty.ensures)
    (c.in_default-parse_as.ensures.error.0 refl)) in
    let (whole, is, bad) = c.lines.invariant.bad_line 1 first in
    let same : c.lines.number + 1 ≡ number = cc in
    (whole, sym same ∙ is, bad)

pub lines-preserved-in-Continue-branch-2 : goal.lines-preserved-in-Continue-branch-2
lines-preserved-in-Continue-branch-2 g c =
    let grammar = c.args.grammar in
    let cut = c.first_line.ensures.lines in
    let line = c.first_line.result.0.now in
    let after = lines_of c.first_line.result.1.now in
    let n = ip_network c.in-Ok.network in
    let some : 0 < length line = some_bytes (length line) c.if-not-is_empty.ensures in
    record {
      is_text = search rules;
      room = omega (arith, c.first_line.ensures.shorter);
      count = omega (arith, c.lines.invariant.count, ap length cut);
      taken = one_taken_more grammar (lines_of c.args.text.now) (lines_of c.lines.rest.now) after
          (g.S.NetworkSink.is_made c.args.sink.now) (g.S.NetworkSink.is_made c.lines.sink) c.lines.invariant.taken
          (g.S.NetworkSink.is_made c.push-then-not-is_empty.new.self) n
          (λ more h. rw cut (network_line grammar line after n more some
          ((c.in-Ok.ensures.ok c.in-Ok.network).0 refl) h))
          c.in_ok-push-2.ensures;
      empty = λ h. absurd (not_all_empty (lines_of c.lines.rest.now) line after cut some (c.lines.invariant.empty h).0);
      bad_line = λ later h.
          let (whole, is, bad) = c.lines.invariant.bad_line (1 + later)
          (rw cut (good_line grammar line after later
          (inr (n, ((c.in-Ok.ensures.ok c.in-Ok.network).0 refl))) h)) in
          (whole, omega (arith, is), bad);
      at_once = λ number h.
          let (later, is, at) = c.lines.invariant.at_once number h in
          absurd (not_good grammar line after later n some
          ((c.in-Ok.ensures.ok c.in-Ok.network).0 refl)
          (subst (λ z. StartsWithBadLine grammar z later) cut at));
    }

pub returns-in_err-push-2-clause-bad_at_once : goal.returns-in_err-push-2-clause-bad_at_once
returns-in_err-push-2-clause-bad_at_once g c = λ number h.
    let grammar = c.args.grammar in
    let line = c.first_line.result.0.now in
    let (later, is, at) = c.lines.invariant.at_once number h in
    absurd (not_good grammar line (lines_of c.first_line.result.1.now) later (ip_network c.in-Ok.network)
    (some_bytes (length line) c.if-not-is_empty.ensures) ((c.in-Ok.ensures.ok c.in-Ok.network).0 refl)
    (subst (λ z. StartsWithBadLine grammar z later) c.first_line.ensures.lines at))

pub lines-preserved : goal.lines-preserved
lines-preserved g c =
    let grammar = c.args.grammar in
    let cut = c.first_line.ensures.lines in
    let line = c.first_line.result.0.now in
    let after = lines_of c.first_line.result.1.now in
    let none : length line ≡ 0 = no_bytes (length line) c.if-not-is_empty.ensures in
    record {
      is_text = search rules;
      room = omega (arith, c.first_line.ensures.shorter);
      count = omega (arith, c.lines.invariant.count, ap length cut);
      taken = none_taken_more grammar (lines_of c.args.text.now) (lines_of c.lines.rest.now) after
          (g.S.NetworkSink.is_made c.args.sink.now) (g.S.NetworkSink.is_made c.lines.sink) c.lines.invariant.taken
          (λ more h. rw cut (empty_line grammar line after more none h));
      empty = λ h.
          let (rest, none_yet) = c.lines.invariant.empty h in
          (rest_empty (lines_of c.lines.rest.now) line after cut rest, none_yet);
      bad_line = λ later h.
          let (whole, is, bad) = c.lines.invariant.bad_line (1 + later)
          (rw cut (good_line grammar line after later (inl (empty_text line none)) h)) in
          (whole, omega (arith, is), bad);
      at_once = λ number h.
          let (later, is, at) = c.lines.invariant.at_once number h in
          let (less, more, still) = after_empty grammar line after later none
          (subst (λ z. StartsWithBadLine grammar z later) cut at) in
          (less, omega (arith, is, more), still);
    }

pub returns-clause-networks : goal.returns-clause-networks
returns-clause-networks g c =
    let none : length c.lines.rest.now ≡ 0 = no_bytes (length c.lines.rest.now) c.lines-test.ensures in
    let (front, are, made) = c.lines.invariant.taken in
    (front, rw append-nil at (are [] (no_lines c.args.grammar c.lines.rest.now none)), made)

pub returns-clause-bad_at_once : goal.returns-clause-bad_at_once
returns-clause-bad_at_once g c = λ number h.
    let none : length c.lines.rest.now ≡ 0 = no_bytes (length c.lines.rest.now) c.lines-test.ensures in
    let (later, is, at) = c.lines.invariant.at_once number h in
    absurd (none_bad c.args.grammar c.lines.rest.now later none at)

pub returns-in_default-parse_as-clause-bad_at_once : goal.returns-in_default-parse_as-clause-bad_at_once
returns-in_default-parse_as-clause-bad_at_once g c = λ number h.
    let grammar = c.args.grammar in
    let line = c.first_line.result.0.now in
    let after = lines_of c.first_line.result.1.now in
    let (later, is, at) = c.lines.invariant.at_once number h in
    let (bad, one) = bad_here grammar line after later (some_bytes (length line) c.if-not-is_empty.ensures)
    (subst (λ z. StartsWithBadLine grammar z later) c.first_line.ensures.lines at) in
    let same : c.lines.number + 1 ≡ c.args.before + number = omega (arith, is, one) in
    cc

pub lines-preserved-in-Some : goal.lines-preserved-in-Some
lines-preserved-in-Some g c =
    let grammar = c.args.grammar in
    let text = c.lines.rest.now in
    let line = take c.in-Some.front.len text in
    let after = lines_of c.range_from-rest.result.now in
    let n = ip_network c.in-Some.front.network in
    let f = front_line grammar text c.as_bytes.result.now c.range_from-rest.result.now c.in-Some.front.len n
    c.as_bytes.ensures.value c.range_from-rest.ensures.value c.in-Some.ensures.network c.in-Some.ensures.lines in
    record {
      is_text = search rules;
      room = omega (arith, c.lines.invariant.room, c.range_from-rest.ensures.len);
      count = omega (arith, c.lines.invariant.count, ap length f.cut);
      taken = one_taken_more grammar (lines_of c.args.text.now) (lines_of text) after
          (g.S.NetworkSink.is_made c.args.sink.now) (g.S.NetworkSink.is_made c.lines.sink) c.lines.invariant.taken
          (g.S.NetworkSink.is_made c.push.new.self) n
          (λ more h. rw f.cut (network_line grammar line after n more f.some f.is h)) c.in_ok-push.ensures;
      empty = λ h. absurd (not_all_empty (lines_of text) line after f.cut f.some (c.lines.invariant.empty h).0);
      bad_line = λ later h.
          let (whole, is, bad) = c.lines.invariant.bad_line (1 + later)
          (rw f.cut (good_line grammar line after later (inr (n, f.is)) h)) in
          (whole, omega (arith, is), bad);
      at_once = λ number h.
          let (later, is, at) = c.lines.invariant.at_once number h in
          absurd (not_good grammar line after later n f.some f.is
          (subst (λ z. StartsWithBadLine grammar z later) f.cut at));
    }

pub returns-in_err-push-clause-empty : goal.returns-in_err-push-clause-empty
returns-in_err-push-clause-empty g c = λ h.
    let text = c.lines.rest.now in
    let rest = drop (c.in-Some.front.len + 1) text in
    let f = front_line c.args.grammar text c.as_bytes.result.now rest c.in-Some.front.len
    (ip_network c.in-Some.front.network) c.as_bytes.ensures.value refl c.in-Some.ensures.network
    c.in-Some.ensures.lines in
    absurd (not_all_empty (lines_of text) (take c.in-Some.front.len text) (lines_of rest) f.cut f.some
    (c.lines.invariant.empty h).0)

pub returns-in_err-push-clause-bad_at_once : goal.returns-in_err-push-clause-bad_at_once
returns-in_err-push-clause-bad_at_once g c = λ number h.
    let text = c.lines.rest.now in
    let rest = drop (c.in-Some.front.len + 1) text in
    let n = ip_network c.in-Some.front.network in
    let f = front_line c.args.grammar text c.as_bytes.result.now rest c.in-Some.front.len n
    c.as_bytes.ensures.value refl c.in-Some.ensures.network c.in-Some.ensures.lines in
    let (later, is, at) = c.lines.invariant.at_once number h in
    absurd (not_good c.args.grammar (take c.in-Some.front.len text) (lines_of rest) later n f.some f.is
    (subst (λ z. StartsWithBadLine c.args.grammar z later) f.cut at))

pub range_from-rest-requires : goal.range_from-rest-requires
range_from-rest-requires g c _ =
    cut_after c.lines.rest.now c.as_bytes.result.now c.in-Some.front.len c.as_bytes.ensures.value
    c.in-Some.ensures.within c.in-Some.ensures.newline c.lines.invariant.is_text
