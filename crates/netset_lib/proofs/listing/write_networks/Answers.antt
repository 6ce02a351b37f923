-- Each turn writes the first line that is left. A front of the piece is a front of the whole text.
use Rattle.std.proofs.Common.{◌≡◌, ℕ, List, [], ap, ◌∙◌, subst}
use Rattle.std.specs.Io.{StartsWith}
use Rattle.std.specs.Io.KnownBytes.{Appends}
use Rattle.std.proofs.KnownBytes.{Appends-kept}
use Rattle.ipnet.specs.CanonicalTexts.{canonical_text}
use Rattle.ipnet.specs.NetworkOf.{ip_network}
use Rattle.ipnet.specs.SubnetsLeft.{ip_subnets_left}
use Rattle.ipnet_text.specs.LineTexts.{text_of_lines}
use Rattle.netset_lib.specs.ListingSteps.{IsWrittenUpTo}
use Rattle.netset_lib.proofs.ListingLaws.{line_more, cut_off, all_put, front_of_whole, nothing_written}
use Rattle.netset_lib.proofs.listing.write_networks.Goals as goal

pub loop-network-init : goal.loop-network-init
loop-network-init g c =
    nothing_written (g.W.Write.contents c.args.out.now) c.new-piece.result.bytes
    (text_of_lines (ip_subnets_left c.into_iter-network-iterator.result)) (text_of_lines (ip_subnets_left c.args.walk))
    c.new-piece.ensures
    (ap (λ z. text_of_lines (ip_subnets_left z)) c.into_iter-network-iterator.ensures.into_iter_gives)

pub loop-network-preserved : goal.loop-network-preserved
loop-network-preserved g c =
    let held = g.W.Write.contents in
    let line = canonical_text (ip_network c.in-Some.network) in
    let rest = text_of_lines (ip_subnets_left c.loop-network.network-iterator) in
    let left = text_of_lines (ip_subnets_left c.next.new.self) in
    line_more (held c.args.out.now) (held c.loop-network.out) (held c.put_line.new.out) c.loop-network.piece.bytes
    c.put_line.new.piece.bytes line rest left (text_of_lines (ip_subnets_left c.args.walk)) c.loop-network.invariant
    (ap text_of_lines c.in-Some.ensures.steps) c.in_ok-put_line.ensures.ok

pub returns-in_err-put_line-clause-front : goal.returns-in_err-put_line-clause-front
returns-in_err-put_line-clause-front g c =
    let held = g.W.Write.contents in
    cut_off (held c.args.out.now) (held c.loop-network.out) (held c.put_line.new.out) c.loop-network.piece.bytes
    (text_of_lines (ip_subnets_left c.loop-network.network-iterator)) (text_of_lines (ip_subnets_left c.args.walk))
    c.loop-network.invariant c.in_err-put_line.ensures.front

pub returns-in_err-write_whole-clause-front : goal.returns-in_err-write_whole-clause-front
returns-in_err-write_whole-clause-front g c =
    let held = g.W.Write.contents in
    let here = held c.loop-network.out in
    let bytes = c.loop-network.piece.bytes in
    let piece : c.as_bytes.result.now ≡ bytes = c.as_bytes.ensures.value ∙ c.as_str.ensures.value in
    cut_off (held c.args.out.now) here (held c.write_whole.new.out) bytes
    (text_of_lines (ip_subnets_left c.loop-network.network-iterator)) (text_of_lines (ip_subnets_left c.args.walk))
    c.loop-network.invariant
    (subst (λ z. (front : List ℕ) × StartsWith z front × Appends here (held c.write_whole.new.out) front) piece
    c.in_err-write_whole.ensures.front)

pub returns-clause-front : goal.returns-clause-front
returns-clause-front g c =
    let held = g.W.Write.contents in
    let start = held c.args.out.now in
    let here = held c.loop-network.out in
    let bytes = c.loop-network.piece.bytes in
    let whole = text_of_lines (ip_subnets_left c.args.walk) in
    let piece : c.as_bytes.result.now ≡ bytes = c.as_bytes.ensures.value ∙ c.as_str.ensures.value in
    let all : IsWrittenUpTo start here bytes [] whole =
    subst (λ z. IsWrittenUpTo start here bytes z whole) (ap text_of_lines c.in-None.ensures.steps.0)
    c.loop-network.invariant in
    front_of_whole start (held c.flush.new.self) whole
    (Appends-kept start (held c.write_whole.new.out) (held c.flush.new.self) whole
    (all_put start here (held c.write_whole.new.out) bytes whole all
    (subst (Appends here (held c.write_whole.new.out)) piece c.in_ok-write_whole.ensures.whole))
    c.flush.ensures.bytes)
