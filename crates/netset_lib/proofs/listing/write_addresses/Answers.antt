-- Each turn writes the first line that is left. A front of the piece is a front of the whole text.
use Rattle.std.proofs.Common.{◌≡◌, ℕ, List, [], ap, ◌∙◌, subst}
use Rattle.std.specs.Io.{StartsWith}
use Rattle.std.specs.Io.KnownBytes.{Appends}
use Rattle.std.proofs.KnownBytes.{Appends-kept}
use Rattle.ipnet_base.specs.Address.{ip_address}
use Rattle.ipnet_base.specs.RangeOf.{ip_addresses}
use Rattle.ipnet.specs.CanonicalTexts.{address_text}
use Rattle.netset_lib.specs.Listings.{text_of_addresses}
use Rattle.netset_lib.specs.ListingSteps.{IsWrittenUpTo}
use Rattle.netset_lib.proofs.ListingLaws.{line_more, cut_off, all_put, front_of_whole}
use Rattle.netset_lib.proofs.listing.write_addresses.Goals as goal

pub loop-address-preserved : goal.loop-address-preserved
loop-address-preserved g c =
    let held = g.W.Write.contents in
    let a = ip_address c.in-Some.address in
    let line = address_text a.family a.number in
    let rest = text_of_addresses (ip_addresses c.loop-address.address-iterator) in
    let left = text_of_addresses (ip_addresses c.next.new.self) in
    line_more (held c.args.out.now) (held c.loop-address.out) (held c.put_address.new.out) c.loop-address.piece.bytes
    c.put_address.new.piece.bytes line rest left (text_of_addresses (ip_addresses c.args.range))
    c.loop-address.invariant (ap text_of_addresses c.in-Some.ensures.steps) c.in_ok-put_address.ensures.ok

pub returns-in_err-put_address-clause-front : goal.returns-in_err-put_address-clause-front
returns-in_err-put_address-clause-front g c =
    let held = g.W.Write.contents in
    cut_off (held c.args.out.now) (held c.loop-address.out) (held c.put_address.new.out) c.loop-address.piece.bytes
    (text_of_addresses (ip_addresses c.loop-address.address-iterator)) (text_of_addresses (ip_addresses c.args.range))
    c.loop-address.invariant c.in_err-put_address.ensures.front

pub returns-in_err-write_whole-clause-front : goal.returns-in_err-write_whole-clause-front
returns-in_err-write_whole-clause-front g c =
    let held = g.W.Write.contents in
    let here = held c.loop-address.out in
    let bytes = c.loop-address.piece.bytes in
    let piece : c.as_bytes.result.now ≡ bytes = c.as_bytes.ensures.value ∙ c.as_str.ensures.value in
    cut_off (held c.args.out.now) here (held c.write_whole.new.out) bytes
    (text_of_addresses (ip_addresses c.loop-address.address-iterator)) (text_of_addresses (ip_addresses c.args.range))
    c.loop-address.invariant
    (subst (λ z. (front : List ℕ) × StartsWith z front × Appends here (held c.write_whole.new.out) front) piece
    c.in_err-write_whole.ensures.front)

pub returns-clause-front : goal.returns-clause-front
returns-clause-front g c =
    let held = g.W.Write.contents in
    let start = held c.args.out.now in
    let here = held c.loop-address.out in
    let bytes = c.loop-address.piece.bytes in
    let whole = text_of_addresses (ip_addresses c.args.range) in
    let piece : c.as_bytes.result.now ≡ bytes = c.as_bytes.ensures.value ∙ c.as_str.ensures.value in
    let all : IsWrittenUpTo start here bytes [] whole =
    subst (λ z. IsWrittenUpTo start here bytes z whole) (ap text_of_addresses c.in-None.ensures.steps.0)
    c.loop-address.invariant in
    front_of_whole start (held c.flush.new.self) whole
    (Appends-kept start (held c.write_whole.new.out) (held c.flush.new.self) whole
    (all_put start here (held c.write_whole.new.out) bytes whole all
    (subst (Appends here (held c.write_whole.new.out)) piece c.in_ok-write_whole.ensures.whole))
    c.flush.ensures.bytes)
