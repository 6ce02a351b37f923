use Rattle.std.proofs.Common.{rules, ◌≡◌, codes}
use Rattle.ipnet.specs.CanonicalTexts.{canonical_text}
use Rattle.ipnet.specs.NetworkOf.{ip_network}
use Rattle.ipnet_info.specs.Facts.{member}
use Rattle.ipnet_info.proofs.FactTexts.{then_, of_value}
use Rattle.ipnet_info.proofs.facts.push_purpose_object.Goals as goal

pub returns : goal.returns
returns c =
    let block : c.as_str.result.now ≡ canonical_text (ip_network c.args.purpose.now.block) = search rules in
    then_ (then_ (then_ (then_ (then_ (then_ (then_ (then_ c.in_ok-push_piece.ensures (of_value (member (codes
    "block")) c.in_ok-push_member.ensures block)) c.in_ok-push_piece-2.ensures) c.in_ok-push_member-2.ensures)
    c.in_ok-push_piece-3.ensures) c.in_ok-push_member-3.ensures) c.in_ok-push_piece-4.ensures) (of_value (λ v.
    v) c.in_ok-push_piece-5.ensures c.whole_text.ensures)) c.in_ok-push_piece-6.ensures
