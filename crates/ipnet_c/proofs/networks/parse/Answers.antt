-- The reply, of `NetworkReplies`, is proved of the text as UTF-8 hands it back, and so of the bytes that were lent.
use Rattle.std.proofs.Common.{refl, sym, subst, ◌∙◌, IsUtf8}
use Rattle.ipnet.specs.NetworkOf.{ip_network}
use Rattle.ipnet_c.specs.Replies.{IsParseReply}
use Rattle.ipnet_c.proofs.NetworkReplies.{refused, parsed}
use Rattle.ipnet_c.proofs.networks.parse.Goals as goal

pub returns-in_default-parse_as : goal.returns-in_default-parse_as
returns-in_default-parse_as c =
    let (same, utf8) = c.in-Ok.ensures.cases in
    subst (λ t. IsParseReply c.args.grammar t c.args.buffer.now c.args.buffer.now c.args.count.now c.args.count.now 5)
    same
    (refused c.args.grammar c.in-Ok.text.now c.args.buffer.now c.args.count.now (subst IsUtf8 (sym same) utf8)
    (c.in_default-parse_as.ensures.error.0 refl))

pub returns : goal.returns
returns c =
    let (same, utf8) = c.in-Ok.ensures.cases in
    let net = c.in-Ok-parse_as.network in
    let made = c.write_to_buffer in
    subst (λ t. IsParseReply c.args.grammar t c.args.buffer.now made.new.buffer c.args.count.now made.new.count
    made.result) same
    (parsed c.args.grammar c.in-Ok.text.now c.deref.result.now c.args.buffer.now made.new.buffer c.args.count.now
    made.new.count made.result (ip_network net) (subst IsUtf8 (sym same) utf8)
    ((c.in-Ok-parse_as.ensures.ok net).0 refl) (c.deref.ensures.0 ∙ c.to_bytes.ensures) made.ensures.known
    made.ensures.ok made.ensures.too_short)
