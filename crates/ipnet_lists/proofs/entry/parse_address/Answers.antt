-- The text of a network of length 32 is the text of its address and "/32", and no longer text is an address.
use Rattle.std.proofs.Common.{◌≡◌, ◌++◌, codes, refl, sym, ap, ◌∙◌, subst, arith}
use Rattle.ipnet_base.specs.Address.{ip_address}
use Rattle.ipnet.specs.NetworkOf.{ip_network}
use Rattle.ipnet.specs.NetworkTexts.{IsNetworkText}
use Rattle.ipnet_lists.specs.Entries.{IsAddressText}
use Rattle.ipnet_lists.proofs.AddressLengths.{address_length}
use Rattle.ipnet_lists.proofs.EntryTexts.{reads_some, reads_none, with_length, without_length, with_32}
use Rattle.ipnet_lists.proofs.entry.parse_address.Goals as goal

pub returns-then-text-gt-LONGEST_ADDRESS : goal.returns-then-text-gt-LONGEST_ADDRESS
returns-then-text-gt-LONGEST_ADDRESS c =
    reads_none ip_address (IsAddressText c.args.grammar) c.args.text.now
    (λ x h.
    omega (arith, address_length c.args.grammar c.args.text.now x h, c.if-text-gt-LONGEST_ADDRESS.true))

pub returns-in-Some : goal.returns-in-Some
returns-in-Some c =
    let grammar = c.args.grammar in
    let text = c.args.text.now in
    let whole : c.as_str.result.now ≡ text ++ codes "/32" =
    c.as_str.ensures.value ∙ c.push_str-2.ensures.bytes
    ∙ ap (λ z. z ++ codes "/32") (c.push_str.ensures.bytes ∙ ap (λ z. z ++ text) c.new-network.ensures) in
    let read = subst (λ z. IsNetworkText grammar z (ip_network c.in-Some.network)) whole c.in-Some.ensures.some in
    reads_some ip_address (IsAddressText grammar) text c.addr.result
    (subst (IsAddressText grammar text) (sym c.addr.ensures)
    (without_length grammar text (ip_network c.in-Some.network) read))

pub returns-in-None : goal.returns-in-None
returns-in-None c =
    let grammar = c.args.grammar in
    let text = c.args.text.now in
    let whole : c.as_str.result.now ≡ text ++ codes "/32" =
    c.as_str.ensures.value ∙ c.push_str-2.ensures.bytes
    ∙ ap (λ z. z ++ codes "/32") (c.push_str.ensures.bytes ∙ ap (λ z. z ++ text) c.new-network.ensures) in
    reads_none ip_address (IsAddressText grammar) text
    (λ x h. c.in-None.ensures.none.0 refl (with_32 x)
    (subst (λ z. IsNetworkText grammar z (with_32 x)) (sym whole) (with_length grammar text x h)))
