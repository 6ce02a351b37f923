use Rattle.ipnet_base.proofs.AddressLaws.{bits_from_number, ipv6_bits_from_number}
use Rattle.std.proofs.Common.{lit<, ◌↔◌, ◌⊎◌, inl, inr}
use Rattle.std.proofs.lemmas.Result.{IfOk-weaker}
use Rattle.ipnet_base.specs.Address.{Address, IsAddress}
use Rattle.ipnet_sets.specs.Members.{IsMember}
use Rattle.netset_lib.specs.Operations.{IsChosen}
use Rattle.netset_lib.proofs.OperationLaws.{in_families}
use Rattle.netset_lib.proofs.operation.addresses_of_families.Goals as goal

pub returns : goal.returns
returns c =
    let ipv4 = c.in_ok-ipv4.ipv4 in
    let ipv6 = c.in_ok-ipv6.ipv6 in
    let four_from = bits_from_number c.from_bits-start4.result 0 (lit< tt) c.from_bits-start4.ensures in
    let four_to = bits_from_number c.from_bits-end4.result 4294967295 (lit< tt) c.from_bits-end4.ensures in
    let six_from = ipv6_bits_from_number c.from_bits-start6.result 0 (lit< tt) c.from_bits-start6.ensures in
    let six_to = ipv6_bits_from_number c.from_bits-end6.result 340282366920938463463374607431768211455 (lit< tt)
    c.from_bits-end6.ensures in
    let chosen = IsChosen IsMember c.args.families c.args.set.now in
    IfOk-weaker c.union.result
    (λ s. (x : Address) → IsMember s x ↔ (IsMember ipv4 x ⊎ IsMember ipv6 x))
    (λ s. (x : Address) → IsAddress x → IsMember s x ↔ chosen x.family)
    (λ s h x fits.
    let four = c.in_ok-ipv4.ensures x fits in
    let six = c.in_ok-ipv6.ensures x fits in
    let all = in_families chosen c.takes_ipv4-has4.result c.takes_ipv6-has6.result _ _ _ _
    four_from four_to six_from six_to
    c.takes_ipv4-has4.ensures c.takes_ipv6-has6.ensures x fits in (
      λ m. all.0 (elim ((h x).0 m) [ inl a ↦ inl (four.0 a) | inr b ↦ inr (six.0 b) ]),
      λ k. (h x).1 (elim (all.1 k) [ inl a ↦ inl (four.1 a) | inr b ↦ inr (six.1 b) ]),
    )) c.union.ensures.members
