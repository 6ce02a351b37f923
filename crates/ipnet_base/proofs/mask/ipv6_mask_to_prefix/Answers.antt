-- A netmask has as many ones as it begins with (`MaskLaws`), so the test of this one length decides.
use Rattle.std.proofs.Common.{◌≡◌, refl, subst, rules}
use Rattle.std.specs.Int.{w128}
use Rattle.std.specs.Net.Addr.{ipv6_bits}
use Rattle.ipnet_base.specs.Address.{IPv6}
use Rattle.ipnet_base.specs.Masks.{IsNetmaskOf}
use Rattle.ipnet_base.proofs.MaskLaws.{ones_of_netmask, no_netmask}
use Rattle.ipnet_base.proofs.mask.ipv6_mask_to_prefix.Goals as goal

pub returns-then-number-ipv6_netmask : goal.returns-then-number-ipv6_netmask
returns-then-number-ipv6_netmask c = λ p.
    let number = ipv6_bits c.args.mask in
    let ones = c.leading_ones-ones.result in
    let mask : IsNetmaskOf IPv6 number ones = record { fits = search rules; is_mask = cc } in (
      λ e. let same : ones ≡ p = cc in subst (IsNetmaskOf IPv6 number) same mask,
      λ m. let same : ones ≡ p = cc (ones_of_netmask IPv6 w128 number p refl m) in cc,
    )

pub returns-else-number-ipv6_netmask : goal.returns-else-number-ipv6_netmask
returns-else-number-ipv6_netmask c = λ p. (
  λ e. cc,
  λ m. absurd (no_netmask IPv6 w128 (ipv6_bits c.args.mask) c.leading_ones-ones.result c.ipv6_netmask.result refl (cc)
      c.ipv6_netmask.ensures (λ e. c.if-number-ipv6_netmask.false (cc)) p m),
)
