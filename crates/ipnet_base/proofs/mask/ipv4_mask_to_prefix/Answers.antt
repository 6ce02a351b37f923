-- A netmask has as many ones as it begins with (`MaskLaws`), so the test of this one length decides.
use Rattle.std.proofs.Common.{◌≡◌, refl, subst, rules}
use Rattle.std.specs.Int.{w32}
use Rattle.std.specs.Net.Addr.{ipv4_bits}
use Rattle.ipnet_base.specs.Address.{IPv4}
use Rattle.ipnet_base.specs.Masks.{IsNetmaskOf}
use Rattle.ipnet_base.proofs.MaskLaws.{ones_of_netmask, no_netmask}
use Rattle.ipnet_base.proofs.mask.ipv4_mask_to_prefix.Goals as goal

pub returns-then-number-ipv4_netmask : goal.returns-then-number-ipv4_netmask
returns-then-number-ipv4_netmask c = λ p.
    let number = ipv4_bits c.args.mask in
    let ones = c.leading_ones-ones.result in
    let mask : IsNetmaskOf IPv4 number ones = record { fits = search rules; is_mask = cc } in (
      λ e. let same : ones ≡ p = cc in subst (IsNetmaskOf IPv4 number) same mask,
      λ m. let same : ones ≡ p = cc (ones_of_netmask IPv4 w32 number p refl m) in cc,
    )

pub returns-else-number-ipv4_netmask : goal.returns-else-number-ipv4_netmask
returns-else-number-ipv4_netmask c = λ p. (
  λ e. cc,
  λ m. absurd (no_netmask IPv4 w32 (ipv4_bits c.args.mask) c.leading_ones-ones.result c.ipv4_netmask.result refl (cc)
      c.ipv4_netmask.ensures (λ e. c.if-number-ipv4_netmask.false (cc)) p m),
)
