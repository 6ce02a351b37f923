-- The shifts lose no bit.
use Rattle.std.proofs.Common.{◌≡◌, ◌+◌, ◌-◌, ◌*◌, ◌%◌, ◌^◌, ◌<◌, ◌≤◌, refl, sym, ap, ◌∙◌, arith}
use Rattle.ipnet_base.proofs.AddressLaws.{bits_from_number, ipv6_bits_from_number}
use Rattle.ipnet_base.proofs.NetworkLaws.{same_network}
use Rattle.ipnet.specs.NetworkOf.{ipv4_network_of, ipv6_network_of}
use Rattle.ipnet_routes.proofs.BucketLaws.{one_bit, below_whole, up_to_whole, start_ipv4, start_ipv6, up_to_end}
use Rattle.ipnet_routes.proofs.routes.image.buckets.Buckets.start_of.Goals as goal

pub overflow_cast-number-then-bucket-ipv4 : goal.overflow_cast-number-then-bucket-ipv4
overflow_cast-number-then-bucket-ipv4 c =
    let self = c.args.self.now in
    let inside : c.args.bucket < 2 ^ self.ipv4_bits = omega (
      arith,
      c.if-bucket-ipv4.true,
      one_bit self.ipv4_bits self.ipv4_few,
    ) in
    omega (arith, below_whole self.ipv4_bits c.args.bucket self.ipv4_few inside)

pub overflow_add-top : goal.overflow_add-top
overflow_add-top c =
    let self = c.args.self.now in
    omega (
      arith,
      one_bit self.ipv4_bits self.ipv4_few,
      up_to_whole self.ipv6_bits (c.args.bucket - (1 * 2 ^ self.ipv4_bits) % 2 ^ 64) self.ipv6_few
          (up_to_end self.ipv4_bits self.ipv6_bits c.args.bucket ((1 * 2 ^ self.ipv4_bits) % 2 ^ 64)
          (one_bit self.ipv4_bits self.ipv4_few) c.requires),
    )

pub returns-then-bucket-ipv4 : goal.returns-then-bucket-ipv4
returns-then-bucket-ipv4 c =
    let self = c.args.self.now in
    let bucket = c.args.bucket in
    let inside : bucket < 2 ^ self.ipv4_bits = omega (
      arith,
      c.if-bucket-ipv4.true,
      one_bit self.ipv4_bits self.ipv4_few,
    ) in
    let fits = below_whole self.ipv4_bits bucket self.ipv4_few inside in
    let cut : (bucket * 2 ^ (32 - self.ipv4_bits)) % 2 ^ 64 ≡ bucket * 2 ^ (32 - self.ipv4_bits)
    = omega (arith, fits) in
    c.new_assert.ensures
    ∙ same_network _ (ipv4_network_of (bucket * 2 ^ (32 - self.ipv4_bits)) 0) refl
    (bits_from_number _ _ (omega (arith, fits, cut)) c.from_bits.ensures ∙ cut) refl
    ∙ sym (start_ipv4 self.ipv4_bits self.ipv6_bits bucket inside)

pub returns : goal.returns
returns c =
    let self = c.args.self.now in
    let bucket = c.args.bucket in
    let first : (1 * 2 ^ self.ipv4_bits) % 2 ^ 64 ≡ 2 ^ self.ipv4_bits = one_bit self.ipv4_bits self.ipv4_few in
    let least : 2 ^ self.ipv4_bits ≤ bucket = omega (arith, c.if-bucket-ipv4.false, first) in
    let i = bucket - 2 ^ self.ipv4_bits in
    let most : i * 2 ^ (29 - self.ipv6_bits) ≤ 536870912 = up_to_whole self.ipv6_bits i self.ipv6_few
    (up_to_end self.ipv4_bits self.ipv6_bits bucket (2 ^ self.ipv4_bits) refl c.requires) in
    let here : bucket - (1 * 2 ^ self.ipv4_bits) % 2 ^ 64 ≡ i = ap (λ z. bucket - z) first in
    let part : ((bucket - (1 * 2 ^ self.ipv4_bits) % 2 ^ 64) * 2 ^ (29 - self.ipv6_bits)) % 2 ^ 64
    ≡ i * 2 ^ (29 - self.ipv6_bits) =
    ap (λ z. (z * 2 ^ (29 - self.ipv6_bits)) % 2 ^ 64) here ∙ omega (arith, most) in
    let number
    : ((536870912 + ((bucket - (1 * 2 ^ self.ipv4_bits) % 2 ^ 64) * 2 ^ (29 - self.ipv6_bits)) % 2 ^ 64) * 2 ^ 96)
    % 2 ^ 128 ≡ (536870912 + i * 2 ^ (29 - self.ipv6_bits)) * 2 ^ 96 =
    ap (λ z. ((536870912 + z) * 2 ^ 96) % 2 ^ 128) part ∙ omega (arith, most) in
    c.new_assert-2.ensures
    ∙ same_network _ (ipv6_network_of ((536870912 + i * 2 ^ (29 - self.ipv6_bits)) * 2 ^ 96) 0) refl
    (ipv6_bits_from_number _ _ (omega (arith, most, number)) c.from_bits-2.ensures ∙ number) refl
    ∙ sym (start_ipv6 self.ipv4_bits self.ipv6_bits bucket least)
