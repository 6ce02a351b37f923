-- The bucket of the network's first bits.
use Rattle.std.proofs.Common.{◌≡◌, ◌+◌, ◌-◌, ◌*◌, ◌/◌, ◌%◌, ◌^◌, refl, sym, ap₂, ◌∙◌, subst, arith}
use Rattle.ipnet.specs.NetworkOf.{ip_network, ipv4_network, ipv6_network}
use Rattle.ipnet_routes.specs.TableImages.{IsInBucket}
use Rattle.ipnet_routes.proofs.BucketLaws.{one_bit, some_entries, in_ipv4, in_ipv6}
use Rattle.ipnet_routes.proofs.routes.image.buckets.Buckets.bucket_of.Goals as goal

pub returns-in-V4 : goal.returns-in-V4
returns-in-V4 c =
    let self = c.args.self.now in
    let n = ip_network c.args.network.now in
    let number : c.from-number.result ≡ (ipv4_network c.in-V4.network).number = c.from-number.ensures
    ∙ c.ipv4_number.ensures in
    subst
    (λ z. IsInBucket self.ipv4_bits self.ipv6_bits (c.from-number.result / 2 ^ (32 - self.ipv4_bits)) (ip_network z))
    (sym c.in-V4.is)
    (subst (λ z. IsInBucket self.ipv4_bits self.ipv6_bits (z / 2 ^ (32 - self.ipv4_bits))
    (ipv4_network c.in-V4.network)) (sym number)
    (in_ipv4 self.ipv4_bits self.ipv6_bits (ipv4_network c.in-V4.network) self.ipv4_few
    (some_entries self.ipv4_bits self.ipv6_bits (omega (arith, c.if-self-eq0.false))) refl
    (omega (arith, c.in-V4.network.word_fits))))

pub returns-else-top-ge1073741824 : goal.returns-else-top-ge1073741824
returns-else-top-ge1073741824 c =
    let self = c.args.self.now in
    let b = self.ipv4_bits in
    let s = self.ipv6_bits in
    let n = ipv6_network c.in-V6.network in
    let number : c.ipv6_number.result ≡ n.number = c.ipv6_number.ensures in
    let same : (1 * 2 ^ b) % 2 ^ 64 + (c.ipv6_number.result / 2 ^ 96 - 536870912) / 2 ^ (29 - s)
    ≡ 2 ^ b + (n.number / 2 ^ 96 - 536870912) / 2 ^ (29 - s) =
    ap₂ (λ x y. x + (y / 2 ^ 96 - 536870912) / 2 ^ (29 - s)) (one_bit b self.ipv4_few) number in
    subst (λ z. IsInBucket b s ((1 * 2 ^ b) % 2 ^ 64 + (c.ipv6_number.result / 2 ^ 96 - 536870912) / 2 ^ (29 - s))
    (ip_network z)) (sym c.in-V6.is)
    (subst (λ z. IsInBucket b s z n) (sym same)
    (in_ipv6 b s n self.ipv6_few (some_entries b s (omega (arith, c.if-self-eq0.false))) refl
    (omega (arith, number, c.if-top-lt536870912.false)) (omega (arith, number, c.if-top-ge1073741824.false))))
