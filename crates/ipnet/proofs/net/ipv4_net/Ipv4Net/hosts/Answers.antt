-- From prefix length 31 on, the whole block; below it the two ends are apart, so neither sum nor difference
-- leaves the block (`reserved_ends_are_apart`).
use Rattle.ipnet_base.specs.Network.{first_of, last_of}
use Rattle.std.proofs.Common.{◌≡◌, ℕ, ◌+◌, ◌-◌, ◌*◌, ◌/◌, ◌^◌, ◌<◌, ◌≤◌, ◌∙◌, refl, ap, arith}
use Rattle.ipnet_base.specs.Address.{ipv4_address}
use Rattle.ipnet_base.specs.RangeOf.{ipv4_range}
use Rattle.ipnet.specs.declared.net.ipv4_net.Ipv4Net.{Ipv4Net}
use Rattle.ipnet.specs.NetworkOf.{ipv4_network}
use Rattle.ipnet.specs.NetLaws.{ipv4_valid}
use Rattle.ipnet.proofs.HostLaws.{IsHostRange-whole, IsHostRange-inner, reserved_ends_are_apart}
use Rattle.ipnet.proofs.net.ipv4_net.Ipv4Net.hosts.Goals as goal

first_is : (n : Ipv4Net) (len first : ℕ) → len ≡ (ipv4_network n).prefix_len
    → first ≡ (ipv4_network n).number / 2 ^ (32 - len) * 2 ^ (32 - len) → first ≡ first_of (ipv4_network n)
first_is n len first same e = e ∙ ap (λ p. (ipv4_network n).number / 2 ^ (32 - p) * 2 ^ (32 - p)) same

ends_apart : (n : Ipv4Net) (len : ℕ) → len ≡ (ipv4_network n).prefix_len → len < 31
    → (first_of (ipv4_network n) + 2 ≤ last_of (ipv4_network n)) × (last_of (ipv4_network n) < 2 ^ 32)
ends_apart n len same short = reserved_ends_are_apart (ipv4_network n) (ipv4_valid n) (refl, omega arith)

pub returns-then-len-ge31 : goal.returns-then-len-ge31
returns-then-len-ge31 c =
    IsHostRange-whole (ipv4_network c.args.self.now) (ipv4_range c.new.result) (ipv4_address c.network.result)
    (ipv4_address c.broadcast.result)
    refl (λ reserved. omega (arith, reserved.1)) c.network.ensures c.broadcast.ensures c.new.ensures.start
    c.new.ensures.end

pub overflow_add-first : goal.overflow_add-first
overflow_add-first c =
    let n = c.args.self.now in
    let first =
    first_is n c.leading_bits-len.result c.masked-first.result c.leading_bits-len.ensures
    c.masked-first.ensures in
    let apart = ends_apart n c.leading_bits-len.result c.leading_bits-len.ensures c.if-len-ge31.false in
    omega (arith, first, apart.0, apart.1)

pub overflow_sub-last : goal.overflow_sub-last
overflow_sub-last c =
    let apart = ends_apart c.args.self.now c.leading_bits-len.result c.leading_bits-len.ensures c.if-len-ge31.false in
    omega (arith, c.last_number-last.ensures, apart.0)

pub returns : goal.returns
returns c =
    let n = c.args.self.now in
    let first =
    first_is n c.leading_bits-len.result c.masked-first.result c.leading_bits-len.ensures
    c.masked-first.ensures in
    let apart = ends_apart n c.leading_bits-len.result c.leading_bits-len.ensures c.if-len-ge31.false in
    IsHostRange-inner (ipv4_network n) (ipv4_range c.new-2.result) refl (refl, omega arith)
    (c.new-2.ensures.start ∙ ap (λ x. x.number) c.address_of.ensures ∙ ap (λ a. a + 1) first)
    (omega (arith, c.new-2.ensures.end, ap (λ x. x.number) c.address_of-2.ensures, c.last_number-last.ensures, apart.0))
