-- The index decides the family, and with it the place of the row.
use Rattle.std.proofs.Common.{◌≡◌, ◌+◌, ◌-◌, ◌*◌, ◌<◌, refl, subst, arith}
use Rattle.ipnet_base.specs.Address.{Family, IPv4, IPv6}
use Rattle.ipnet_routes.specs.TableImages.{stated_routes, route_place, IsRowAt}
use Rattle.ipnet_routes.proofs.routes.image.rows.row.Goals as goal

-- a family that is not IPv4 is IPv6
other_family : (f : Family) → (f ≡ IPv4 → ⊥) → f ≡ IPv6
other_family IPv4 out = absurd (out refl)
other_family IPv6 out = refl

pub returns-then-index-ipv4-clause-read : goal.returns-then-index-ipv4-clause-read
returns-then-index-ipv4-clause-read c n value link valid h =
    let inside : c.args.index < stated_routes c.args.bytes.now IPv4 = omega (
      arith,
      c.if-index-ipv4.true,
      c.requires.stated,
    ) in
    let place : route_place c.args.bytes.now c.args.index ≡ 32 + c.args.index * 16 = omega (arith, inside) in
    c.ipv4_row.ensures.read n value link (h.in_part.1 inside) valid
    (subst (λ at. IsRowAt c.args.bytes.now at n value link) place h.row)

pub returns-else-index-ipv4-clause-read : goal.returns-else-index-ipv4-clause-read
returns-else-index-ipv4-clause-read c n value link valid h =
    let place : route_place c.args.bytes.now c.args.index ≡ 32 + c.args.ipv4 * 16 + (c.args.index - c.args.ipv4) * 32
    = omega (arith, c.requires.stated, c.if-index-ipv4.false) in
    c.ipv6_row.ensures.read n value link
    (other_family n.family (λ is. let wrong : ⊥ =
    omega (arith, h.in_part.0 is, c.requires.stated, c.if-index-ipv4.false) in wrong)) valid
    (subst (λ at. IsRowAt c.args.bytes.now at n value link) place h.row)
