-- The stored numbers are boundaries, since the bytes are an image.
use Rattle.std.proofs.Common.{ap₂, sym, subst, ◌∙◌}
use Rattle.ipnet_base.specs.Address.{IPv4, IPv6}
use Rattle.ipnet_sets.specs.Boundaries.{AreBoundaries}
use Rattle.ipnet_sets.specs.Images.{numbers_from}
use Rattle.ipnet_sets.proofs.image.IpSetRef.to_set.Goals as goal

pub invariant_of-result : goal.invariant_of-result
invariant_of-result c =
    let bytes = c.args.self.now.image.bytes.now in
    let place4 = ap₂ (λ n at. numbers_from 4 n bytes at) c.ipv4_place.ensures.count c.ipv4_place.ensures.start in
    let place6 = ap₂ (λ n at. numbers_from 16 n bytes at) c.ipv6_place.ensures.count c.ipv6_place.ensures.start in
    record {
      ipv4_boundaries = subst (AreBoundaries IPv4) (sym (c.in_ok-ipv4.ensures ∙ place4))
          (c.args.self.now.image_of_a_set.boundaries IPv4);
      ipv6_boundaries = subst (AreBoundaries IPv6) (sym (c.in_ok-ipv6.ensures ∙ place6))
          (c.args.self.now.image_of_a_set.boundaries IPv6);
    }
