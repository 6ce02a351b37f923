-- The stored numbers of both families are boundaries if and only if the bytes, which have a header, are an image.
use Rattle.std.proofs.Common.{ap₂, sym, subst}
use Rattle.ipnet_base.specs.Address.{IPv4, IPv6}
use Rattle.ipnet_base.proofs.ResultLaws.{true_gives, false_gives}
use Rattle.ipnet_sets.specs.Boundaries.{AreBoundaries}
use Rattle.ipnet_sets.specs.Images.{numbers_from}
use Rattle.ipnet_sets.proofs.ImageSetLaws.{image_from}
use Rattle.ipnet_sets.proofs.image.IpSetImage.is_checked.Goals as goal

pub returns-then-are_boundaries : goal.returns-then-are_boundaries
returns-then-are_boundaries c =
    let bytes = c.args.self.now.bytes.now in
    let place4 = ap₂ (λ n at. numbers_from 4 n bytes at) c.ipv4_place.ensures.count c.ipv4_place.ensures.start in
    let place6 = ap₂ (λ n at. numbers_from 16 n bytes at) c.ipv6_place.ensures.count c.ipv6_place.ensures.start in (
      λ t. image_from bytes c.args.self.now.header
          (subst (AreBoundaries IPv4) place4
          (true_gives c.are_boundaries.result c.are_boundaries.ensures c.if-are_boundaries.true))
          (subst (AreBoundaries IPv6) place6
          (true_gives c.are_boundaries-then-are_boundaries.result c.are_boundaries-then-are_boundaries.ensures t)),
      λ image. c.are_boundaries-then-are_boundaries.ensures.1
          (subst (AreBoundaries IPv6) (sym place6) (image.boundaries IPv6)),
    )

pub returns-else-are_boundaries : goal.returns-else-are_boundaries
returns-else-are_boundaries c =
    let bytes = c.args.self.now.bytes.now in
    let place4 = ap₂ (λ n at. numbers_from 4 n bytes at) c.ipv4_place.ensures.count c.ipv4_place.ensures.start in (
      λ t. absurd (false_gives c.are_boundaries.result c.are_boundaries.ensures c.if-are_boundaries.false
          (c.are_boundaries.ensures.0 t)),
      λ image. c.are_boundaries.ensures.1 (subst (AreBoundaries IPv4) (sym place4) (image.boundaries IPv4)),
    )
