-- Each turn tests one more entry.
use Rattle.std.proofs.Common.{◌≡◌, ◌+◌, ◌*◌, refl, ap, ap₂, ◌∙◌, subst, subst₂, arith, inl, inr}
use Rattle.std.proofs.lemmas.Bool.{cases_lt}
use Rattle.ipnet_base.specs.Address.{IPv4, IPv6}
use Rattle.ipnet_base.proofs.ResultLaws.{true_gives}
use Rattle.ipnet_sets.specs.Images.{number_from}
use Rattle.ipnet_routes.specs.Routes.{networks_of}
use Rattle.ipnet_routes.specs.RouteSteps.{IsPlaceOf}
use Rattle.ipnet_routes.specs.TableImages.{stated_bits, index_bits, index_size, index_place, bucket_start}
use Rattle.ipnet_routes.proofs.routes.image.stored_table.StoredTable.has_index.Goals as goal

pub loop-bucket-preserved : goal.loop-bucket-preserved
loop-bucket-preserved c t h b l =
    let bytes = c.args.self.now.bytes.now in
    let buckets = c.new-buckets.result in
    let bucket = c.loop-bucket.bucket in
    elim (cases_lt b bucket) [
      | inl lt ↦ c.loop-bucket.invariant t h b lt
      | inr ge ↦
          let same : bucket ≡ b = omega (arith, ge, l) in
          subst (λ i. IsPlaceOf (networks_of t) (bucket_start buckets.ipv4_bits buckets.ipv6_bits i)
          (number_from 4 bytes (index_place bytes + i * 4))) same
          (subst₂ (IsPlaceOf (networks_of t)) c.start_of.ensures c.start.ensures
          (true_gives c.is_place_of.result (c.is_place_of.ensures t h) c.if-not-is_place_of.false))
    ]

pub returns : goal.returns
returns c t h =
    let bytes = c.args.self.now.bytes.now in
    let self = c.args.self.now in
    let b = c.new-buckets.result.ipv4_bits in
    let s = c.new-buckets.result.ipv6_bits in
    let e : b ≡ stated_bits bytes IPv4 = c.new-buckets.ensures.ipv4 ∙ ap index_bits self.ipv4_stated in
    let f : s ≡ stated_bits bytes IPv6 = c.new-buckets.ensures.ipv6 ∙ ap index_bits self.ipv6_stated in
    let size : index_size b s ≡ index_size (stated_bits bytes IPv4) (stated_bits bytes IPv6) = ap₂ index_size e f in (
      λ yes bucket l. subst₂ (λ x y. IsPlaceOf (networks_of t) (bucket_start x y bucket)
          (number_from 4 bytes (index_place bytes + bucket * 4))) e f
          (c.loop-bucket.invariant t h bucket
          (omega (arith, l, size, c.entries-bucket-end.ensures.size, c.loop-bucket-test.false))),
      λ all. refl,
    )
