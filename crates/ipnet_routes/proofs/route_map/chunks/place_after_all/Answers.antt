-- The place is in the last chunk that begins up to the network, or in the first one.
use Rattle.std.proofs.Common.{◌≡◌, ◌<◌, length, arith, sym, ap, subst, inl, inr}
use Rattle.std.proofs.lemmas.Bool.{cases_lt}
use Rattle.std.proofs.lemmas.List.{length-map}
use Rattle.ipnet.specs.NetworkOf.{ip_network}
use Rattle.ipnet_routes.specs.Routes.{ip_networks}
use Rattle.ipnet_routes.specs.RouteSteps.{IsTable, IsPlaceAfter}
use Rattle.ipnet_routes.specs.RouteMapSteps.{first_network, position_of}
use Rattle.ipnet_routes.proofs.RouteMapLaws.{chunk_table, not_at_start, place_in_chunk}
use Rattle.ipnet_routes.proofs.route_map.chunks.place_after_all.Goals as goal

pub place_after-index-requires : goal.place_after-index-requires
place_after-index-requires g c =
    let cs = c.args.chunks.now in
    let i = c.saturating_sub-chunk.result in
    let inside : i < length cs = omega (
      arith,
      c.if-count-eq0.false,
      c.chunk_after.ensures.within,
      length-map cs (λ z. first_network z.items),
    ) in
    subst (λ z. IsTable (ip_networks z)) (sym c.as_slice-routes.ensures.value)
    (chunk_table cs c.requires.table c.requires.filled i c.index-chunks-chunk.result inside
    (sym c.index-chunks-chunk.is))

pub returns-clause-start : goal.returns-clause-start
returns-clause-start g c e =
    let cs = c.args.chunks.now in
    let n = ip_network c.args.network.now in
    let i = c.saturating_sub-chunk.result in
    let after = c.chunk_after.result in
    let inside : i < length cs = omega (
      arith,
      c.if-count-eq0.false,
      c.chunk_after.ensures.within,
      length-map cs (λ z. first_network z.items),
    ) in
    elim (cases_lt i after) [
      | inl lt ↦
          let some = not_at_start cs c.requires.table c.requires.filled i c.index-chunks-chunk.result inside
          (sym c.index-chunks-chunk.is) n after c.chunk_after.ensures lt c.place_after-index.result
          (subst (λ z. IsPlaceAfter (ip_networks z) n c.place_after-index.result) c.as_slice-routes.ensures.value
          c.place_after-index.ensures) in
          absurd (omega (arith, some, e))
      | inr ge ↦
          let first : i ≡ 0 = omega (arith, ge) in
          ap (λ z. position_of cs z 0) first
    ]

pub returns-clause-place : goal.returns-clause-place
returns-clause-place g c =
    let cs = c.args.chunks.now in
    let n = ip_network c.args.network.now in
    let i = c.saturating_sub-chunk.result in
    let inside : i < length cs = omega (
      arith,
      c.if-count-eq0.false,
      c.chunk_after.ensures.within,
      length-map cs (λ z. first_network z.items),
    ) in
    place_in_chunk cs c.requires.table c.requires.filled i c.index-chunks-chunk.result inside
    (sym c.index-chunks-chunk.is) n c.chunk_after.result c.chunk_after.ensures (omega arith) c.place_after-index.result
    (subst (λ z. IsPlaceAfter (ip_networks z) n c.place_after-index.result) c.as_slice-routes.ensures.value
    c.place_after-index.ensures)
