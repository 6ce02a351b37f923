-- After i turns the first i networks are without host bits, each with its own value, and the rest is as it was.
use Rattle.std.proofs.Common.{◌<◌, length, get_or, inl, inr, refl, sym, ap, ap₂, ◌∙◌, arith}
use Rattle.std.proofs.lemmas.Bool.{cases_eq}
use Rattle.std.proofs.lemmas.List.{length-set, get_or-set_other}
use Rattle.std.proofs.lemmas.Grind.{get_or-set_at}
use Rattle.std.proofs.lemmas.Simd.{map-map}
use Rattle.ipnet_base.proofs.ListLaws.{at_place}
use Rattle.ipnet_base.proofs.NetworkLaws.{truncation_from_relation}
use Rattle.ipnet_base.specs.Network.{truncation}
use Rattle.ipnet.specs.declared.net.IpNet.{IpNet}
use Rattle.ipnet.specs.NetworkOf.{ip_network}
use Rattle.ipnet_routes.proofs.RouteOrderLaws.{same_map}
use Rattle.ipnet_routes.proofs.routes.truncate_all.Goals as goal

pub loop-index-init : goal.loop-index-init
loop-index-init g c = record {
  size = refl;
  networks = λ k d l. absurd (omega (arith, l));
  values = λ k d l. absurd (omega (arith, l));
  left = λ k d l. refl;
}

pub loop-index-preserved : goal.loop-index-preserved
loop-index-preserved g c =
    let old = c.args.routes.now.items in
    let list = c.loop-index.routes.items in
    let i = c.loop-index.index in
    let h = c.loop-index.invariant in
    let read = c.index.result.now in
    let kept = c.index_mut.result.now in
    let put : IpNet × g.row.V.Denot = (c.trunc-network.result, kept.1) in
    let inside : i < length old = omega (arith, h.size) in
    record {
      size = length-set list i put ∙ h.size;
      networks = λ k d l. elim (cases_eq k i) [
        | inl same ↦ ap (λ z. ip_network z.0) (get_or-set_at list i k put d same (omega (arith, inside, h.size)))
            ∙ truncation_from_relation (ip_network put.0) (ip_network read.0) c.trunc-network.ensures
            ∙ ap (λ z. truncation (ip_network z.0))
            (c.index.ensures ∙ h.left i read (omega arith) ∙ at_place old i read d inside
            ∙ ap (λ n. get_or old n d) (sym same))
        | inr other ↦ ap (λ z. ip_network z.0) (get_or-set_other list i k put d other)
            ∙ h.networks k d (omega (arith, l, other))
      ];
      values = λ k d l. elim (cases_eq k i) [
        | inl same ↦ ap (λ z. z.1) (get_or-set_at list i k put d same (omega (arith, inside, h.size)))
            ∙ ap (λ z. z.1) (c.index_mut.ensures.value ∙ h.left i kept (omega arith) ∙ at_place old i kept d inside
            ∙ ap (λ n. get_or old n d) (sym same))
        | inr other ↦ ap (λ z. z.1) (get_or-set_other list i k put d other) ∙ h.values k d (omega (arith, l, other))
      ];
      left = λ k d l. get_or-set_other list i k put d (λ e. omega (arith, l, e)) ∙ h.left k d (omega (arith, l));
    }

pub returns : goal.returns
returns g c =
    let old = c.args.routes.now.items in
    let new = c.loop-index.routes.items in
    let h = c.loop-index.invariant in
    same_map (λ z. (ip_network z.0, z.1)) (λ z. (truncation (ip_network z.0), z.1)) new old h.size
    (λ k d l. ap₂ (λ n v. (n, v)) (h.networks k d (omega arith)) (h.values k d (omega arith)))
    ∙ sym (map-map (λ z. (truncation z.0, z.1)) (λ z. (ip_network z.0, z.1)) old)
