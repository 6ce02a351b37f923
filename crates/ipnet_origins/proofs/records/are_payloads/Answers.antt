-- Each turn reads one payload, or finds none.
use Rattle.std.proofs.Common.{◌≡◌, refl, subst, arith, inl, inr}
use Rattle.std.proofs.lemmas.Bool.{cases_lt}
use Rattle.ipnet_base.proofs.ResultLaws.{never}
use Rattle.ipnet_origins.specs.OriginImages.{payload_place, IsPayloadAt}
use Rattle.ipnet_origins.proofs.records.are_payloads.Goals as goal

pub loop-index-init : goal.loop-index-init
loop-index-init c i l = absurd (omega (arith, l))

pub loop-index-preserved : goal.loop-index-preserved
loop-index-preserved c i l = elim (cases_lt i c.loop-index.index) [
  | inl lt ↦ c.loop-index.invariant i lt
  | inr ge ↦
      let same : c.loop-index.index ≡ i = omega (arith, ge, l) in (
        c.in-Some._payload,
        subst (λ k. IsPayloadAt c.args.bytes.now (payload_place k) c.in-Some._payload) same c.in-Some.ensures.some,
      )
]

pub returns-in_default : goal.returns-in_default
returns-in_default c =
    never _ (λ all. let (vrp, is) = all c.loop-index.index c.loop-index-test.true in
    c.in_default.ensures.none refl vrp is)

pub returns : goal.returns
returns c = (λ e i l. c.loop-index.invariant i (omega (arith, l, c.loop-index-test.false)), λ all. refl)
