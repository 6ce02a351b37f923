-- Each of the first payloads is one.
use Rattle.std.proofs.Common.{ℕ, ◌<◌}
use Rattle.ipnet_origins.specs.declared.payload.Payload.{Payload}
use Rattle.ipnet_origins.specs.OriginImages.{payload_place, IsPayloadAt}
use Rattle.ipnet_origins.proofs.records.are_payloads.Given as goal

abbrev pub invariant-loop-index : goal.invariant-loop-index
invariant-loop-index l = (i : ℕ) → i < l.index → (vrp : Payload) × IsPayloadAt l.bytes (payload_place i) vrp
