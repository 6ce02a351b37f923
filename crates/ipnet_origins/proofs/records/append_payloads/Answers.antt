-- Each turn appends one payload.
use Rattle.std.proofs.Common.{sym, ◌∙◌, arith}
use Rattle.ipnet_base.proofs.ListLaws.{at_place}
use Rattle.ipnet_origins.proofs.RecordLaws.{payloads_none, payloads_one, payloads_all}
use Rattle.ipnet_origins.proofs.records.append_payloads.Goals as goal

pub loop-index-init : goal.loop-index-init
loop-index-init c = payloads_none c.args.payloads.now c.args.bytes.now.items

pub loop-index-preserved : goal.loop-index-preserved
loop-index-preserved c =
    let vrps = c.args.payloads.now in
    let vrp = c.index-payloads-index.result in
    payloads_one vrps c.args.bytes.now.items c.loop-index.bytes.items c.append_payload.new.bytes.items
    c.loop-index.index vrp
    (λ d. at_place vrps c.loop-index.index d vrp c.loop-index-test.true ∙ sym c.index-payloads-index.is)
    c.in_ok-append_payload.ensures c.loop-index.invariant

pub returns : goal.returns
returns c =
    payloads_all c.args.payloads.now c.args.bytes.now.items c.loop-index.bytes.items c.loop-index.index
    (omega (arith, c.loop-index-test.false, c.loop-index.auto.index-end)) c.loop-index.invariant
