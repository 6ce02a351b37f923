use Rattle.std.proofs.Common.{false, [], arith}
use Rattle.ipnet_lists.proofs.ContentLaws.{list_taken}
use Rattle.ipnet_origins.specs.OriginsOf.{payloads_of}
use Rattle.netset_origins.specs.OriginSteps.{AddsRoute, AreAnswersBy}
use Rattle.netset_origins.specs.RouteLines.{ListRoute, IsRouteText, IsRouteLineCause}
use Rattle.netset_origins.proofs.AnswerLaws.{route_added, answers_same}
use Rattle.netset_origins.proofs.answer.judge_routes.Goals as goal

pub returns : goal.returns
returns c =
    let request = c.args.request in
    let vrps = payloads_of c.in_ok-table.table in
    let start : AreAnswersBy vrps request (record { text = c.new.result; invalid = false }) [] = record {
      text = c.new.ensures.items;
      invalid = (λ no. absurd cc, λ (i, r, l, e, h). absurd (omega (arith, l)));
    } in
    let (refusals, taken, kept) = c.in_ok-refused.ensures in
    let (routes, read, are) = list_taken (λ line. IsRouteText request.grammar line.text)
    (IsRouteLineCause request.grammar)
    (λ line old new. (r : ListRoute) × IsRouteText request.grammar line.text r × AddsRoute vrps request r old new)
    (AreAnswersBy vrps request)
    (λ line old new (r, is, adds). (r, is, λ routes h. route_added vrps request r old new routes adds h))
    c.args.routes.now _ _ refusals start taken in (
      routes,
      refusals,
      read,
      kept,
      answers_same c.args.vrps.items vrps c.in_ok-table.ensures request c.read_lines.new.made routes are,
    )
