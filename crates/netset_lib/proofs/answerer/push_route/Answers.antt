use Rattle.std.proofs.Common.{refl, subst}
use Rattle.std.proofs.lemmas.Result.{on_ok_weaker}
use Rattle.ipnet_lists.specs.FoundEntry.{entry_of}
use Rattle.netset_lib.specs.Routing.{InTable, HoldsEnds, IsLongestIfAny}
use Rattle.netset_lib.proofs.AnsweringLaws.{routed_some, routed_none}
use Rattle.netset_lib.proofs.answerer.push_route.Goals as goal

pub returns-in-Some : goal.returns-in-Some
returns-in-Some c =
    let table = c.args.table.now in
    let e = entry_of c.args.text.now c.args.entry in
    on_ok_weaker c.push_line.result
    (λ text. routed_some table c.args.answers.now _ e c.in-Some.network
    (subst (IsLongestIfAny (InTable table) (HoldsEnds e)) c.in-Some.is c.longest_holding.ensures) text refl)
    c.push_line.ensures

pub returns-in-None : goal.returns-in-None
returns-in-None c =
    let table = c.args.table.now in
    let e = entry_of c.args.text.now c.args.entry in
    on_ok_weaker c.push_missing.result
    (λ text. routed_none table c.args.answers.now _ e
    (subst (IsLongestIfAny (InTable table) (HoldsEnds e)) c.in-None.is c.longest_holding.ensures) text
    c.push_missing.ensures.found)
    c.push_missing.ensures.text
