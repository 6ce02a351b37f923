-- A string is read as a strict text, and one text has one network, so `json_read` proves all three cases.
use Rattle.std.proofs.Common.{◌≡◌, inr, Some, Ok, Err, MatchResult, rules}
use Rattle.serde_json.specs.Find.{as_str}
use Rattle.serde_json.specs.View.{view}
use Rattle.ipnet.specs.NetworkOf.{ipv6_network}
use Rattle.ipnet.specs.NetLaws.{ipv6_one_to_one}
use Rattle.ipnet.specs.declared.parser.Grammar.TheVariants.{Strict}
use Rattle.ipnet.specs.NetworkTexts.{IsIpv6NetworkText}
use Rattle.ipnet.specs.declared.json.JsonError.TheVariants.{Syntax}
use Rattle.ipnet.proofs.WholeTexts.{one_network}
use Rattle.ipnet.proofs.JsonLaws.{json_read}
use Rattle.ipnet.proofs.net.ipv6_net.Ipv6Net.from_json.Goals as goal

pub returns : goal.returns
returns c =
    let found : as_str (view c.args.value.now) ≡ Some c.in_ok-text.text.now = search rules in
    let cases : MatchResult c.parse.result (λ n. c.map_err.result ≡ Ok n) (λ _. c.map_err.result ≡ Err Syntax) =
    search rules in
    let read =
    json_read ipv6_network ipv6_one_to_one (IsIpv6NetworkText Strict)
    (λ text m n h k. one_network Strict text m n (inr h) (inr k))
    (view c.args.value.now) c.in_ok-text.text.now c.parse.result c.map_err.result found c.parse.ensures.value cases in
    record { ok = read.0; not_string = read.1; syntax = read.2 }
