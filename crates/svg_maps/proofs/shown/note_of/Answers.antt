use Rattle.std.proofs.lemmas.Result.{IfOk-weaker}
use Rattle.std.proofs.Common.{◌≡◌, string_bytes}
use Rattle.ipnet_base.specs.Address.{IPv4, IPv6}
use Rattle.ipnet.specs.NetworkOf.{ip_network}
use Rattle.ipnet_bars.specs.Parts.{counted}
use Rattle.ipnet_bars.proofs.OutsideLaws.{outside_counted}
use Rattle.ipnet_bars.proofs.PartLaws.{ipv6_counted}
use Rattle.ipnet_sets.specs.Members.{IsMember}
use Rattle.svg_maps.specs.Legends.{outside_note, IsOutsideNote}
use Rattle.svg_maps.proofs.shown.note_of.Goals as goal

pub returns : goal.returns
returns c =
    let s = c.args.set.now in
    let outside = c.in_ok-outside.outside in
    let n = ip_network c.args.frame.now in
    let ipv4 = c.ipv4_count-ipv4.result in
    let ipv6 = c.ipv6_count-ipv6.result in
    IfOk-weaker c.outside_note.result (λ note. string_bytes note ≡ outside_note ipv4 (counted ipv6))
    (λ note. IsOutsideNote (IsMember s) n (string_bytes note)) (λ note e. record {
      ipv4 = ipv4;
      of_ipv4 = outside_counted s outside n IPv4 ipv4 c.in_ok-outside.ensures c.ipv4_count-ipv4.ensures;
      ipv6 = counted ipv6;
      of_ipv6 = outside_counted s outside n IPv6 (counted ipv6) c.in_ok-outside.ensures
          (ipv6_counted outside ipv6 c.ipv6_count-ipv6.ensures.none c.ipv6_count-ipv6.ensures.some);
      spelled = e;
    }) c.outside_note.ensures
