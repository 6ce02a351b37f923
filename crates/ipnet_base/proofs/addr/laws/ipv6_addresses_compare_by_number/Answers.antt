-- std compares groups; groups are ordered as the numbers that they write (`AddressLaws`).
use Rattle.std.proofs.Common.{rules, refl}
use Rattle.std.specs.Net.Addr.{ipv6_bits}
use Rattle.std.specs.Cmp.Lexicographic.{lists_agrees}
use Rattle.std.proofs.lemmas.Cmp.{ranked}
use Rattle.ipnet_base.proofs.AddressLaws.{ipv6_order, ipv6_equality, ipv6_one_to_one}
use Rattle.ipnet_base.proofs.addr.laws.ipv6_addresses_compare_by_number.Goals as goal

pub returns : goal.returns
returns c =
    let a = c.args.a in
    let b = c.args.b in
    record {
      compare = record {
        equality = ipv6_equality a b (search rules) (search rules);
        one_to_one = ipv6_one_to_one a b (search rules) (search rules);
        order = ranked (ipv6_bits a) (ipv6_bits b) _ (ipv6_order a b (search rules) (search rules));
        partial_order = lists_agrees (λ x y. refl) a.segments b.segments;
      };
    }
