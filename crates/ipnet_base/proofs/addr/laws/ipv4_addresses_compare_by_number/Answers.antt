-- std compares octets; octets are ordered as the numbers that they write (`AddressLaws`).
use Rattle.std.proofs.Common.{rules, refl}
use Rattle.std.specs.Net.Addr.{ipv4_bits}
use Rattle.std.specs.Cmp.Lexicographic.{lists_agrees}
use Rattle.std.proofs.lemmas.Cmp.{ranked}
use Rattle.ipnet_base.proofs.AddressLaws.{ipv4_order, ipv4_equality, ipv4_one_to_one}
use Rattle.ipnet_base.proofs.addr.laws.ipv4_addresses_compare_by_number.Goals as goal

pub returns : goal.returns
returns c =
    let a = c.args.a in
    let b = c.args.b in
    record {
      compare = record {
        equality = ipv4_equality a b (search rules) (search rules);
        one_to_one = ipv4_one_to_one a b (search rules) (search rules);
        order = ranked (ipv4_bits a) (ipv4_bits b) _ (ipv4_order a b (search rules) (search rules));
        partial_order = lists_agrees (λ x y. refl) a.octets b.octets;
      };
    }
