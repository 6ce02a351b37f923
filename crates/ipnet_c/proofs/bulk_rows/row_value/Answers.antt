-- The row has one address, whose longest match was asked for.
use Rattle.std.proofs.Common.{◌≡◌, true, false, refl, subst}
use Rattle.ipnet_base.specs.Address.{ip_address}
use Rattle.ipnet.specs.NetworkOf.{ip_network}
use Rattle.ipnet_c.specs.TableReplies.{IsValueAt}
use Rattle.ipnet_c.proofs.RowLaws.{row_once, not_both}
use Rattle.ipnet_c.proofs.TableReplies.{value_found, value_missing}
use Rattle.ipnet_c.proofs.bulk_rows.row_value.Goals as goal

pub returns-in-Some-longest_match : goal.returns-in-Some-longest_match
returns-in-Some-longest_match c =
    let table = c.args.image.now.table.bytes.now in
    let own = ip_address c.in-Some.address in
    let of_own = c.in-Some.ensures.some in
    let route = c.in-Some-longest_match.route in
    let found = c.in-Some-longest_match.ensures in
    record {
      address = λ x of_x. subst (λ z. IsValueAt table z c.args.missing route.1)
          (row_once c.args.family c.args.bytes.now own x of_own of_x)
          (value_found table own (ip_network route.0) c.args.missing route.1 found.stored found.holds found.some
          (λ t image out. let apart : true ≡ false = (found.none t image).1 out in absurd (cc)));
      none = λ none. absurd (not_both c.args.family c.args.bytes.now own of_own none);
    }

pub returns-in-None-longest_match : goal.returns-in-None-longest_match
returns-in-None-longest_match c =
    let table = c.args.image.now.table.bytes.now in
    let own = ip_address c.in-Some.address in
    let of_own = c.in-Some.ensures.some in
    record {
      address = λ x of_x. subst (λ z. IsValueAt table z c.args.missing c.args.missing)
          (row_once c.args.family c.args.bytes.now own x of_own of_x)
          (value_missing table own c.args.missing (λ t image. (c.in-None-longest_match.ensures.none t image).0 refl));
      none = λ none. refl;
    }
