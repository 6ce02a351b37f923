-- The first address of a set depends only on the set.
use Rattle.std.proofs.Common.{◌↔◌}
use Rattle.ipnet_base.specs.Address.{Address}
use Rattle.ipnet_sets.specs.Members.{IsFirstOf}

-- two sets of the same addresses have the same first address
pub first_of_same : (P Q : Address → Type 0) → ((y : Address) → P y ↔ Q y) → (x : Address) → IsFirstOf P x
    → IsFirstOf Q x
first_of_same P Q same x f = record {
  member = (same x).0 f.member;
  first = λ y q. f.first y ((same y).1 q);
}
