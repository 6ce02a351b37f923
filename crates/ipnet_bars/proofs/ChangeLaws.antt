-- The change of a block, by the parts of two sets in it.
use Rattle.std.proofs.Common.{◌↔◌, List, [], ◌∷◌, Contains}
use Rattle.std.specs.List.{AllZip}
use Rattle.ipnet_base.specs.Address.{Address}
use Rattle.ipnet_base.specs.Network.{Network, IsSubnetOf}
use Rattle.ipnet_base.proofs.ListLaws.{contains_here, contains_there}
use Rattle.ipnet_bars.specs.declared.change.Change.{Change}
use Rattle.ipnet_bars.specs.declared.change.Change.TheVariants.{Unused, Unchanged, Removed, Added, Mixed}
use Rattle.ipnet_bars.specs.Changes.{IsOnlyIn, IsChange}
use Rattle.ipnet_sets.specs.Parts.{IsInPart}
use Rattle.ipnet_bars.specs.Parts.{HasNone, HasSome}

-- the change of the parts of two sets is the change of the sets, in a smaller block
some_of_parts : (A B PA PB : Address → Type 0) (n k : Network) → ((y : Address) → PA y ↔ IsInPart A n y)
    → ((y : Address) → PB y ↔ IsInPart B n y) → IsSubnetOf k n → HasSome (IsOnlyIn PA PB) k
    → HasSome (IsOnlyIn A B) k
some_of_parts A B PA PB n k of_a of_b within h =
    let x = h.0 in
    let i = h.1 in (
      x,
      record {
        in_block = i.in_block;
        in_set = (
          ((of_a x).0 i.in_set.0).in_set,
          λ b. i.in_set.1 ((of_b x).1 (record { in_block = within x i.in_block; in_set = b })),
        );
      },
    )

none_of_parts : (A B PA PB : Address → Type 0) (n k : Network) → ((y : Address) → PA y ↔ IsInPart A n y)
    → ((y : Address) → PB y ↔ IsInPart B n y) → IsSubnetOf k n → HasNone (IsOnlyIn PA PB) k
    → HasNone (IsOnlyIn A B) k
none_of_parts A B PA PB n k of_a of_b within none x b only =
    none x b (
      (of_a x).1 (record { in_block = within x b; in_set = only.0 }),
      λ p. only.1 ((of_b x).0 p).in_set,
    )

change_of_parts : (A B PA PB : Address → Type 0) (n k : Network) (change : Change)
    → ((y : Address) → PA y ↔ IsInPart A n y) → ((y : Address) → PB y ↔ IsInPart B n y) → IsSubnetOf k n
    → IsChange PA PB k change → IsChange A B k change
change_of_parts A B PA PB n k Unused of_a of_b within h = (
  λ x b a. h.0 x b ((of_a x).1 (record { in_block = within x b; in_set = a })),
  λ x b m. h.1 x b ((of_b x).1 (record { in_block = within x b; in_set = m })),
)
change_of_parts A B PA PB n k Unchanged of_a of_b within h = (
  (h.0.0, record { in_block = h.0.1.in_block; in_set = ((of_a h.0.0).0 h.0.1.in_set).in_set }),
  λ x b. (
    λ a. ((of_b x).0 ((h.1 x b).0 ((of_a x).1 (record { in_block = within x b; in_set = a })))).in_set,
    λ m. ((of_a x).0 ((h.1 x b).1 ((of_b x).1 (record { in_block = within x b; in_set = m })))).in_set,
  ),
)
change_of_parts A B PA PB n k Removed of_a of_b within h = (
  some_of_parts A B PA PB n k of_a of_b within h.0,
  none_of_parts B A PB PA n k of_b of_a within h.1,
)
change_of_parts A B PA PB n k Added of_a of_b within h = (
  some_of_parts B A PB PA n k of_b of_a within h.0,
  none_of_parts A B PA PB n k of_a of_b within h.1,
)
change_of_parts A B PA PB n k Mixed of_a of_b within h = (
  some_of_parts A B PA PB n k of_a of_b within h.0,
  some_of_parts B A PB PA n k of_b of_a within h.1,
)

pub changes_of_parts : (A B PA PB : Address → Type 0) (n : Network) (cells : List Network) (changes : List Change)
    → ((y : Address) → PA y ↔ IsInPart A n y) → ((y : Address) → PB y ↔ IsInPart B n y)
    → ((k : Network) → Contains cells k → IsSubnetOf k n) → AllZip (IsChange PA PB) cells changes
    → AllZip (IsChange A B) cells changes
changes_of_parts A B PA PB n [] [] of_a of_b within h = h
changes_of_parts A B PA PB n [] (change ∷ changes) of_a of_b within h = absurd h
changes_of_parts A B PA PB n (k ∷ cells) [] of_a of_b within h = absurd h
changes_of_parts A B PA PB n (k ∷ cells) (change ∷ changes) of_a of_b within h = (
  change_of_parts A B PA PB n k change of_a of_b (within k (contains_here k cells)) h.0,
  changes_of_parts A B PA PB n cells changes of_a of_b (λ m c. within m (contains_there k cells m c)) h.1,
)
