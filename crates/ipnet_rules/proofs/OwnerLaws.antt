-- The owners of cells decide on the addresses of the cells.
use Rattle.std.proofs.Common.{◌≡◌, ℕ, ◌+◌, ◌<◌, ◌⊎◌, ◌↔◌, List, [], AllPairs, Contains}
use Rattle.std.proofs.Common.{Bool, true, false, length, get_or, slice_index, arith, sym, subst, ◌∙◌, inl, inr}
use Rattle.std.proofs.lemmas.Bool.{cases_lt}
use Rattle.ipnet_base.proofs.ListLaws.{all_at, at_place, contains_nil}
use Rattle.ipnet_base.specs.Address.{Family, IPv4, IPv6, Address, address_at}
use Rattle.ipnet_rules.specs.declared.cells.Cells.{Cells}
use Rattle.ipnet_rules.specs.declared.cells.Painting.{Painting}
use Rattle.ipnet_rules.specs.declared.cells.Piece.{Piece}
use Rattle.ipnet_rules.specs.declared.rules.Rule.{Rule}
use Rattle.ipnet_rules.specs.UnreachedRules.{MatchesAt, Decides, IsUnreached, AreDeciders}
use Rattle.ipnet_rules.specs.Cells.{ArePieces, IsInCell, AreCutsOf, AreCuts, IsCutIn, ArePainted}
use Rattle.ipnet_rules.specs.Cells.{AreOwnersBefore, AreCells, AreInOrder, HasOwnersAdded}
use Rattle.ipnet_rules.proofs.UnreachedLaws.{matches_at}

-- a bit is not both
not_both_bits : true ≡ false → ⊥
not_both_bits e = absurd (cc)

-- the rule at the place was asked
pub owners_next : (f : Family) (rules : List Rule) (cuts : List ℕ) (place : ℕ) (d : Rule) (pieces : List Piece)
    (old new : Painting) → place < length rules → length old.owners.items ≡ length cuts
    → old.free ≡ length rules → ArePieces f (get_or rules place d).addresses pieces
    → ArePainted (IsCutIn cuts pieces) place old new
    → AreOwnersBefore f rules cuts place (length rules) old.owners.items
    → AreOwnersBefore f rules cuts (place + 1) (length rules) new.owners.items
owners_next f rules cuts place d pieces old new within count free are painted before cell inside =
    elim (painted.each cell (omega (arith, inside, count))) [
      | inl a ↦ elim (before cell inside) [
        | inl none ↦ inr (
          omega (arith, a.2),
          subst (λ i. Decides rules i x) (sym a.2) (record { matches = own.1 a.0; first = none.1 }),
        )
        | inr some ↦ absurd (let wrong : ⊥ = omega (arith, some.0, a.1, free, within) in wrong)
      ]
      | inr a ↦ elim (before cell inside) [
        | inl none ↦ inl (
          a.1 ∙ none.0,
          λ earlier less m. elim (cases_lt earlier place) [
            | inl first ↦ none.1 earlier first m
            | inr not ↦
                let same : earlier ≡ place = omega (arith, less, not) in
                a.0 (own.0 (subst (λ i. MatchesAt rules i x) same m)) (none.0 ∙ sym free)
          ],
        )
        | inr some ↦ inr (omega (arith, some.0, a.1), subst (λ i. Decides rules i x) (sym a.1) some.1)
      ]
    ]
  where
    n : ℕ
    n = slice_index cuts cell

    x : Address
    x = address_at f n

    -- the rule at the place matches the cut if and only if the cut lies in its pieces
    own : MatchesAt rules place x ↔ IsCutIn cuts pieces cell
    own = (
      λ m. (are.numbers n).0 ((matches_at rules place d x within).0 m),
      λ a. (matches_at rules place d x within).1 ((are.numbers n).1 a),
    )

-- a rule matches a number if and only if it matches the cut of its cell
pub one_cell_at : (f : Family) (rules : List Rule) (cuts : List ℕ) → AreCuts f rules cuts → (cell n : ℕ)
    → IsInCell cuts cell n → (place : ℕ)
    → MatchesAt rules place (address_at f n) ↔ MatchesAt rules place (address_at f (slice_index cuts cell))
one_cell_at f rules cuts h cell n inside place = (
  λ m. (
    m.0,
    m.1,
    m.2,
    ((all_at (λ r. AreCutsOf f cuts r.addresses) rules h.cut m.0 (place, m.1, m.2)).one_cell cell n inside).0 m.3,
  ),
  λ m. (
    m.0,
    m.1,
    m.2,
    ((all_at (λ r. AreCutsOf f cuts r.addresses) rules h.cut m.0 (place, m.1, m.2)).one_cell cell n inside).1 m.3,
  ),
)

-- one rule decides on an address
one_decides : (rules : List Rule) (i j : ℕ) (x : Address) → Decides rules i x → Decides rules j x → i ≡ j
one_decides rules i j x a b = elim (cases_lt i j) [
  | inl less ↦ absurd (b.first i less a.matches)
  | inr not ↦ elim (cases_lt j i) [
    | inl less ↦ absurd (a.first j less b.matches)
    | inr too ↦ omega (arith, not, too)
  ]
]

-- a cell that a rule matches has an owner
pub owner_decides : (f : Family) (rules : List Rule) (cells : Cells) → AreCells f rules cells → (cell : ℕ)
    → cell < length cells.cuts.items → slice_index cells.owners.items cell < length rules
    → Decides rules (slice_index cells.owners.items cell) (address_at f (slice_index cells.cuts.items cell))
owner_decides f rules cells h cell within owned = elim (h.owners cell within) [
  | inl none ↦ absurd (let wrong : ⊥ = omega (arith, owned, none.0) in wrong)
  | inr some ↦ some.1
]

-- the cell of an address on which a rule decides: that rule is its owner, and it is matched as the address is
cell_of_number : (f : Family) (rules : List Rule) (cells : Cells) → AreCells f rules cells → (n owner : ℕ)
    → Decides rules owner (address_at f n)
    → (cell : ℕ) × (cell < length cells.cuts.items) × (slice_index cells.owners.items cell ≡ owner)
    × ((place : ℕ) → MatchesAt rules place (address_at f n)
    → MatchesAt rules place (address_at f (slice_index cells.cuts.items cell)))
cell_of_number f rules cells h n owner d =
    let m = d.matches in
    let cuts = cells.cuts.items in
    let found = (all_at (λ r. AreCutsOf f cuts r.addresses) rules h.cuts.cut m.0 (owner, m.1, m.2)).some_cell n m.3 in
    let cell = found.0 in
    let same = one_cell_at f rules cuts h.cuts cell n found.1 in
    let at : Decides rules owner (address_at f (slice_index cuts cell)) = record {
      matches = (same owner).0 m;
      first = λ earlier less e. d.first earlier less ((same earlier).1 e);
    } in (
      cell,
      found.1.within,
      elim (h.owners cell found.1.within) [
        | inl none ↦ absurd (none.1 owner m.1 ((same owner).0 m))
        | inr some ↦ one_decides rules (slice_index cells.owners.items cell) owner
            (address_at f (slice_index cuts cell)) some.1 at
      ],
      λ place e. (same place).0 e,
    )

-- a rule owns a cell of one of the families if and only if it is not unreached
unreached_if_no_cell : (rules : List Rule) (ipv4 ipv6 : Cells) → AreCells IPv4 rules ipv4
    → AreCells IPv6 rules ipv6 → (place : ℕ) → place < length rules
    → (Contains ipv4.owners.items place ⊎ Contains ipv6.owners.items place → ⊥) → IsUnreached rules place
unreached_if_no_cell rules ipv4 ipv6 h k place within none = record {
  within = within;
  never = λ x d. go x.family x.number d;
}
  where
    go : (f : Family) (n : ℕ) → Decides rules place (address_at f n) → ⊥
    go IPv4 n d = let c = cell_of_number IPv4 rules ipv4 h n place d in
        none (inl (
          c.0,
          omega (arith, c.1, h.count),
          at_place ipv4.owners.items c.0 place 0 (omega (arith, c.1, h.count)) ∙ c.2,
        ))
    go IPv6 n d = let c = cell_of_number IPv6 rules ipv6 k n place d in
        none (inr (
          c.0,
          omega (arith, c.1, k.count),
          at_place ipv6.owners.items c.0 place 0 (omega (arith, c.1, k.count)) ∙ c.2,
        ))

-- a rule that owns a cell is reached
reached_if_cell : (f : Family) (rules : List Rule) (cells : Cells) → AreCells f rules cells → (place : ℕ)
    → Contains cells.owners.items place → IsUnreached rules place → ⊥
reached_if_cell f rules cells h place c never =
    let is : slice_index cells.owners.items c.0 ≡ place =
    at_place cells.owners.items c.0 0 place c.1 ∙ c.2 in
    let within : c.0 < length cells.cuts.items = omega (arith, c.1, h.count) in
    never.never (address_at f (slice_index cells.cuts.items c.0))
    (subst (λ i. Decides rules i (address_at f (slice_index cells.cuts.items c.0))) is
    (owner_decides f rules cells h c.0 within (omega (arith, is, never.within))))

-- the owners of cells in the pieces of an unreached rule decide on addresses of it
decider_of_cell : (f : Family) (rules : List Rule) (cells : Cells) (place : ℕ) (d : Rule) (pieces : List Piece)
    → AreCells f rules cells → IsUnreached rules place → ArePieces f (get_or rules place d).addresses pieces
    → (cell earlier : ℕ) → cell < length cells.cuts.items → IsCutIn cells.cuts.items pieces cell
    → slice_index cells.owners.items cell ≡ earlier
    → (earlier < place) × (x : Address) × MatchesAt rules place x × Decides rules earlier x
decider_of_cell f rules cells place d pieces h never are cell earlier within a is =
    let n = slice_index cells.cuts.items cell in
    let x = address_at f n in
    let m = (matches_at rules place d x never.within).1 ((are.numbers n).1 a) in
    elim (h.owners cell within) [
      | inl none ↦ absurd (none.1 place never.within m)
      | inr some ↦
          let decides = subst (λ i. Decides rules i x) is some.1 in (
            elim (cases_lt earlier place) [
              | inl less ↦ less
              | inr not ↦ elim (cases_lt place earlier) [
                | inl before ↦ absurd (decides.first place before m)
                | inr too ↦
                    let same : earlier ≡ place = omega (arith, not, too) in
                    absurd (never.never x (subst (λ i. Decides rules i x) same decides))
              ]
            ],
            x,
            m,
            decides,
          )
    ]

-- the cells of rules are in order
pub in_order : (f : Family) (rules : List Rule) (cells : Cells) → AreCells f rules cells → AreInOrder cells
in_order f rules cells h = record { cuts = h.cuts.ascending; owners = h.count; nexts = h.nexts }

-- the deciders of an unreached rule are the owners of the cells in its pieces
pub deciders_from_owners : (rules : List Rule) (ipv4 ipv6 : Cells) (place : ℕ) (d : Rule) (pieces more : List Piece)
    (none first second found : List ℕ) → AreCells IPv4 rules ipv4 → AreCells IPv6 rules ipv6
    → IsUnreached rules place → ArePieces IPv4 (get_or rules place d).addresses pieces
    → ArePieces IPv6 (get_or rules place d).addresses more → none ≡ []
    → HasOwnersAdded ipv4 pieces none first → HasOwnersAdded ipv6 more first second
    → ((i : ℕ) → Contains found i ↔ Contains second i) → AllPairs (λ i j. i < j) found
    → AreDeciders rules place found
deciders_from_owners rules ipv4 ipv6 place d pieces more none first second found h k never are also empty a b same up =
    record {
      ascending = up;
      members = λ earlier. (
        λ c. elim ((b earlier).0 ((same earlier).0 c)) [
          | inl front ↦ elim ((a earlier).0 front) [
            | inl nothing ↦ absurd (contains_nil earlier (subst (λ l. Contains l earlier) empty nothing))
            | inr cell ↦ decider_of_cell IPv4 rules ipv4 place d pieces h never are cell.0 earlier cell.1 cell.2 cell.3
          ]
          | inr cell ↦ decider_of_cell IPv6 rules ipv6 place d more k never also cell.0 earlier cell.1 cell.2 cell.3
        ],
        λ known. (same earlier).1 (go earlier known.1.family known.1.number known.2 known.3),
      );
    }
  where
    go : (earlier : ℕ) (f : Family) (n : ℕ) → MatchesAt rules place (address_at f n)
        → Decides rules earlier (address_at f n) → Contains second earlier
    go earlier IPv4 n m decides =
        let c = cell_of_number IPv4 rules ipv4 h n earlier decides in
        let cut = slice_index ipv4.cuts.items c.0 in
        (b earlier).1 (inl ((a earlier).1 (inr (
          c.0,
          c.1,
          (are.numbers cut).0 ((matches_at rules place d (address_at IPv4 cut) never.within).0 (c.3 place m)),
          c.2,
        ))))
    go earlier IPv6 n m decides =
        let c = cell_of_number IPv6 rules ipv6 k n earlier decides in
        let cut = slice_index ipv6.cuts.items c.0 in
        (b earlier).1 (inr (
          c.0,
          c.1,
          (also.numbers cut).0 ((matches_at rules place d (address_at IPv6 cut) never.within).0 (c.3 place m)),
          c.2,
        ))

-- a rule that is not in the list of those that own a cell is unreached
pub unreached_if_absent : (rules : List Rule) (ipv4 ipv6 : Cells) → AreCells IPv4 rules ipv4
    → AreCells IPv6 rules ipv6 → (place : ℕ) → place < length rules → (reached : List ℕ)
    → Contains reached place ↔ (Contains ipv4.owners.items place ⊎ Contains ipv6.owners.items place)
    → (slice : List ℕ) → slice ≡ reached → (b : Bool) → (b ≡ true) ↔ Contains slice place → b ≡ false
    → IsUnreached rules place
unreached_if_absent rules ipv4 ipv6 h k place within reached members slice is b has absent =
    unreached_if_no_cell rules ipv4 ipv6 h k place within
    (λ own. absurd (not_both_bits (sym (has.1 (subst (λ l. Contains l place) (sym is) (members.1 own))) ∙ absent)))

-- a rule in the list of those that own a cell is not
pub reached_if_present : (rules : List Rule) (ipv4 ipv6 : Cells) → AreCells IPv4 rules ipv4
    → AreCells IPv6 rules ipv6 → (place : ℕ) → (reached : List ℕ)
    → Contains reached place ↔ (Contains ipv4.owners.items place ⊎ Contains ipv6.owners.items place)
    → (slice : List ℕ) → slice ≡ reached → Contains slice place → IsUnreached rules place → ⊥
reached_if_present rules ipv4 ipv6 h k place reached members slice is has never =
    elim (members.0 (subst (λ l. Contains l place) is has)) [
      | inl own ↦ reached_if_cell IPv4 rules ipv4 h place own never
      | inr own ↦ reached_if_cell IPv6 rules ipv6 k place own never
    ]
