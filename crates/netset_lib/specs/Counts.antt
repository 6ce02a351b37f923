-- Counting the addresses of a list, and comparing two lists; and the texts of the results.
use Rattle.std.specs.Prelude.{◌≡◌, ◌↔◌, ℕ, ◌+◌, List, [], ◌∷◌, ◌++◌, codes, decimal}
use Rattle.ipnet_base.specs.Address.{IPv4, IPv6, Address}
use Rattle.ipnet.specs.declared.parser.Grammar.{Grammar}
use Rattle.ipnet_sets.specs.ManySets.{IsInSome}
use Rattle.ipnet_sets.specs.Members.{IsCountOf}
use Rattle.netset_lib.specs.Answers.{AreListsRead}
use Rattle.ipnet_lists.specs.Lists.{ListEntry, IsInEntries}
use Rattle.ipnet_lists.specs.Names.{Names, name_at}

-- The set has this number of IPv4 addresses, and this number of IPv6 addresses.
pub record HasCounts (InSet : Address → Type 0) (ipv4 ipv6 : ℕ) : Type 0 where
  pub of_ipv4 : IsCountOf (λ x. (x.family ≡ IPv4) × InSet x) ipv4
  pub of_ipv6 : IsCountOf (λ x. (x.family ≡ IPv6) × InSet x) ipv6

-- The two numbers on one line. Example: `IPv4 6, IPv6 0`.
abbrev pub counts_line : ℕ → ℕ → List ℕ
counts_line ipv4 ipv6 = codes "IPv4 " ++ decimal ipv4 ++ codes ", IPv6 " ++ decimal ipv6 ++ 10 ∷ []

-- The line with the number of addresses of the set in each family.
pub record IsCountsLine (InSet : Address → Type 0) (line : List ℕ) : Type 0 where
  pub ipv4 : ℕ
  pub ipv6 : ℕ
  pub counts : HasCounts InSet ipv4 ipv6
  pub spelled : line ≡ counts_line ipv4 ipv6

-- A name and the two numbers, with a tab (9) before each number, on one line. Example: `a.txt`, `6` and `0`.
abbrev pub count_line : List ℕ → ℕ → ℕ → List ℕ
count_line name ipv4 ipv6 = name ++ 9 ∷ [] ++ decimal ipv4 ++ 9 ∷ [] ++ decimal ipv6 ++ 10 ∷ []

-- The line with the name and the number of addresses of the set in each family.
pub record IsCountLine (name : List ℕ) (InSet : Address → Type 0) (line : List ℕ) : Type 0 where
  pub ipv4 : ℕ
  pub ipv6 : ℕ
  pub counts : HasCounts InSet ipv4 ipv6
  pub spelled : line ≡ count_line name ipv4 ipv6

-- A line for each list, with its name. The first of these lists has the index `i`.
abbrev pub AreCountLines : {L : Type 0} → (L → Address → Type 0) → Names → ℕ → List L → List ℕ → Type 0
AreCountLines In names i [] text = text ≡ []
AreCountLines In names i (list ∷ lists) text =
    (line : List ℕ) × (rest : List ℕ) × (text ≡ line ++ rest) × IsCountLine (name_at names i) (In list) line
    × AreCountLines In names (i + 1) lists rest

-- The line `total` with the addresses of all lists together, if there are two lists or more. Each address counts once.
abbrev pub IsTotalText : {L : Type 0} → (L → Address → Type 0) → List L → List ℕ → Type 0
IsTotalText In [] text = text ≡ []
IsTotalText In (list ∷ []) text = text ≡ []
IsTotalText In (first ∷ second ∷ others) text =
    IsCountLine (codes "total") (IsInSome In (first ∷ second ∷ others)) text

-- A line for each list, and the total.
-- Example: `a`, 4, 0; `b`, 4, 1; `total`, 6, 1 for `10.0.0.0/30` in the list a, and `10.0.0.2-10.0.0.5`, `::1` in the
-- list b.
pub record IsCountText {L : Type 0} (In : L → Address → Type 0) (names : Names) (lists : List L)
    (text : List ℕ) : Type 0 where
  pub lines : List ℕ
  pub total : List ℕ
  pub each : AreCountLines In names 0 lists lines
  pub all : IsTotalText In lists total
  pub spelled : text ≡ lines ++ total

-- The two sets have the same addresses.
abbrev pub HaveSame : (Address → Type 0) → (Address → Type 0) → Type 0
HaveSame First Second = (x : Address) → First x ↔ Second x

-- A line with the number of addresses that are only in the first set, and a line for the second.
-- Example: for 10.0.0.0/31 and 10.0.0.1, `only in the first: IPv4 1, IPv6 0` and `only in the second: IPv4 0, IPv6 0`.
pub record AreDifferences (First Second : Address → Type 0) (text : List ℕ) : Type 0 where
  pub first_line : List ℕ
  pub second_line : List ℕ
  pub first : IsCountsLine (λ x. First x × ¬ (Second x)) first_line
  pub second : IsCountsLine (λ x. Second x × ¬ (First x)) second_line
  pub spelled : text ≡ codes "only in the first: " ++ first_line ++ codes "only in the second: " ++ second_line

-- The text is empty if and only if the two sets have the same addresses; otherwise it is these two lines.
pub record IsComparison (First Second : Address → Type 0) (text : List ℕ) : Type 0 where
  pub same : HaveSame First Second → text ≡ []
  pub only : text ≡ [] → HaveSame First Second
  pub differ : ¬ (HaveSame First Second) → AreDifferences First Second text

-- No line of the lists is refused, and the text is their numbers of addresses.
pub record IsCountAnswer (names : Names) (grammar : Grammar) (lists : List (List ℕ)) (text : List ℕ)
    : Type 0 where
  pub entries : List (List ListEntry)
  pub read : AreListsRead grammar 0 lists entries []
  pub right : IsCountText IsInEntries names entries text

-- No line of the two lists is refused, and the text compares their addresses.
pub record IsCompareAnswer (grammar : Grammar) (lists : List (List ℕ)) (text : List ℕ) : Type 0 where
  pub first : List ListEntry
  pub second : List ListEntry
  pub read : AreListsRead grammar 0 lists (first ∷ second ∷ []) []
  pub right : IsComparison (IsInEntries first) (IsInEntries second) text
