-- Pairs of lists: how many addresses are in only one of the two, and how many are in both.
use Rattle.std.specs.Prelude.{◌≡◌, ◌↔◌, ◌+◌, ◌-◌, ◌<◌, ℕ, Bool, IsTrue, List, [], ◌∷◌, ◌++◌, length, decimal}
use Rattle.std.specs.Prelude.{slice_index_or}
use Rattle.ipnet_base.specs.Address.{Address}
use Rattle.ipnet.specs.declared.parser.Grammar.{Grammar}
use Rattle.ipnet_lists.specs.Lists.{ListEntry, IsInEntries}
use Rattle.ipnet_lists.specs.Names.{Names, name_at}
use Rattle.netset_lib.specs.Answers.{AreListsRead}
use Rattle.netset_lib.specs.Counts.{HasCounts, HaveSame}
use Rattle.netset_entries.specs.TextParts.{AreTextParts}

-- A tab (9) and the number of IPv4 addresses of the set, and then a tab and the number of its IPv6 addresses.
pub record AreTabbedCounts (InSet : Address → Type 0) (text : List ℕ) : Type 0 where
  pub ipv4 : ℕ
  pub ipv6 : ℕ
  pub counts : HasCounts InSet ipv4 ipv6
  pub spelled : text ≡ 9 ∷ [] ++ decimal ipv4 ++ 9 ∷ [] ++ decimal ipv6

-- The line of a pair: both names, and the numbers of addresses that are only in the first list, only in the second, and
-- in both.
-- Example: `a`, `b`, 1, 0, 0, 1, 1, 0 for 10.0.0.0/31 in the list a, and 10.0.0.1 and ::1 in the list b.
pub record IsPairLine (first_name second_name : List ℕ) (First Second : Address → Type 0) (line : List ℕ) : Type 0
  where
    pub only_first : List ℕ
    pub only_second : List ℕ
    pub both : List ℕ
    pub of_first : AreTabbedCounts (λ x. First x × ¬ (Second x)) only_first
    pub of_second : AreTabbedCounts (λ x. Second x × ¬ (First x)) only_second
    pub of_both : AreTabbedCounts (λ x. First x × Second x) both
    pub spelled : line ≡ first_name ++ 9 ∷ [] ++ second_name ++ only_first ++ only_second ++ both ++ 10 ∷ []

-- The list is at this index.
abbrev pub IsListAt : {L : Type 0} → List L → ℕ → L → Type 0
IsListAt lists i list = (i < length lists) × (slice_index_or lists i list ≡ list)

-- The line of the lists at these two indexes.
pub record IsPairAt {L : Type 0} (In : L → Address → Type 0) (names : Names) (lists : List L) (i j : ℕ)
    (line : List ℕ) : Type 0 where
  pub first : L
  pub second : L
  pub first_at : IsListAt lists i first
  pub second_at : IsListAt lists j second
  pub is : IsPairLine (name_at names i) (name_at names j) (In first) (In second) line

-- The lines of the list at this index with each list after it, in order.
abbrev pub ArePairsOf : {L : Type 0} → (L → Address → Type 0) → Names → List L → ℕ → List ℕ → Type 0
ArePairsOf In names lists i text = AreTextParts (IsPairAt In names lists i) (i + 1) (length lists - (i + 1)) text

-- The lines of all pairs. Example: for the lists a, b, c, the lines of a and b, a and c, b and c.
abbrev pub ArePairs : {L : Type 0} → (L → Address → Type 0) → Names → List L → List ℕ → Type 0
ArePairs In names lists text = AreTextParts (ArePairsOf In names lists) 0 (length lists) text

-- No two of the lists differ in an address.
abbrev pub HaveAllSame : {L : Type 0} → (L → Address → Type 0) → List L → Type 0
HaveAllSame {L} In lists = (i j : ℕ) (first second : L) → IsListAt lists i first → IsListAt lists j second
    → HaveSame (In first) (In second)

-- No line of the lists is refused, and the text has the lines of their pairs.
pub record IsPairsAnswer (names : Names) (grammar : Grammar) (lists : List (List ℕ)) (text : List ℕ) : Type 0 where
  pub entries : List (List ListEntry)
  pub read : AreListsRead grammar 0 lists entries []
  pub right : ArePairs IsInEntries names entries text

-- No line of the lists is refused. `same` says whether no two of them differ.
pub record IsPairsOutcome (grammar : Grammar) (lists : List (List ℕ)) (same : Bool) : Type 0 where
  pub entries : List (List ListEntry)
  pub read : AreListsRead grammar 0 lists entries []
  pub is_same : IsTrue same ↔ HaveAllSame IsInEntries entries
