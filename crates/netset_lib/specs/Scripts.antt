-- Scripts: trees of calls of the program, each of which reads files and the answers of other calls.
use Rattle.std.specs.Prelude.{◌≡◌, ◌⊎◌, ⊤, ℕ, List, [], ◌∷◌}
use Rattle.ipnet_base.specs.Address.{Family, IPv4, IPv6, Address, IsAddress}
use Rattle.ipnet.specs.declared.parser.Grammar.{Grammar}
use Rattle.netset_lib.specs.declared.answer.Form.{Form}
use Rattle.netset_lib.specs.declared.operation.Families.{Families}
use Rattle.netset_lib.specs.declared.operation.Families.TheVariants.{Named, Ipv4, Ipv6, Both}
use Rattle.netset_lib.specs.Operations as Operations
use Rattle.netset_lib.specs.Answers.{IsAnswer}
use Rattle.ipnet_lists.specs.Lists.{ListEntry, IsListRead, IsInEntries, HaveAddresses}

-- A script: a file with these bytes, or a call of the program on one or two scripts.
-- Example: `netset difference a <(netset union b c)` is the difference of the file a and of the union of two files.
pub data Script : Type 0 where
  File : (bytes : List ℕ) → Script
  Aggregate : (only : Script) → Script
  Union : (first second : Script) → Script
  Intersection : (first second : Script) → Script
  Difference : (first second : Script) → Script
  SymmetricDifference : (first second : Script) → Script
  Complement : (families : Families) (only : Script) → Script

-- The script is a call of the program, and not a file.
abbrev pub IsCall : Script → Type 0
IsCall (File bytes) = ⊥
IsCall (Aggregate only) = Unit {0}
IsCall (Union first second) = Unit {0}
IsCall (Intersection first second) = Unit {0}
IsCall (Difference first second) = Unit {0}
IsCall (SymmetricDifference first second) = Unit {0}
IsCall (Complement families only) = Unit {0}

-- No line of the file is refused, and the address lies in one of its entries.
pub record IsInFile (grammar : Grammar) (bytes : List ℕ) (x : Address) : Type 0 where
  pub entries : List ListEntry
  pub read : IsListRead grammar 0 bytes entries []
  pub member : IsInEntries entries x

-- The families of a complement: those with an address in the set, one of the two, or both.
abbrev pub IsChosenFor : Families → (Address → Type 0) → Family → Type 0
IsChosenFor Named InSet f = (x : Address) × (x.family ≡ f) × InSet x
IsChosenFor Ipv4 InSet f = f ≡ IPv4
IsChosenFor Ipv6 InSet f = f ≡ IPv6
IsChosenFor Both InSet f = ⊤

-- The address is in the set that the script makes: set operations on the addresses of its files.
abbrev pub IsInScript : Grammar → Script → Address → Type 0
IsInScript grammar (File bytes) x = IsInFile grammar bytes x
IsInScript grammar (Aggregate only) x = IsInScript grammar only x
IsInScript grammar (Union first second) x = IsInScript grammar first x ⊎ IsInScript grammar second x
IsInScript grammar (Intersection first second) x = IsInScript grammar first x × IsInScript grammar second x
IsInScript grammar (Difference first second) x = IsInScript grammar first x × ¬ (IsInScript grammar second x)
IsInScript grammar (SymmetricDifference first second) x =
    (IsInScript grammar first x × ¬ (IsInScript grammar second x))
    ⊎ (IsInScript grammar second x × ¬ (IsInScript grammar first x))
IsInScript grammar (Complement families only) x =
    IsAddress x × IsChosenFor families (IsInScript grammar only) x.family × ¬ (IsInScript grammar only x)

-- The bytes that the script gives in this form: a file gives its own, and a call gives its answer over the bytes that
-- the scripts below it give. Each of these has a form of its own.
abbrev pub Gives : Grammar → Form → Script → List ℕ → Type 0
Gives grammar form (File bytes) text = text ≡ bytes
Gives grammar form (Aggregate only) text =
    (below : Form) × (list : List ℕ) × Gives grammar below only list
    × IsAnswer Operations.Union grammar form (list ∷ []) text
Gives grammar form (Union first second) text =
    (left right : Form) × (one other : List ℕ) × Gives grammar left first one × Gives grammar right second other
    × IsAnswer Operations.Union grammar form (one ∷ other ∷ []) text
Gives grammar form (Intersection first second) text =
    (left right : Form) × (one other : List ℕ) × Gives grammar left first one × Gives grammar right second other
    × IsAnswer Operations.Intersection grammar form (one ∷ other ∷ []) text
Gives grammar form (Difference first second) text =
    (left right : Form) × (one other : List ℕ) × Gives grammar left first one × Gives grammar right second other
    × IsAnswer Operations.Difference grammar form (one ∷ other ∷ []) text
Gives grammar form (SymmetricDifference first second) text =
    (left right : Form) × (one other : List ℕ) × Gives grammar left first one × Gives grammar right second other
    × IsAnswer Operations.SymmetricDifference grammar form (one ∷ other ∷ []) text
Gives grammar form (Complement families only) text =
    (below : Form) × (list : List ℕ) × Gives grammar below only list
    × IsAnswer (Operations.Complement families) grammar form (list ∷ []) text

-- The bytes are a list without refused lines that has exactly the addresses of the set.
pub record IsListOf (grammar : Grammar) (InSet : Address → Type 0) (bytes : List ℕ) : Type 0 where
  pub entries : List ListEntry
  pub read : IsListRead grammar 0 bytes entries []
  pub addresses : HaveAddresses InSet entries
