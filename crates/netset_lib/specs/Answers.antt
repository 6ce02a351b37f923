-- The answer of an operation: the text of the set that it makes of the lists.
use Rattle.std.specs.Prelude.{◌≡◌, ◌≢◌, ℕ, ◌+◌, List, [], ◌∷◌, ◌++◌}
use Rattle.ipnet_base.specs.Address.{Address}
use Rattle.ipnet.specs.declared.parser.Grammar.{Grammar}
use Rattle.netset_lib.specs.declared.answer.Form.{Form}
use Rattle.netset_lib.specs.declared.answer.Form.TheVariants.{Networks, Ranges}
use Rattle.netset_lib.specs.declared.operation.Families.TheVariants.{Named}
use Rattle.ipnet_lists.specs.Lists.{ListEntry, Refusal, IsListRead, IsInEntries}
use Rattle.netset_lib.specs.Operations.{ListOperation, Complement, IsInResult}
use Rattle.ipnet_lists.specs.RefusedLines.{RefusedLines, AreRefused}
use Rattle.ipnet_lists.specs.SetLines.{AreNetworkLines, AreRangeLines}

-- The lists, the first with this index, have these entries and these refused lines.
abbrev pub AreListsRead : Grammar → ℕ → List (List ℕ) → List (List ListEntry) → List Refusal → Type 0
AreListsRead grammar list [] entries refusals = (entries ≡ []) × (refusals ≡ [])
AreListsRead grammar list (bytes ∷ lists) entries refusals =
    (first : List ListEntry) × (others : List (List ListEntry)) × (here : List Refusal) × (later : List Refusal)
    × (entries ≡ first ∷ others) × (refusals ≡ here ++ later) × IsListRead grammar list bytes first here
    × AreListsRead grammar (list + 1) lists others later

-- The text of the set in this form.
abbrev pub IsSetText : Form → (Address → Type 0) → List ℕ → Type 0
IsSetText Networks = AreNetworkLines
IsSetText Ranges = AreRangeLines

-- The operation is a complement for the families of the list.
abbrev pub IsNamedOperation : ListOperation → Type 0
IsNamedOperation operation = operation ≡ Complement Named

-- No line is refused, and the answer is the text of the operation's result. A complement for the families of the list
-- has an answer only if the list has an entry.
-- Example: the difference of `10.0.0.0/30` and `10.0.0.3` has the answer `10.0.0.0/31`, `10.0.0.2/32`, one per line.
pub record IsAnswer (operation : ListOperation) (grammar : Grammar) (form : Form) (lists : List (List ℕ))
    (answer : List ℕ) : Type 0 where
  pub entries : List (List ListEntry)
  pub read : AreListsRead grammar 0 lists entries []
  pub right : IsSetText form (IsInResult IsInEntries operation entries) answer
  pub named : IsNamedOperation operation → entries ≢ [] ∷ []

-- Some lines are refused, and these are all of them.
pub record HasRefused (grammar : Grammar) (lists : List (List ℕ)) (lines : RefusedLines) : Type 0 where
  pub entries : List (List ListEntry)
  pub refusals : List Refusal
  pub read : AreListsRead grammar 0 lists entries refusals
  pub some : refusals ≢ []
  pub kept : AreRefused lines refusals
