-- The names of lists, in the order of the lists.
use Rattle.std.specs.Prelude.{ℕ, List, codes, Option, Some, None, slice_get}
use Rattle.std.specs.Borrow.{Bor}

-- The names of lists, in order.
abbrev pub Names : Type 0
Names = List (Bor (List ℕ))

-- A name, or `list` for a list without a name.
abbrev pub name_or_list : Option (Bor (List ℕ)) → List ℕ
name_or_list None = codes "list"
name_or_list (Some name) = name.now

-- The name of the list with this index.
abbrev pub name_at : Names → ℕ → List ℕ
name_at names i = name_or_list (slice_get names i)
