-- The names of unfinished output files.
use Rattle.std.specs.Prelude.{◌≡◌, ◌≢◌, ◌≤◌, ℕ, true, List, [], ◌∷◌, ◌++◌, codes, decimal, length}
use Rattle.std.specs.Char.{is_ascii_digit}
use Rattle.std.specs.List.{list_all}

-- The name of an unfinished file beside the file with this name.
-- Example: `.live.txt.netset-3` for `live.txt` and the number 3.
abbrev pub unfinished_name : List ℕ → ℕ → List ℕ
unfinished_name name number = codes "." ++ name ++ codes ".netset-" ++ decimal number

-- The digits of a number from 1 to 999: one to three, of which the first is not "0" (48).
abbrev pub AreFileDigits : List ℕ → Type 0
AreFileDigits [] = ⊥
AreFileDigits (first ∷ rest) =
    (first ≢ 48) × (length rest ≤ 2) × (list_all is_ascii_digit (first ∷ rest) ≡ true)

-- This is the name of an unfinished file that a call can have made beside the file with the first name: a number from 1
-- to 999 follows ".netset-".
-- Example: `.live.txt.netset-3` is one for `live.txt`; `.live.txt.netset-0`, `.live.txt.netset-03`,
-- `.live.txt.netset-1000`, `.live.txt.netset-x` and `.live.netset-3` are not.
abbrev pub IsUnfinishedName : List ℕ → List ℕ → Type 0
IsUnfinishedName name entry = (digits : List ℕ) × (entry ≡ codes "." ++ name ++ codes ".netset-" ++ digits)
    × AreFileDigits digits
