-- The names of locales, as the system's variables have them.
use Rattle.std.specs.Prelude.{◌≡◌, ◌⊎◌, ◌==◌, ℕ, List, map, length, codes, if◌then◌else◌}
use Rattle.std.specs.List.{before_first, after_first}
use Rattle.std.specs.Char.{to_ascii_lowercase}

-- The codeset in the name of a locale: what is between the first `.` and the next `@`; nothing if there is no `.`.
-- Example: `UTF-8` in `de_DE.UTF-8@euro`; nothing in `C`.
abbrev pub codeset_of : List ℕ → List ℕ
codeset_of name = before_first (λ b. b == 64) (after_first (λ b. b == 46) name)

-- The locale's text is in UTF-8. Example: `C.UTF-8` and `de_DE.utf8`, and not `C` or `de_DE.ISO-8859-1`.
abbrev pub IsUtf8Locale : List ℕ → Type 0
IsUtf8Locale name = (map to_ascii_lowercase (codeset_of name) ≡ codes "utf-8")
    ⊎ (map to_ascii_lowercase (codeset_of name) ≡ codes "utf8")

-- The first text, or the other if the first is empty.
abbrev pub filled_or : List ℕ → List ℕ → List ℕ
filled_or first other = if length first == 0 then other else first

-- The name of the locale: the first of the values of `LC_ALL`, `LC_CTYPE` and `LANG` that is not empty. It is empty if
-- all values are.
-- Example: `C` for the values ``, `C` and `de_DE.UTF-8`.
abbrev pub locale_name : List ℕ → List ℕ → List ℕ → List ℕ
locale_name lc_all lc_ctype lang = filled_or lc_all (filled_or lc_ctype lang)
