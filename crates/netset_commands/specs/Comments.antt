-- The comment in the title of an entry.
use Rattle.std.specs.Prelude.{◌≡◌, ◌≢◌, ◌≤◌, ◌⊎◌, ◌++◌, ◌&&◌, ◌==◌, ℕ, Bool, true, false, not, List, [], codes, length}
use Rattle.std.specs.List.{ends_with}

-- No colon of the text is before a blank.
abbrev pub HasNoColon : List ℕ → Type 0
HasNoColon text = (before after : List ℕ) → text ≢ before ++ (codes ": " ++ after)

-- The text has these parts before and after its first colon that is before a blank.
-- Example: `10.0.0.0/8` and `desks: new` of `10.0.0.0/8: desks: new`.
pub record IsSplitAtColon (text front rest : List ℕ) : Type 0 where
  pub parts : text ≡ front ++ (codes ": " ++ rest)
  pub first : (before after : List ℕ) → text ≡ before ++ (codes ": " ++ after) → length front ≤ length before

-- The part after that colon; empty if there is none.
abbrev pub IsAfterColon : List ℕ → List ℕ → Type 0
IsAfterColon text rest = (HasNoColon text × (rest ≡ [])) ⊎ ((front : List ℕ) × IsSplitAtColon text front rest)

-- The text ends with one colon.
abbrev pub ends_in_colon : List ℕ → Bool
ends_in_colon text = ends_with (λ a b. a == b) text (codes ":") && not (ends_with (λ a b. a == b) text (codes "::"))

-- The comment in a title whose parts at the first colon are these. A first part that ends with one colon is the
-- front of an address that ends with `::`, as in `2001:db8:: - 2001:db8::9`. Its comment is after the next such colon.
abbrev pub IsCommentAfter : (front rest comment : List ℕ) → Type 0
IsCommentAfter front rest comment = ((ends_in_colon front ≡ true) × IsAfterColon rest comment)
    ⊎ ((ends_in_colon front ≡ false) × (comment ≡ rest))

-- The comment in the title of an entry, which is its text, or its text and its comment with a colon between them.
-- Example: `desks` of `10.0.0.0/8: desks`, and nothing of `10.0.0.0/8`.
abbrev pub IsComment : (title comment : List ℕ) → Type 0
IsComment title comment = (HasNoColon title × (comment ≡ []))
    ⊎ ((front : List ℕ) × (rest : List ℕ) × IsSplitAtColon title front rest × IsCommentAfter front rest comment)
