-- The private steps of finding the place of an entry in a word.
-- Only private contracts use these.
use Rattle.std.specs.Prelude.{◌≡◌, ◌≢◌, ◌<◌, ◌≤◌, ◌==◌, ℕ, List, ◌∷◌, ◌++◌, length, Option, MatchOption}
use Rattle.std.specs.List.{after_first, before_first, count_by, position_or_len}
use Rattle.ipnet.specs.declared.parser.Grammar.{Grammar}
use Rattle.ipnet_lists.specs.Entries.{IsEntryText}
use Rattle.ipnet_lists.specs.EntryOf.{entry_range, IsWrittenAs}
use Rattle.netset_words.specs.declared.host.Place.{Place}

-- The text has no "::".
abbrev pub HasNoPair : List ℕ → Type 0
HasNoPair text = (front back : List ℕ) → text ≢ front ++ 58 ∷ 58 ∷ back

-- The text has fewer than seven ":", and no "::". Example: `12:34:56` and `aa:bb:cc:dd:ee:ff`, and not `::1`.
abbrev pub HasFewColons : List ℕ → Type 0
HasFewColons text = (count_by (λ b. b == 58) text ≤ 6) × HasNoPair text

-- The text also has fewer than three ".", so no part of it is an address: an IPv6 address without "::" has seven ":",
-- or ends in an IPv4 address. Example: `12:34:56` and `192.0.2`, and not `::1` or `192.0.2.7`.
abbrev pub HasFewSigns : List ℕ → Type 0
HasFewSigns text = (count_by (λ b. b == 46) text ≤ 2) × HasFewColons text

-- The text is cut at its first sign.
pub record AreParts (sign : ℕ) (text front back : List ℕ) : Type 0 where
  pub within : position_or_len (λ c. c == sign) text < length text
  pub front_is : front ≡ before_first (λ c. c == sign) text
  pub back_is : back ≡ after_first (λ c. c == sign) text

-- The text is such a place, and this is its entry.
pub record IsFound (grammar : Grammar) (IsSo : List ℕ → Type 0) (p : Place) : Type 0 where
  pub is : IsSo p.text.now
  pub entry : IsEntryText grammar p.text.now (entry_range p.entry)
  pub kind : IsWrittenAs grammar p.text.now p.entry

-- The result is such a place, or `None` if there is none.
abbrev pub Finds : Grammar → (List ℕ → Type 0) → Option Place → Type 0
Finds grammar IsSo result = MatchOption result ((place : List ℕ) → ¬ (IsSo place)) (IsFound grammar IsSo)
