-- Dashes between entries, and text after an entry.
use Rattle.std.proofs.Common.{◌≡◌, ◌↔◌, ℕ, ◌<◌, ◌≤◌, ◌==◌, Bool, IsTrue, true, false, List, length, drop, get_or}
use Rattle.std.proofs.Common.{sym, arith}
use Rattle.std.specs.List.{before_first, position_or_len}
use Rattle.std.proofs.lemmas.List.Sums.{position_or_len_is}
use Rattle.ipnet_lists.specs.Causes.{IsDashed, IsSomeEntry, from_dash, is_long_dash}
use Rattle.ipnet_lists.specs.Entries.{after_blanks, before_blanks}

-- the first byte 226
pub dash_at : (text : List ℕ) (i : ℕ) → i < length text
    → ((k : ℕ) → k < i → (get_or text k 0 == 226) ≡ false) → (get_or text i 0 == 226) ≡ true
    → i ≡ position_or_len (λ b. b == 226) text
dash_at text i within before found =
    sym (position_or_len_is (λ b. b == 226) text i 0 (omega (arith, within)) before (λ less. found))

pub no_dash : (text : List ℕ) (i : ℕ) → length text ≤ i
    → ((k : ℕ) → k < i → (get_or text k 0 == 226) ≡ false) → length text ≡ position_or_len (λ b. b == 226) text
no_dash text i past before =
    sym (position_or_len_is (λ b. b == 226) text (length text) 0 (omega arith)
    (λ k less. before k (omega (arith, less, past))) (λ less. absurd (omega (arith, less))))

-- two entries around a dash
pub dashed_is : (text : List ℕ) (one two : Bool) → is_long_dash (from_dash text) ≡ true
    → (IsTrue one ↔ IsSomeEntry (before_blanks (before_first (λ b. b == 226) text))) → one ≡ true
    → (IsTrue two ↔ IsSomeEntry (after_blanks (drop 3 (from_dash text)))) → IsTrue two ↔ IsDashed text
dashed_is text one two dash first holds last = (
  λ e. record { dash = dash; first = first.0 holds; last = last.0 e },
  λ p. last.1 p.last,
)
