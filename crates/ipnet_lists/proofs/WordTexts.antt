-- The first word of a text, and what follows it.
use Rattle.std.proofs.Common.{◌≡◌, ℕ, ◌-◌, ◌<◌, ◌≤◌, List, length, take, drop, get_or}
use Rattle.std.proofs.Common.{sym, ap, ◌∙◌, arith, true, false}
use Rattle.std.specs.Char.{is_ascii_whitespace}
use Rattle.std.specs.List.{position_or_len, prefix_len}
use Rattle.std.specs.Str.{IsTrimAsciiStart}
use Rattle.std.proofs.lemmas.List.Sums.{position_or_len_is}
use Rattle.std.proofs.lemmas.Str.Ascii.{trim_ascii_start_is}
use Rattle.ipnet_lists.specs.Words.{after_word}
use Rattle.ipnet_lists.proofs.CommentLaws.{behind}

-- what follows the first word, as it is cut
pub cut_rest : (text rest : List ℕ) (end : ℕ) → end ≡ position_or_len is_ascii_whitespace text
    → IsTrimAsciiStart (take (length text - end) (drop end text)) rest → rest ≡ after_word text
cut_rest text rest end is trimmed =
    trim_ascii_start_is (take (length text - end) (drop end text)) rest trimmed
    ∙ ap (λ z. drop (prefix_len is_ascii_whitespace z) z) (behind text end)
    ∙ ap (λ n. drop (prefix_len is_ascii_whitespace (drop n text)) (drop n text)) is

-- the index of the first blank
pub blank_at : (text : List ℕ) (i : ℕ) → i < length text
    → ((k : ℕ) → k < i → is_ascii_whitespace (get_or text k 0) ≡ false)
    → is_ascii_whitespace (get_or text i 0) ≡ true → i ≡ position_or_len is_ascii_whitespace text
blank_at text i within before found =
    sym (position_or_len_is is_ascii_whitespace text i 0 (omega (arith, within)) before (λ less. found))

pub no_blank : (text : List ℕ) (i : ℕ) → length text ≤ i
    → ((k : ℕ) → k < i → is_ascii_whitespace (get_or text k 0) ≡ false)
    → length text ≡ position_or_len is_ascii_whitespace text
no_blank text i past before =
    sym (position_or_len_is is_ascii_whitespace text (length text) 0 (omega arith)
    (λ k less. before k (omega (arith, past))) (λ less. absurd (omega (arith, less))))
