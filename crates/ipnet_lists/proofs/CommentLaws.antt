-- The comment of a line, and the words in it.
use Rattle.std.proofs.Common.{◌≡◌, ◌≢◌, ◌↔◌, ℕ, ◌+◌, ◌-◌, ◌<◌, ◌≤◌, ◌==◌, Bool, IsTrue, true, false, List, []}
use Rattle.std.proofs.Common.{length, get_or, take, drop}
use Rattle.std.proofs.Common.{arith, refl, sym, ap, ◌∙◌, subst, inl, inr, take_all, length-drop}
use Rattle.std.specs.List.{before_first, list_any, position_or_len, prefix_len}
use Rattle.std.proofs.lemmas.Bool.{cases_order, false_from_ne_true}
use Rattle.std.proofs.lemmas.List.Sums.{position_or_len_is, prefix_len_is}
use Rattle.memchr.specs.Find.{NoneBefore, Nowhere, Passes, is_byte}
use Rattle.ipnet_base.proofs.ResultLaws.{false_gives}
use Rattle.ipnet_text.proofs.LineCuts.{empty_text}
use Rattle.ipnet_lists.specs.Comments.{IsCommentAt, Opens, BeginsWithEntry, BeginsWithRule, HidesEntry, comment_text}
use Rattle.ipnet_lists.specs.Entries.{HasReturn}
use Rattle.ipnet_lists.specs.Lists.{IsContents, IsUndivided, without_blanks}
use Rattle.ipnet_lists.specs.Words.{after_leading, ends_word, from_word}

-- no comment begins at one index more
pub none_opens : (line : List ℕ) (i : ℕ) → ((k : ℕ) → k < i → ¬ (Opens line k)) → ¬ (Opens line i) → (k : ℕ)
    → k < i + 1 → ¬ (Opens line k)
none_opens line i before not k less h =
    elim (cases_order k i) [
      | inl same ↦ not (subst (Opens line) same h)
      | inr (inl lower) ↦ before k lower h
      | inr (inr higher) ↦ absurd (omega (arith, less, higher))
    ]

pub word_ends : (bytes : List ℕ) (i : ℕ) → i < length bytes
    → ((k : ℕ) → k < i → ends_word (get_or bytes k 0) ≡ false) → ends_word (get_or bytes i 0) ≡ true
    → i ≡ position_or_len ends_word bytes
word_ends bytes i within before found =
    sym (position_or_len_is ends_word bytes i 0 (omega (arith, within)) before (λ less. found))

pub word_is_all : (bytes : List ℕ) (i : ℕ) → length bytes ≤ i
    → ((k : ℕ) → k < i → ends_word (get_or bytes k 0) ≡ false) → length bytes ≡ position_or_len ends_word bytes
word_is_all bytes i past before =
    sym (position_or_len_is ends_word bytes (length bytes) 0 (omega arith) (λ k less. before k (omega (arith, past)))
    (λ less. absurd (omega (arith, less))))

-- the length of a gap
pub gap_ends : (bytes : List ℕ) (i : ℕ) → i ≤ length bytes
    → ((k : ℕ) → k < i → ends_word (get_or bytes k 0) ≡ true)
    → (i < length bytes → ends_word (get_or bytes i 0) ≡ false) → i ≡ prefix_len ends_word bytes
gap_ends bytes i within before after = sym (prefix_len_is ends_word bytes i 0 within before after)

-- the bytes from an index on, as a slice
pub behind : (bytes : List ℕ) (i : ℕ) → take (length bytes - i) (drop i bytes) ≡ drop i bytes
behind bytes i =
    let all : length (drop i bytes) ≤ length bytes - i = omega (arith, length-drop i bytes) in
    take_all (length bytes - i) (drop i bytes) all

-- the text before a byte, or all of it
pub cut_at : (c : ℕ) (text : List ℕ) (i : ℕ) → NoneBefore (Passes (is_byte c) text) 0 (length text) i
    → Passes (is_byte c) text i → take i text ≡ before_first (λ b. b == c) text
cut_at c text i before found =
    ap (λ n. take n text)
    (sym (position_or_len_is (λ b. b == c) text i 0 (omega (arith, before.high))
    (λ k less. false_from_ne_true (get_or text k 0 == c) (before.before k (omega arith) less)) (λ less. found)))

pub cut_nowhere : (c : ℕ) (text : List ℕ) → Nowhere (Passes (is_byte c) text) 0 (length text)
    → text ≡ before_first (λ b. b == c) text
cut_nowhere c text none =
    sym (ap (λ n. take n text)
    (position_or_len_is (λ b. b == c) text (length text) 0 (omega arith)
    (λ k less. false_from_ne_true (get_or text k 0 == c) (none k (omega arith) less))
    (λ less. absurd (omega (arith, less))))
    ∙ take_all (length text) text (omega arith))

-- the text from its first word on, as it is cut
pub word_cut : (bytes : List ℕ) (gap : ℕ) → gap ≡ prefix_len ends_word bytes
    → take (length bytes - gap) (drop gap bytes) ≡ from_word bytes
word_cut bytes gap is = behind bytes gap ∙ ap (λ k. drop k bytes) is

-- the text from its second word on, as it is cut
pub second_cut : (bytes : List ℕ) (n g : ℕ) → n ≡ position_or_len ends_word bytes
    → g ≡ prefix_len ends_word (take (length bytes - n) (drop n bytes))
    → take (length (take (length bytes - n) (drop n bytes)) - g) (drop g (take (length bytes - n) (drop n bytes)))
    ≡ after_leading bytes
second_cut bytes n g first gap =
    word_cut (take (length bytes - n) (drop n bytes)) g gap
    ∙ ap from_word (behind bytes n)
    ∙ ap (λ k. from_word (drop k bytes)) first

-- it is within the text
pub second_within : (bytes : List ℕ) → length (after_leading bytes) ≤ length bytes
second_within bytes =
    let rest = drop (position_or_len ends_word bytes) bytes in
    omega (arith, length-drop (prefix_len ends_word rest) rest, length-drop (position_or_len ends_word bytes) bytes)

-- a text does not begin with an entry, so it has to begin with a rule
pub begins_so : (comment text : List ℕ) (entry rule : Bool) → comment ≢ [] → get_or comment 0 0 ≡ 59
    → text ≡ comment_text comment → IsTrue entry ↔ BeginsWithEntry text → entry ≡ false
    → IsTrue rule ↔ BeginsWithRule text → IsTrue rule ↔ HidesEntry comment
begins_so comment text entry rule some semicolon is first none second = (
  λ t. record {
    some = some;
    semicolon = semicolon;
    begins = inr (subst BeginsWithRule is (second.0 t));
  },
  λ h. elim h.begins [
    | inl e ↦ absurd (false_gives entry first none (subst BeginsWithEntry (sym is) e))
    | inr e ↦ second.1 (subst BeginsWithRule (sym is) e)
  ],
)

-- nothing is behind all of a line
behind_all : (line : List ℕ) → drop (length line) line ≡ []
behind_all line = empty_text (drop (length line) line) (omega (arith, length-drop (length line) line))

-- a line without a comment contains all that it is
pub whole_contents : (line whole : List ℕ) → IsCommentAt line (length line) → whole ≡ without_blanks line
    → IsContents line whole
whole_contents line whole comment is = of (list_any (λ b. b == 13) (without_blanks line)) refl
  where
    of : (t : Bool) → list_any (λ b. b == 13) (without_blanks line) ≡ t → IsContents line whole
    of true e = record { start = length line; comment = comment; is = inr (is, inl e) }
    of false e = record {
      start = length line;
      comment = comment;
      is = inl (
        is ∙ ap without_blanks (sym (take_all (length line) line (omega arith))),
        λ undivided. elim undivided [
          | inl broken ↦ absurd (let clash : true ≡ false = sym broken ∙ e in cc)
          | inr hides ↦ hides.1.some (behind_all line)
        ],
      );
    }

-- a line is divided at its comment if it has no carriage return between other bytes, and its comment hides no entry
pub divided : (line whole : List ℕ) (start : ℕ) (has : Bool) → whole ≡ without_blanks line
    → has ≡ list_any (λ b. b == 13) whole → has ≡ false
    → ¬ ((without_blanks (take start line) ≢ []) × HidesEntry (drop start line)) → ¬ (IsUndivided line start)
divided line whole start has is same none shown (inl broken) =
    let clash : true ≡ false = sym (subst HasReturn (sym is) broken) ∙ sym same ∙ none in
    absurd cc
divided line whole start has is same none shown (inr hides) = shown hides
