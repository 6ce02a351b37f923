-- The titles of entries, and the comments in them.
use Rattle.std.proofs.Common.{◌≡◌, ℕ, ◌+◌, ◌<◌, ◌≤◌, List, [], ◌∷◌, ◌++◌, length, take, drop, codes, sym, ap}
use Rattle.std.proofs.Common.{◌∙◌, arith, cond, inl, inr, nat_lt}
use Rattle.std.specs.Str.Lossy.{utf8_lossy}
use Rattle.std.proofs.lemmas.Bool.{cases_order}
use Rattle.std.proofs.lemmas.List.{drop_all}
use Rattle.ipnet_bars.specs.ShortTexts.{IsShortened}
use Rattle.ipnet_lists.specs.Comments.{IsCommentAt}
use Rattle.ipnet_lists.specs.Lists.{without_blanks}
use Rattle.netset_entries.specs.NotedEntries.{IsCommentOf, IsTitleOf}

-- a line without a comment
pub no_comment : (line : List ℕ) (start : ℕ) → IsCommentAt line start → length line ≤ start → IsCommentOf line []
no_comment line start begins past = record {
  start = start;
  begins = begins;
  is = sym (ap without_blanks (drop_all (start + 1) line (omega (arith, past))));
}

-- a line with one
pub some_comment : (line comment : List ℕ) (start : ℕ) → IsCommentAt line start
    → comment ≡ without_blanks (drop (start + 1) line) → IsCommentOf line comment
some_comment line comment start begins is = record { start = start; begins = begins; is = is }

-- a title without a comment
pub plain_title : (text comment title : List ℕ) → length comment ≡ 0 → title ≡ text → IsTitleOf text comment title
plain_title text [] title none is = is
plain_title text (b ∷ comment) title none is = absurd (omega (arith, none))

-- a title with one
pub full_title : (text comment title short : List ℕ) → 0 < length comment → IsShortened (utf8_lossy comment) short
    → title ≡ (text ++ codes ": ") ++ short → IsTitleOf text comment title
full_title text [] title short some cut is = absurd (omega (arith, some))
full_title text (b ∷ comment) title short some cut is =
    (short, cut, is)

-- ---- a line has one comment, and one title

one_start : (line : List ℕ) (i j : ℕ) → IsCommentAt line i → IsCommentAt line j → i ≡ j
one_start line i j h k = elim (cases_order i j) [
  | inl e ↦ e
  | inr (inl less) ↦ absurd (k.first i less (h.opens (omega (arith, less, k.within))))
  | inr (inr less) ↦ absurd (h.first j less (k.opens (omega (arith, less, h.within))))
]

pub one_comment : (line comment other : List ℕ) → IsCommentOf line comment → IsCommentOf line other → comment ≡ other
one_comment line comment other h k =
    h.is
    ∙ ap (λ i. without_blanks (drop (i + 1) line)) (one_start line h.start k.start h.begins k.begins)
    ∙ sym k.is

one_short : (text short other : List ℕ) → IsShortened text short → IsShortened text other → short ≡ other
one_short text short other h k =
    let same : h.len ≡ k.len = elim (cases_order h.len k.len) [
      | inl e ↦ e
      | inr (inl less) ↦ absurd (h.longest k.len less k.few k.whole)
      | inr (inr less) ↦ absurd (k.longest h.len less h.few h.whole)
    ] in
    h.spelled ∙ ap (λ n. take n text ++ cond (nat_lt n (length text)) (codes "..") []) same ∙ sym k.spelled

pub one_title : (text comment title other : List ℕ) → IsTitleOf text comment title → IsTitleOf text comment other
    → title ≡ other
one_title text [] title other h k = h ∙ sym k
one_title text (b ∷ comment) title other (short, cut, is) (back, also, was) =
    is ∙ ap (λ z. text ++ codes ": " ++ z) (one_short (utf8_lossy (b ∷ comment)) short back cut also) ∙ sym was
