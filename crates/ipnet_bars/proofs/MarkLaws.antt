-- The texts of marks, one more at a time.
use Rattle.std.proofs.Common.{◌≡◌, ℕ, ◌+◌, ◌<◌, List, [], ◌∷◌, ◌++◌, length, get_or, take, sym, ap, ◌∙◌}
use Rattle.std.proofs.Common.{append_assoc, append-nil}
use Rattle.std.proofs.lemmas.List.{take_more}
use Rattle.ipnet_bars.specs.declared.marks.Marks.{Marks}
use Rattle.ipnet_bars.specs.declared.share.Level.{Level}
use Rattle.ipnet_bars.specs.declared.share.Level.TheVariants.{Nothing}
use Rattle.ipnet_bars.specs.MarkTexts.{mark_text, marks_text}

marks_text-push : (marks : Marks) (levels : List Level) (level : Level)
    → marks_text marks (levels ++ level ∷ []) ≡ marks_text marks levels ++ mark_text marks level
marks_text-push marks [] level = append-nil (mark_text marks level)
marks_text-push marks (l ∷ levels) level =
    ap (λ t. mark_text marks l ++ t) (marks_text-push marks levels level)
    ∙ sym (append_assoc (mark_text marks l) (marks_text marks levels) (mark_text marks level))

-- the marks so far, and one more
pub one_mark_more : (marks : Marks) (levels : List Level) (i : ℕ) (old text new : List ℕ) → i < length levels
    → text ≡ old ++ marks_text marks (take i levels) → new ≡ text ++ mark_text marks (get_or levels i Nothing)
    → new ≡ old ++ marks_text marks (take (i + 1) levels)
one_mark_more marks levels i old text new less so_far pushed =
    let level = get_or levels i Nothing in
    pushed ∙ ap (λ z. z ++ mark_text marks level) so_far
    ∙ append_assoc old (marks_text marks (take i levels)) (mark_text marks level)
    ∙ ap (λ z. old ++ z)
    (sym (ap (marks_text marks) (take_more levels i Nothing less) ∙ marks_text-push marks (take i levels) level))
