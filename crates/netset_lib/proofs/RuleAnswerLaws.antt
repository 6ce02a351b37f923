-- The lines of an answer over a list of rules.
use Rattle.std.proofs.Common.{◌≡◌, ◌<◌, ℕ, ◌+◌, zero, suc, List, [], ◌∷◌, ◌++◌, length, map, drop}
use Rattle.std.proofs.Common.{sym, ap, ◌∙◌, arith, append_assoc, append-nil, codes, get_or}
use Rattle.std.proofs.Common.{◌≤◌, Result, OnOk}
use Rattle.std.proofs.lemmas.List.{drop_more, drop_all}
use Rattle.ipnet_rules.specs.declared.unreached.Unreached.{Unreached}
use Rattle.ipnet_text.proofs.ListsLaws.{OnOk_then}
use Rattle.netset_lib.specs.RuleAnswers.{text_at, line_at, covering_lines, unreached_lines}
use Rattle.ipnet_lists.specs.ContentLines.{ContentLine}

-- the text of the item at an index of values
text_here : {V X : Type 0} (text_of : X → List ℕ) (seen : V → X) (values : List V) (i : ℕ) (v : V) → i < length values
    → v ≡ get_or values i v → text_of (seen v) ≡ text_at text_of (map seen values) i
text_here text_of seen [] i v less is = absurd (omega (arith, less))
text_here text_of seen (w ∷ values) zero v less is = ap (λ z. text_of (seen z)) is
text_here text_of seen (w ∷ values) (suc i) v less is = text_here text_of seen values i v (omega (arith, less)) is

-- that text is appended
pub appended_here : {V X T E : Type 0} (text_of : X → List ℕ) (seen : V → X) (values : List V) (i : ℕ) (v : V)
    (old new : List ℕ) (result : Result T E) → OnOk result (new ≡ old ++ text_of (seen v)) → i < length values
    → v ≡ get_or values i v → OnOk result (new ≡ old ++ text_at text_of (map seen values) i)
appended_here text_of seen values i v old new result appended less is =
    OnOk_then result appended (λ e. e ∙ ap (λ z. old ++ z) (text_here text_of seen values i v less is))

-- nothing is appended, since there is no item
pub appended_past : {V X : Type 0} (text_of : X → List ℕ) (seen : V → X) (values : List V) (i : ℕ) (old : List ℕ)
    → length values ≤ i → old ≡ old ++ text_at text_of (map seen values) i
appended_past text_of seen [] i old past = sym (append-nil old)
appended_past text_of seen (w ∷ values) zero old past = absurd (omega (arith, past))
appended_past text_of seen (w ∷ values) (suc i) old past =
    appended_past text_of seen values i old (omega (arith, past))

-- ---- lines, one after the other

pub cover_more : (lines : List ContentLine) (indexes : List ℕ) (i : ℕ) (old text indented new : List ℕ)
    → i < length indexes → indented ≡ text ++ codes "  " → new ≡ indented ++ line_at lines (get_or indexes i 0)
    → text ++ covering_lines lines (drop i indexes) ≡ old ++ covering_lines lines indexes
    → new ++ covering_lines lines (drop (i + 1) indexes) ≡ old ++ covering_lines lines indexes
cover_more lines indexes i old text indented new less e f h =
    let cut = drop_more indexes i 0 less in
    let rest = covering_lines lines (drop (i + 1) indexes) in
    let line = line_at lines (get_or indexes i 0) in
    ap (λ z. z ++ rest) (f ∙ ap (λ z. z ++ line) e ∙ append_assoc text (codes "  ") line)
    ∙ append_assoc text (codes "  " ++ line) rest
    ∙ ap (λ z. text ++ covering_lines lines z) (sym cut)
    ∙ h

pub unreached_more : (lines : List ContentLine) (found : List Unreached) (i : ℕ) (u : Unreached)
    (old text with_line new : List ℕ) → i < length found → u ≡ get_or found i u
    → with_line ≡ text ++ line_at lines u.rule → new ≡ with_line ++ covering_lines lines u.deciders.items
    → text ++ unreached_lines lines (drop i found) ≡ old ++ unreached_lines lines found
    → new ++ unreached_lines lines (drop (i + 1) found) ≡ old ++ unreached_lines lines found
unreached_more lines found i u old text with_line new less is e f h =
    let cut : drop i found ≡ u ∷ drop (i + 1) found =
    drop_more found i u less ∙ ap (λ z. z ∷ drop (i + 1) found) (sym is) in
    let rest = unreached_lines lines (drop (i + 1) found) in
    let covering = covering_lines lines u.deciders.items in
    let line = line_at lines u.rule in
    ap (λ z. z ++ rest) (f ∙ ap (λ z. z ++ covering) e ∙ append_assoc text line covering)
    ∙ append_assoc text (line ++ covering) rest
    ∙ ap (λ z. text ++ unreached_lines lines z) (sym cut)
    ∙ h

pub cover_all : (lines : List ContentLine) (indexes : List ℕ) (i : ℕ) (old text : List ℕ) → length indexes ≤ i
    → text ++ covering_lines lines (drop i indexes) ≡ old ++ covering_lines lines indexes
    → text ≡ old ++ covering_lines lines indexes
cover_all lines indexes i old text past h =
    sym (ap (λ z. text ++ covering_lines lines z) (drop_all i indexes past) ∙ append-nil text) ∙ h

pub unreached_all : (lines : List ContentLine) (found : List Unreached) (i : ℕ) (old text : List ℕ) → length found ≤ i
    → text ++ unreached_lines lines (drop i found) ≡ old ++ unreached_lines lines found
    → text ≡ old ++ unreached_lines lines found
unreached_all lines found i old text past h =
    sym (ap (λ z. text ++ unreached_lines lines z) (drop_all i found past) ∙ append-nil text) ∙ h
