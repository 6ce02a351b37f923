-- Words that are read as values one after another.
use Rattle.std.proofs.Common.{◌≡◌, ◌<◌, ◌≤◌, ◌+◌, ◌++◌, ◌∷◌, [], ℕ, List, drop, length, get_or, subst, sym}
use Rattle.std.proofs.Common.{false, Result, Ok, Err, OnOk, is_err, is_ok, if◌then◌else◌}
use Rattle.std.proofs.Common.{append_assoc, append-nil}
use Rattle.std.proofs.lemmas.List.{drop_all, drop_more}
use Rattle.std.specs.Borrow.{Bor}
use Rattle.netset_commands.specs.Words.{AreReadAs}
use Rattle.ipnet_lists.specs.Names.{Names}

-- whatever the values of the other words are, these come before them
pub next_value : {T : Type 0} (Is : List ℕ → T → Type 0) (words : Names) (i : ℕ) (n : T) (values : List T)
    (word : Bor (List ℕ)) → i < length words → Is (get_or words i word).now n
    → ((rest : List T) → AreReadAs Is (drop i words) rest → AreReadAs Is words (values ++ rest))
    → (rest : List T) → AreReadAs Is (drop (i + 1) words) rest → AreReadAs Is words ((values ++ n ∷ []) ++ rest)
next_value {T} Is words i n values word inside is before rest others =
    let P : List T → Type 0 = λ all. AreReadAs Is words all in
    let Q : Names → Type 0 = λ left. AreReadAs Is left (n ∷ rest) in
    subst P (sym (append_assoc values (n ∷ []) rest))
    (before (n ∷ rest) (subst Q (sym (drop_more words i word inside)) (is, others)))

-- after the last word there are no other values
pub all_values : {T : Type 0} (Is : List ℕ → T → Type 0) (words : Names) (i : ℕ) (values : List T) → length words ≤ i
    → ((rest : List T) → AreReadAs Is (drop i words) rest → AreReadAs Is words (values ++ rest))
    → AreReadAs Is words values
all_values {T} Is words i values past before =
    let P : List T → Type 0 = λ all. AreReadAs Is words all in
    let Q : Names → Type 0 = λ left. AreReadAs Is left [] in
    let none : drop i words ≡ [] = drop_all i words past in
    subst P (append-nil values) (before [] (subst Q (sym none) tt))

-- a call that does not fail leaves the first of the two
pub if_ok : {T E X : Type 0} (r : Result T E) (new changed old : X) → is_err r ≡ false
    → new ≡ (if is_ok r then changed else old) → new ≡ changed
if_ok (Ok x) new changed old same h = h
if_ok (Err e) new changed old same h = absurd cc

-- what is so anyway is promised
pub anyway : {T E : Type 0} {P : Type 0} (r : Result T E) → P → OnOk r P
anyway (Ok x) h = h
anyway (Err e) h = tt
