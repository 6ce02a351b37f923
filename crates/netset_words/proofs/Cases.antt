-- The cases of a result.
use Rattle.std.proofs.Common.{◌≡◌, Option, Some, None, MatchOption, refl, subst}

pub match_some : {A : Type 0} (o : Option A) (x : A) (P : Type 0) (Q : A → Type 0) → MatchOption o P Q
    → o ≡ Some x → Q x
match_some o x P Q h is = subst (λ z. MatchOption z P Q) is h

pub match_none : {A : Type 0} (o : Option A) (P : Type 0) (Q : A → Type 0) → MatchOption o P Q
    → ((x : A) → o ≡ Some x → ⊥) → P
match_none None P Q h none = h
match_none (Some x) P Q h none = absurd (none x refl)
