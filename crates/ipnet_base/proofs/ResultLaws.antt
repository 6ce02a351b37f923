-- Consequences of a test's result, and of a `Result`.
use Rattle.std.proofs.Common.{◌≡◌, ℕ, refl, Bool, true, false, IsTrue, ◌↔◌, Result, Ok, Err, IsErr}
use Rattle.ipnet_base.specs.Results.{IsOkExactlyAt}

-- if a call returns whether a fact holds: the fact that follows from each result
pub true_gives : {P : Type 0} (b : Bool) → IsTrue b ↔ P → b ≡ true → P
true_gives b h e = h.0 e

pub false_gives : {P : Type 0} (b : Bool) → IsTrue b ↔ P → b ≡ false → P → ⊥
false_gives b h e p = let true_too : b ≡ true = h.1 p in cc

-- what is never so is answered by no
pub never : (P : Type 0) → ¬ P → IsTrue false ↔ P
never P fails = (λ t. let wrong : false ≡ true = t in absurd (cc), λ p. absurd (fails p))

-- if a result is `Ok` of a number if and only if the number has a property, it is an error iff no number has it
pub error_where_none : {E : Type 0} (P : ℕ → Type 0) (result : Result ℕ E) → IsOkExactlyAt result P
    → IsErr result ↔ ((n : ℕ) → ¬ (P n))
error_where_none P (Ok n) h = (λ e. absurd (cc), λ none. absurd (none n ((h n).0 refl)))
error_where_none P (Err e) h = (λ _ n p. absurd (cc ((h n).1 p)), λ _. refl)
