-- Options without a value.
use Rattle.std.proofs.Common.{◌≢◌, Option, Some, None, MatchOption, refl}

-- what is known of an option that has no value
pub none_if : {X : Type 0} (o : Option X) (P : Type 0) (Q : X → Type 0) → ((x : X) → o ≢ Some x) → MatchOption o P Q → P
none_if None P Q out h = h
none_if (Some x) P Q out h = absurd (out x refl)
