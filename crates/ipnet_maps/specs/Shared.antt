-- Things that two members of a list have in common.
use Rattle.std.specs.Prelude.{◌⊎◌, List, [], ◌∷◌, Any}

-- Two members of the list, at different places, have the property.
-- Example: in the list 1, 2, 4, two are even, and not two are odd.
abbrev pub IsInTwo : {X : Type 0} → (X → Type 0) → List X → Type 0
IsInTwo HasProperty [] = ⊥
IsInTwo HasProperty (x ∷ xs) = (HasProperty x × Any HasProperty xs) ⊎ IsInTwo HasProperty xs
