-- The addresses of many sets together. `In` is the addresses of one of them: `IsMember` for values of `IpSet`.
use Rattle.std.specs.Prelude.{List, [], ◌∷◌, All, Any}
use Rattle.ipnet_base.specs.Address.{Address}

-- The address is in one of the sets at least.
-- Example: 10.0.0.9 for 10.0.0.0 to 10.0.0.5 and 10.0.0.4 to 10.0.0.9.
abbrev pub IsInSome : {L : Type 0} → (L → Address → Type 0) → List L → Address → Type 0
IsInSome In sets x = Any (λ l. In l x) sets

-- The address is in every set, and there is a set.
-- Example: 10.0.0.4 and 10.0.0.5 for 10.0.0.0 to 10.0.0.5 and 10.0.0.4 to 10.0.0.9.
abbrev pub IsInEach : {L : Type 0} → (L → Address → Type 0) → List L → Address → Type 0
IsInEach In [] x = ⊥
IsInEach In (first ∷ others) x = In first x × All (λ l. In l x) others
