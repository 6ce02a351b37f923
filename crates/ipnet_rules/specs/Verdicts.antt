-- Lists of which the first entry that matches decides.
use Rattle.std.specs.Prelude.{◌≡◌, ◌⊎◌, List, [], ◌∷◌}
use Rattle.ipnet_rules.specs.declared.rules.Action.{Action}

-- The verdict on x is the action of the first entry that matches x, and the default if no entry matches x.
-- Example: the entries are `deny 10.0.1.128/25`, then `permit 10.0.0.0/23`, and the default is to deny. The first
-- decides on 10.0.1.200, which is denied. The second decides on 10.0.1.5, which is permitted. The default decides on
-- 8.8.8.8.
abbrev pub HasVerdict : {E X : Type 0} → (E → X → Type 0) → (E → Action) → Action → List E → X → Action → Type 0
HasVerdict Matches action_of default [] x verdict = verdict ≡ default
HasVerdict Matches action_of default (e ∷ entries) x verdict = (Matches e x × (verdict ≡ action_of e))
    ⊎ ((¬ (Matches e x)) × HasVerdict Matches action_of default entries x verdict)
