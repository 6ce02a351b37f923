-- The facts about several networks as text.
use Rattle.std.specs.Prelude.{◌≡◌, ℕ, List, [], ◌∷◌, ◌++◌, Bool, true, false, codes}
use Rattle.ipnet_base.specs.Network.{Network}
use Rattle.ipnet_info.specs.declared.facts.FactsForm.{FactsForm}
use Rattle.ipnet_info.specs.declared.facts.FactsForm.TheVariants.{Lines, Json}
use Rattle.ipnet_info.specs.Facts.{IsFactsText}

-- The text before the facts of a network: in lines an empty line, except before the first network.
abbrev pub gap : FactsForm → (is_first : Bool) → List ℕ
gap Json is_first = []
gap Lines true = []
gap Lines false = codes "\n"

-- The text is the facts about the networks, one network after another: lines with an empty line between, or a JSON
-- object on each line.
abbrev pub AreAllFacts : FactsForm → (is_first : Bool) → List Network → (text : List ℕ) → Type 0
AreAllFacts form is_first [] text = text ≡ []
AreAllFacts form is_first (n ∷ networks) text = (first : List ℕ) × (more : List ℕ) × IsFactsText form n first
    × AreAllFacts form false networks more × (text ≡ gap form is_first ++ first ++ more)
