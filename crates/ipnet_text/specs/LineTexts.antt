-- A list of networks as text, one network per line.
use Rattle.std.specs.Prelude.{ℕ, List, [], ◌∷◌, ◌++◌}
use Rattle.ipnet.specs.Network.{Network}
use Rattle.ipnet.specs.CanonicalTexts.{canonical_text}

-- The canonical texts of the networks, in order, each followed by "\n" (10).
-- Example: the networks 10.0.0.0/23 and fd00::/32 have the text `"10.0.0.0/23\nfd00::/32\n"`.
abbrev pub text_of_lines : List Network → List ℕ
text_of_lines [] = []
text_of_lines (n ∷ networks) = canonical_text n ++ 10 ∷ [] ++ text_of_lines networks
