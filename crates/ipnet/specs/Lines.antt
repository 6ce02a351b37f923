-- The lines of a text, and the networks in them.
use Rattle.std.specs.Prelude.{◌≡◌, ◌≢◌, ℕ, ◌+◌, ◌⊎◌, List, [], ◌∷◌, ◌++◌, ◌==◌, length, All, if◌then◌else◌}
use Rattle.ipnet_base.specs.Network.{Network}
use Rattle.ipnet.specs.declared.parser.Grammar.{Grammar}
use Rattle.ipnet.specs.NetworkTexts.{IsNetworkText, WritesNone}

-- The lines with one more byte at the start of the first line.
-- Example: the byte of `1` and the lines `0`, `2` give the lines `10`, `2`.
abbrev pub onto_first_line : ℕ → List (List ℕ) → List (List ℕ)
onto_first_line b [] = (b ∷ []) ∷ []
onto_first_line b (line ∷ lines) = (b ∷ line) ∷ lines

-- The lines of a text, without the "\n" (10) that ends each. The bytes after the last "\n" are a line unless there are
-- none.
-- Example: `"10.0.1.0/24\n\n10.0.0.0/24"` has three lines, the second is empty; `"\n\n"` has two lines, `""` none.
abbrev pub lines_of : List ℕ → List (List ℕ)
lines_of [] = []
lines_of (b ∷ text) = if b == 10 then [] ∷ lines_of text else onto_first_line b (lines_of text)

-- The line is empty, or the text of a network. Example: `10.0.01.0/24` is good in the legacy grammar only.
abbrev pub IsGoodLine : Grammar → List ℕ → Type 0
IsGoodLine grammar line = (line ≡ []) ⊎ ((network : Network) × IsNetworkText grammar line network)

-- The line is not empty, and is not the text of a network.
-- Example: `x` and `10.0.0.0`.
abbrev pub IsBadLine : Grammar → List ℕ → Type 0
IsBadLine grammar line = (line ≢ []) × WritesNone (IsNetworkText grammar) line

-- The networks of the lines that are not empty, in order. If a line is bad, there is no such list.
-- Example: the lines `10.0.1.0/24`, an empty line and `10.0.0.0/24` have the networks 10.0.1.0/24, 10.0.0.0/24.
abbrev pub AreNetworksOf : Grammar → List (List ℕ) → List Network → Type 0
AreNetworksOf grammar [] networks = networks ≡ []
AreNetworksOf grammar ([] ∷ lines) networks = AreNetworksOf grammar lines networks
AreNetworksOf grammar ((b ∷ line) ∷ lines) [] = ⊥
AreNetworksOf grammar ((b ∷ line) ∷ lines) (network ∷ networks) =
    IsNetworkText grammar (b ∷ line) network × AreNetworksOf grammar lines networks

-- The line with this number is bad, and all lines before it are good. Line numbers start at 1 and count empty lines.
-- Example: for `10.0.0.0/24`, an empty line and `x` it is line 3.
pub record IsFirstBadLine (grammar : Grammar) (lines : List (List ℕ)) (number : ℕ) : Type 0 where
  pub before : List (List ℕ)
  pub line : List ℕ
  pub after : List (List ℕ)
  pub cut : lines ≡ before ++ line ∷ after
  pub number_is : number ≡ length before + 1
  pub good : All (IsGoodLine grammar) before
  pub bad : IsBadLine grammar line
