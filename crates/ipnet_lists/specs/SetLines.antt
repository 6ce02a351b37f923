-- The lines of a set: its fewest networks, or its fewest ranges, one a line.
use Rattle.std.specs.Prelude.{◌≡◌, ℕ, List, [], ◌∷◌, ◌++◌, codes}
use Rattle.ipnet_base.specs.Address.{Address}
use Rattle.ipnet_base.specs.Network.{Network}
use Rattle.ipnet_base.specs.Blocks.{AreMaximalBlocks}
use Rattle.ipnet_base.specs.Ranges.{AddressRange}
use Rattle.ipnet.specs.CanonicalTexts.{address_text}
use Rattle.ipnet_sets.specs.SetRanges.{AreRangesOf}
use Rattle.ipnet_text.specs.LineTexts.{text_of_lines}

-- The first and the last address in canonical text, joined by "-". Example: `10.0.0.0-10.0.0.2`.
abbrev pub range_text : AddressRange → List ℕ
range_text r = address_text r.family r.start ++ codes "-" ++ address_text r.family r.end

-- The ranges in order, each followed by "\n" (10).
abbrev pub text_of_ranges : List AddressRange → List ℕ
text_of_ranges [] = []
text_of_ranges (r ∷ ranges) = range_text r ++ 10 ∷ [] ++ text_of_ranges ranges

-- The lines are the maximal blocks of the set. Example: `10.0.0.0/31`, `10.0.0.2/32` for 10.0.0.0 to 10.0.0.2.
pub record AreNetworkLines (InSet : Address → Type 0) (text : List ℕ) : Type 0 where
  pub blocks : List Network
  pub maximal : AreMaximalBlocks InSet 0 blocks
  pub spelled : text ≡ text_of_lines blocks

-- The lines are the fewest ranges of the set. Example: `10.0.0.0-10.0.0.2`.
pub record AreRangeLines (InSet : Address → Type 0) (text : List ℕ) : Type 0 where
  pub ranges : List AddressRange
  pub fewest : AreRangesOf InSet ranges
  pub spelled : text ≡ text_of_ranges ranges
