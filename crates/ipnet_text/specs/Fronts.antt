-- The first line of bytes, and the groups at the front of bytes whose first line has no known end.
use Rattle.std.specs.Prelude.{◌≡◌, ℕ, ◌+◌, ◌<◌, ◌≤◌, List, [], ◌∷◌, length, take, drop, slice_index}
use Rattle.ipnet.specs.AddressTexts.{IsGroups, expanded}
use Rattle.ipnet.specs.Lines.{lines_of}
use Rattle.ipnet.specs.Network.{Network}

-- The first line of the bytes is a text of the network. It has this length, and a "\n" (10) after it.
-- Example: the first line of `"10.0.0.0/8\n::/0\n"` is a text of 10.0.0.0/8, and its length is 10.
pub record IsFirstLine (Writes : List ℕ → Network → Type 0) (bytes : List ℕ) (len : ℕ) (n : Network) : Type 0 where
  pub network : Writes (take len bytes) n
  pub newline : slice_index bytes len ≡ 10
  pub within : len < length bytes
  pub lines : lines_of bytes ≡ take len bytes ∷ lines_of (drop (len + 1) bytes)

-- The bytes begin with groups, in a text of this length, and then "::" (58, 58). With zeros after them, the groups are
-- the eight of an address.
-- Example: `"fd00:1::/32"` begins with fd00 and 1, in 6 bytes; the eight groups are fd00, 1, and six zeros.
pub record IsHead (bytes eight : List ℕ) (len : ℕ) : Type 0 where
  pub head : List ℕ
  pub spelled : IsGroups (take len bytes) head
  pub few : length head ≤ 4
  pub value : eight ≡ expanded head []
  pub first_colon : slice_index bytes len ≡ 58
  pub second_colon : slice_index bytes (len + 1) ≡ 58
