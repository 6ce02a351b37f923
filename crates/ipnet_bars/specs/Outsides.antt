-- Outsides: how many addresses of a set a picture of a network does not show.
use Rattle.std.specs.Prelude.{◌≡◌, ℕ, zero, suc, List, [], ◌∷◌, ◌++◌, codes, decimal}
use Rattle.ipnet_base.specs.Address.{Family, IPv4, IPv6, Address}
use Rattle.ipnet_base.specs.Network.{Network, InBlock}
use Rattle.ipnet_sets.specs.Members.{IsCountOf}

-- The address is in the set, and not in the block.
-- Example: ::1 and 10.0.0.7 are outside 10.0.0.8/29, if the set is 10.0.0.7 to 10.0.0.9 and ::1.
pub record IsOutside (InSet : Address → Type 0) (n : Network) (x : Address) : Type 0 where
  pub out_of_block : ¬ (InBlock n x)
  pub in_set : InSet x

-- The address is outside, and of this family.
abbrev pub IsOutsideOf : Family → (Address → Type 0) → Network → Address → Type 0
IsOutsideOf f InSet n x = (x.family ≡ f) × IsOutside InSet n x

-- The line of the two numbers, after a sign. Example: `outside: IPv4 1, IPv6 1`, or `- outside: IPv4 1, IPv6 1`.
abbrev pub outside_line : List ℕ → ℕ → ℕ → List ℕ
outside_line sign ipv4 ipv6 =
    sign ++ codes "outside: IPv4 " ++ decimal ipv4 ++ codes ", IPv6 " ++ decimal ipv6 ++ 10 ∷ []

-- The line of the two numbers; nothing if both are 0.
abbrev pub outside_text : List ℕ → ℕ → ℕ → List ℕ
outside_text sign zero zero = []
outside_text sign zero (suc n) = outside_line sign zero (suc n)
outside_text sign (suc m) n = outside_line sign (suc m) n

-- The text says how many IPv4 and how many IPv6 addresses of the set are outside the network; it is empty if there are
-- none.
pub record IsOutsideText (InSet : Address → Type 0) (n : Network) (sign text : List ℕ) : Type 0 where
  pub ipv4 : ℕ
  pub of_ipv4 : IsCountOf (IsOutsideOf IPv4 InSet n) ipv4
  pub ipv6 : ℕ
  pub of_ipv6 : IsCountOf (IsOutsideOf IPv6 InSet n) ipv6
  pub spelled : text ≡ outside_text sign ipv4 ipv6
