-- The ends of a network's range.
use Rattle.std.proofs.Common.{◌≡◌, ℕ}
use Rattle.ipnet_base.specs.Address.{Family, Address, address_at}
use Rattle.ipnet_base.specs.Network.{Network}
use Rattle.ipnet_base.specs.Network.{IsLeastOf, IsGreatestOf, first_of, last_of}
use Rattle.ipnet_base.proofs.BlockLaws.{first_from_least, last_from_greatest}

-- the ends of a network's range are its least and its greatest address
address_from_parts : (x : Address) (family : Family) (number : ℕ) → x.family ≡ family → x.number ≡ number
    → x ≡ address_at family number
address_from_parts x family number f a = λ i. record { family = f i; number = a i }

pub least_is_first : (n : Network) (x : Address) → IsLeastOf n x → x ≡ address_at n.family (first_of n)
least_is_first n x h = address_from_parts x n.family (first_of n) h.inside.same_family (first_from_least n x h)

pub greatest_is_last : (n : Network) (x : Address) → IsGreatestOf n x → x ≡ address_at n.family (last_of n)
greatest_is_last n x h = address_from_parts x n.family (last_of n) h.inside.same_family (last_from_greatest n x h)
