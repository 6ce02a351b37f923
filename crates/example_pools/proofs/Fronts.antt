-- A property of all subnets of a block is also a property of the first of them.
use Rattle.std.proofs.Common.{ℕ, zero, suc, List, [], ◌∷◌, take, arith}
use Rattle.std.specs.Prelude.{All, AllPairs}
use Rattle.std.proofs.lemmas.List.Elements.{All-take, All-contains_itself}
use Rattle.std.proofs.lemmas.List.Kept.{AllPairs-cons}
use Rattle.ipnet.specs.Network.{Network}
use Rattle.ipnet.specs.NetworkParts.{IsSubnetOfLength, AreSubnetsOfLength}

pub first_are_subnets : (block : Network) (prefix_len count : ℕ) (all : List Network)
    → AreSubnetsOfLength block prefix_len all → All (IsSubnetOfLength block prefix_len) (take count all)
first_are_subnets block prefix_len count all subnets = All-take (IsSubnetOfLength block prefix_len) count all
    (λ i d within. (subnets.members _).0 (All-contains_itself all i d within))

-- each two items of a front are two items of the list
pub AllPairs-take : {X : Type 0} (R : X → X → Type 0) (count : ℕ) (all : List X) → AllPairs R all
    → AllPairs R (take count all)
AllPairs-take R zero all pairs = λ i j d before within. absurd (omega arith)
AllPairs-take R (suc n) [] pairs = pairs
AllPairs-take R (suc n) (x ∷ xs) pairs =
    AllPairs-cons R x (take n xs)
    (All-take (R x) n xs (λ i d within. pairs zero (suc i) d (omega arith) (omega arith)))
    (AllPairs-take R n xs (λ i j d before within. pairs (suc i) (suc j) d (omega arith) (omega arith)))
