-- Networks that follow each other in a list, joined: the list still covers the same addresses.
use Rattle.std.proofs.Common.{◌++◌, ◌∷◌, [], List, sym, subst, append_assoc}
use Rattle.ipnet.specs.Network.{Network, IsNetwork, AreHalves, IsSupernetOf}
use Rattle.ipnet.specs.Blocks.{HaveSameCover}
use Rattle.ipnet.proofs.CoverLaws.{HaveSameCover-sym, HaveSameCover-trans, HaveSameCover-append, cover_of_joined}

-- the supernet of two halves, in the place of both
pub cover_of_halves : (s n k : Network) → IsNetwork n → IsSupernetOf s n → AreHalves n k
    → HaveSameCover (s ∷ []) (n ∷ k ∷ [])
cover_of_halves s n k valid supernet halves =
    HaveSameCover-sym (n ∷ k ∷ []) (s ∷ []) (cover_of_joined s n k [] valid supernet halves)

-- the last network of a list and one more, with the one network in the place of both
pub cover_of_last_joined : (front given : List Network) (last next whole : Network)
    → HaveSameCover ((front ++ last ∷ []) ++ next ∷ []) given → HaveSameCover (whole ∷ []) (last ∷ next ∷ [])
    → HaveSameCover (front ++ whole ∷ []) given
cover_of_last_joined front given last next whole covered joined =
    HaveSameCover-trans (front ++ whole ∷ []) ((front ++ last ∷ []) ++ next ∷ []) given
    (subst (HaveSameCover (front ++ whole ∷ [])) (sym (append_assoc front (last ∷ []) (next ∷ [])))
    (HaveSameCover-append front (whole ∷ []) front (last ∷ next ∷ []) (λ x. (λ a. a, λ a. a)) joined))
    covered
