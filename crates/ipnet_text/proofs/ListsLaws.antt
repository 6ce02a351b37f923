-- The networks of two lists, one for each family: what they cover after one more, and their aggregates.
use Rattle.std.proofs.Common.{◌≡◌, inl, inr, subst, List, [], ◌∷◌, ◌++◌, map, Ok, Err, refl, sym, append_assoc}
use Rattle.std.proofs.Common.{Result, OnOk}
use Rattle.std.proofs.lemmas.List.Elements.{All-map}
use Rattle.ipnet.specs.Address.{IPv4, IPv6}
use Rattle.ipnet.specs.Network.{Network}
use Rattle.ipnet.specs.Blocks.{HaveSameCover, IsAggregateOf}
use Rattle.ipnet.specs.NetworkOf.{ipv4_network, ipv6_network}
use Rattle.ipnet.specs.declared.net.ipv4_net.Ipv4Net.{Ipv4Net}
use Rattle.ipnet.specs.declared.net.ipv6_net.Ipv6Net.{Ipv6Net}
use Rattle.ipnet.proofs.SeparationLaws.{aggregate_of_families}
use Rattle.ipnet.proofs.CoverLaws.{cover_append_left, cover_append_right, cover_append_cases, HaveSameCover-append}
use Rattle.ipnet.proofs.CoverLaws.{HaveSameCover-trans, HaveSameCover-sym}

-- the aggregates of the two families are together the aggregate of all
pub both_families : (ipv4 blocks4 : List Ipv4Net) (ipv6 blocks6 : List Ipv6Net)
    → IsAggregateOf (map ipv4_network blocks4) (map ipv4_network ipv4)
    → IsAggregateOf (map ipv6_network blocks6) (map ipv6_network ipv6)
    → IsAggregateOf (map ipv4_network blocks4 ++ map ipv6_network blocks6)
    (map ipv4_network ipv4 ++ map ipv6_network ipv6)
both_families ipv4 blocks4 ipv6 blocks6 =
    aggregate_of_families (map ipv4_network ipv4) (map ipv6_network ipv6)
    (map ipv4_network blocks4) (map ipv6_network blocks6)
    (All-map (λ n. n.family ≡ IPv4) ipv4_network ipv4 (λ k d l. refl))
    (All-map (λ n. n.family ≡ IPv6) ipv6_network ipv6 (λ k d l. refl))

-- one network more in front of the networks of the second list, and the same after both
cover_moved : (a b : List Network) (n : Network) → HaveSameCover ((a ++ n ∷ []) ++ b) ((a ++ b) ++ n ∷ [])
cover_moved a b n x = (
  λ p. elim (cover_append_cases (a ++ n ∷ []) b x p) [
    | inl l ↦ elim (cover_append_cases a (n ∷ []) x l) [
      | inl m ↦ cover_append_left (a ++ b) (n ∷ []) x (cover_append_left a b x m)
      | inr m ↦ cover_append_right (a ++ b) (n ∷ []) x m
    ]
    | inr r ↦ cover_append_left (a ++ b) (n ∷ []) x (cover_append_right a b x r)
  ],
  λ p. elim (cover_append_cases (a ++ b) (n ∷ []) x p) [
    | inl l ↦ elim (cover_append_cases a b x l) [
      | inl m ↦ cover_append_left (a ++ n ∷ []) b x (cover_append_left a (n ∷ []) x m)
      | inr m ↦ cover_append_right (a ++ n ∷ []) b x m
    ]
    | inr r ↦ cover_append_left (a ++ n ∷ []) b x (cover_append_right a (n ∷ []) x r)
  ],
)

-- the cover of both families, if the list of the first covers one network more, or the list of the second
pub first_covers_more : (a new b : List Network) (n : Network) → HaveSameCover new (a ++ n ∷ [])
    → HaveSameCover (new ++ b) ((a ++ b) ++ n ∷ [])
first_covers_more a new b n h =
    HaveSameCover-trans (new ++ b) ((a ++ n ∷ []) ++ b) ((a ++ b) ++ n ∷ [])
    (HaveSameCover-append new b (a ++ n ∷ []) b h (λ x. (λ c. c, λ c. c))) (cover_moved a b n)

pub second_covers_more : (a b new : List Network) (n : Network) → HaveSameCover new (b ++ n ∷ [])
    → HaveSameCover (a ++ new) ((a ++ b) ++ n ∷ [])
second_covers_more a b new n h =
    subst (HaveSameCover (a ++ new)) (sym (append_assoc a b (n ∷ [])))
    (HaveSameCover-append a new a (b ++ n ∷ []) (λ x. (λ c. c, λ c. c)) h)

-- networks with the same cover, after one more
pub taken_covers_more : (networks old new : List Network) (n : Network) → HaveSameCover new (old ++ n ∷ [])
    → HaveSameCover networks old → HaveSameCover (networks ++ n ∷ []) new
taken_covers_more networks old new n pushed same =
    HaveSameCover-trans (networks ++ n ∷ []) (old ++ n ∷ []) new
    (HaveSameCover-append networks (n ∷ []) old (n ∷ []) same (λ x. (λ c. c, λ c. c)))
    (HaveSameCover-sym new (old ++ n ∷ []) pushed)

pub OnOk_then : {T E P Q : Type 0} (r : Result T E) → OnOk r P → (P → Q) → OnOk r Q
OnOk_then (Ok x) h then = then h
OnOk_then (Err e) h then = h

-- ---- no network at all

-- two lists that have none together have none each
pub no_ipv4 : (ipv4 : List Ipv4Net) (ipv6 : List Ipv6Net) → map ipv4_network ipv4 ++ map ipv6_network ipv6 ≡ []
    → ipv4 ≡ []
no_ipv4 [] ipv6 e = refl
no_ipv4 (n ∷ ipv4) ipv6 e = absurd cc

pub no_ipv6 : (ipv4 : List Ipv4Net) (ipv6 : List Ipv6Net) → map ipv4_network ipv4 ++ map ipv6_network ipv6 ≡ []
    → ipv6 ≡ []
no_ipv6 [] [] e = refl
no_ipv6 [] (n ∷ ipv6) e = absurd cc
no_ipv6 (n ∷ ipv4) ipv6 e = absurd cc
