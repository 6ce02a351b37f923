-- One network more on a stack that shows the four conditions on neighbours: what the sweep of `aggregate` keeps from
-- turn to turn.
use Rattle.std.proofs.Common.{◌≡◌, ℕ, ◌+◌, ◌-◌, ◌<◌, ◌⊎◌, ◌↔◌, List, [], ◌∷◌, ◌++◌, length, get_or, Contains, All, refl}
use Rattle.std.proofs.Common.{sym, ap, ◌∙◌, subst, subst₂, arith, inl, inr, map, take, IsPermutation}
use Rattle.std.proofs.lemmas.List.{length_push, get_or_push, get_or_append_left, length-map, take_more, take_all}
use Rattle.std.proofs.lemmas.List.Elements.{All-push, All-weaker}
use Rattle.std.proofs.lemmas.List.Sorted.{IsPermutation-map}
use Rattle.ipnet_base.specs.Network.{Network, IsNetwork, InBlock, IsSubnetOf, IsTruncated, IsBefore, AreHalves}
use Rattle.ipnet_base.specs.Network.{IsSupernetOf}
use Rattle.ipnet_base.specs.Blocks.{HaveSameCover, IsCoveredBy}
use Rattle.ipnet_base.specs.Address.{Address}
use Rattle.ipnet_base.specs.Stack.{LiesBefore, AreJoined, IsBeforeOrEqual, IsInOrder, IsStackWith, IsStackOfFirst}
use Rattle.ipnet_base.proofs.BlockLaws.{own, own_in}
use Rattle.ipnet_base.proofs.OrderLaws.{IsBeforeOrEqual-transitive}
use Rattle.ipnet_base.proofs.ListLaws.{adjacent_push, any_from_contains, at_place}
use Rattle.ipnet_base.proofs.CoverLaws.{cover_push, cover_permutation, joined_cover}
use Rattle.ipnet_base.proofs.EndLaws.{ends_before_next, supernet_start, ends_before_supernet}

stack_truncated : (xs : List Network) (n : Network) → AreJoined xs → IsTruncated n → All IsTruncated (xs ++ n ∷ [])
stack_truncated xs n joined t = All-push IsTruncated xs n joined.truncated t

-- the conditions hold with one more network, if the last one ends before it and is not its other half
pub neighbours_push : (xs : List Network) (n : Network) → AreJoined xs → IsTruncated n
    → ((d : Network) → 0 < length xs → LiesBefore (get_or xs (length xs - 1) d) n)
    → ((d : Network) → 0 < length xs → ¬ (AreHalves (get_or xs (length xs - 1) d) n))
    → AreJoined (xs ++ n ∷ [])
neighbours_push xs n joined t ends halves = record {
  truncated = stack_truncated xs n joined t;
  apart = adjacent_push LiesBefore xs n joined.apart ends;
  unjoined = adjacent_push (λ a b. ¬ (AreHalves a b)) xs n joined.unjoined halves;
}

-- and with the last one gone
neighbours_pop : (xs : List Network) (n : Network) → AreJoined (xs ++ n ∷ []) → AreJoined xs
neighbours_pop xs n joined = record {
  truncated = λ k d l. subst IsTruncated (get_or_append_left xs (n ∷ []) d k l)
      (joined.truncated k d (omega (arith, l, length_push xs n)));
  apart = λ k d l. subst₂ LiesBefore (get_or_append_left xs (n ∷ []) d k (omega (arith, l)))
      (get_or_append_left xs (n ∷ []) d (k + 1) l) (joined.apart k d (omega (arith, l, length_push xs n)));
  unjoined = λ k d l. subst₂ (λ a b. ¬ (AreHalves a b)) (get_or_append_left xs (n ∷ []) d k (omega (arith, l)))
      (get_or_append_left xs (n ∷ []) d (k + 1) l) (joined.unjoined k d (omega (arith, l, length_push xs n)));
}

-- the supernet of two halves comes before the first of them
supernet_before : (s t : Network) → IsSupernetOf s t → s.number ≡ t.number → IsBefore s t
supernet_before s t p e = inr (sym (p.contains (own t) (own_in t)).same_family, inr (e, omega (arith, p.shorter)))

-- the last of a list that has one ends before the network
abbrev LastLiesBefore : List Network → Network → Type 0
LastLiesBefore xs n = (d : Network) → 0 < length xs → LiesBefore (get_or xs (length xs - 1) d) n

-- Between two joins: the stack meets the conditions and ends before the next network, all of it comes no later than
-- the new network, and its cover is the cover of the old stack and of the new network.
pub record IsJoining (old : List Network) (came : Network) (xs : List Network) (next : Network) : Type 0 where
  pub joined : AreJoined xs
  pub truncated : IsTruncated next
  pub ends : LastLiesBefore xs next
  pub order : All (λ m. IsBeforeOrEqual m came) xs
  pub next_order : IsBeforeOrEqual next came
  pub cover : (x : Address) → (IsCoveredBy xs x ⊎ InBlock next x) ↔ (IsCoveredBy old x ⊎ InBlock came x)

pub joining_start : (old : List Network) (came : Network) → All IsNetwork old → IsNetwork came → AreJoined old
    → IsTruncated came
    → All (λ m. IsBeforeOrEqual m came) old
    → ((d : Network) → 0 < length old → IsSubnetOf came (get_or old (length old - 1) d) → ⊥)
    → IsJoining old came old came
joining_start old came valid u joined t order out = record {
  joined = joined;
  truncated = t;
  ends = λ d l.
      ends_before_next (get_or old (length old - 1) d) came (valid (length old - 1) d (omega arith)) u
      (joined.truncated (length old - 1) d (omega arith)) t (order (length old - 1) d (omega arith)) (out d l);
  order = order;
  next_order = inl refl;
  cover = λ x. (λ h. h, λ h. h);
}

pub joining_step : (old : List Network) (came : Network) (ys : List Network) (t next s : Network) → IsNetwork t
    → IsJoining old came (ys ++ t ∷ []) next → AreHalves t next → IsSupernetOf s t → IsJoining old came ys s
joining_step old came ys t next s u h halves p = record {
  joined = neighbours_pop ys t h.joined;
  truncated = p.truncated;
  ends = λ d l.
      let inner : length ys - 1 + 1 ≡ length ys = omega arith in
      let pair : LiesBefore (get_or (ys ++ t ∷ []) (length ys - 1) d) (get_or (ys ++ t ∷ []) (length ys - 1 + 1) d) =
      h.joined.apart (length ys - 1) d (omega (arith, length_push ys t)) in
      ends_before_supernet (get_or ys (length ys - 1) d) s t p start
      (subst₂ LiesBefore (get_or_append_left ys (t ∷ []) d (length ys - 1) (omega arith))
      (get_or_push ys t d (length ys - 1 + 1) (sym inner)) pair);
  order = λ k d l. subst (λ m. IsBeforeOrEqual m came) (get_or_append_left ys (t ∷ []) d k l)
      (h.order k d (omega (arith, l, length_push ys t)));
  next_order = IsBeforeOrEqual-transitive s t came (inr (supernet_before s t p start)) t_order;
  cover = λ x. let joined = joined_cover ys t next s u halves p x in
      (λ c. (h.cover x).0 (joined.0 c), λ c. joined.1 ((h.cover x).1 c));
}
  where
    last_is : (d : Network) → get_or (ys ++ t ∷ []) (length (ys ++ t ∷ []) - 1) d ≡ t
    last_is d = get_or_push ys t d (length (ys ++ t ∷ []) - 1) (omega (arith, length_push ys t))

    t_ends : LiesBefore t next
    t_ends = subst (λ m. LiesBefore m next) (last_is t) (h.ends t (omega (arith, length_push ys t)))

    t_truncated : IsTruncated t
    t_truncated = subst IsTruncated (last_is t)
        (h.joined.truncated (length (ys ++ t ∷ []) - 1) t (omega (arith, length_push ys t)))

    t_order : IsBeforeOrEqual t came
    t_order = subst (λ m. IsBeforeOrEqual m came) (last_is t)
        (h.order (length (ys ++ t ∷ []) - 1) t (omega (arith, length_push ys t)))

    start : s.number ≡ t.number
    start = supernet_start s t next u p halves t_truncated h.truncated t_ends

pub joining_end : (old : List Network) (came : Network) (xs : List Network) (next : Network)
    → IsJoining old came xs next
    → ((d : Network) → 0 < length xs → ¬ (AreHalves (get_or xs (length xs - 1) d) next))
    → IsStackWith old came (xs ++ next ∷ [])
joining_end old came xs next h no_half = record {
  joined = neighbours_push xs next h.joined h.truncated h.ends no_half;
  order = All-push (λ m. IsBeforeOrEqual m came) xs next h.order h.next_order;
  cover = λ x. let pushed = cover_push xs next x in (λ c. (h.cover x).0 (pushed.0 c), λ c. pushed.1 ((h.cover x).1 c));
}

-- if the last network covers the new one, nothing changes
pub stack_covers : (old : List Network) (came : Network) (top : Network) → AreJoined old
    → All (λ m. IsBeforeOrEqual m came) old
    → Contains old top → IsSubnetOf came top → IsStackWith old came old
stack_covers old came top joined order c sub = record {
  joined = joined;
  order = order;
  cover = λ x. (λ h. inl h, from x);
}
  where
    from : (x : Address) → IsCoveredBy old x ⊎ InBlock came x → IsCoveredBy old x
    from x (inl h) = h
    from x (inr a) = any_from_contains (λ m. InBlock m x) old top c (sub x a)

-- one network more is on the stack
pub stack_of_first_more : (networks : List Network) (i : ℕ) (came : Network) (stack new : List Network)
    → IsInOrder networks → i < length networks → get_or networks i came ≡ came
    → IsStackOfFirst networks i stack → IsStackWith stack came new → IsStackOfFirst networks (i + 1) new
stack_of_first_more networks i came stack new sorted l e h p = record {
  joined = p.joined;
  order = λ j d le m. All-weaker (λ k. IsBeforeOrEqual k came) (λ k. IsBeforeOrEqual k (get_or networks j d)) (λ k a.
      IsBeforeOrEqual-transitive k came (get_or networks j d) a
      (subst (λ z. IsBeforeOrEqual z (get_or networks j d)) (at_place networks i d came l ∙ e)
      (sorted i j d (omega (arith, le)) m))) new p.order;
  cover = λ x. (to x, from x);
}
  where
    more : take (i + 1) networks ≡ take i networks ++ came ∷ []
    more = take_more networks i came l ∙ ap (λ z. take i networks ++ z ∷ []) e

    to : (x : Address) → IsCoveredBy new x → IsCoveredBy (take (i + 1) networks) x
    to x a = subst (λ z. IsCoveredBy z x) (sym more) ((cover_push (take i networks) came x).1
        (elim ((p.cover x).0 a) [ inl b ↦ inl ((h.cover x).0 b) | inr b ↦ inr b ]))

    from : (x : Address) → IsCoveredBy (take (i + 1) networks) x → IsCoveredBy new x
    from x a = (p.cover x).1 (elim ((cover_push (take i networks) came x).0 (subst (λ z. IsCoveredBy z x) more a)) [
      | inl b ↦ inl ((h.cover x).1 b)
      | inr b ↦ inr b
    ])

-- the stack of the whole sorted list covers the same addresses as the list before it was sorted
pub stack_of_first_whole : {X : Type 0} (net : X → Network) (made sorted answer : List X) → IsPermutation made sorted
    → IsStackOfFirst (map net sorted) (length sorted) (map net answer)
    → HaveSameCover (map net answer) (map net made)
stack_of_first_whole net made sorted answer p h x =
    let all : take (length sorted) (map net sorted) ≡ map net sorted =
    take_all (length sorted) (map net sorted) (omega (arith, length-map sorted net)) in
    let same : IsCoveredBy (map net sorted) x ↔ IsCoveredBy (map net made) x =
    cover_permutation (map net made) (map net sorted) (IsPermutation-map net made sorted p) x in (
      λ a. same.0 (subst (λ z. IsCoveredBy z x) all ((h.cover x).0 a)),
      λ a. (h.cover x).1 (subst (λ z. IsCoveredBy z x) (sym all) (same.1 a)),
    )
