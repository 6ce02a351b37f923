-- One network more on a list without host bits: what the loop that fills it keeps from turn to turn.
use Rattle.std.proofs.Common.{◌≡◌, ℕ, ◌+◌, ◌<◌, ◌≤◌, ◌⊎◌, ◌↔◌, List, [], ◌∷◌, ◌++◌, length, get_or, All, sym, ap}
use Rattle.std.proofs.Common.{◌∙◌, subst, arith, inl, inr, take}
use Rattle.std.proofs.lemmas.List.{length_push, get_or_append_left, take_more, take_all}
use Rattle.std.proofs.lemmas.List.Elements.{All-push}
use Rattle.ipnet_base.specs.Network.{truncation, Network, IsNetwork, InBlock, IsTruncated, AreHalves, IsSupernetOf}
use Rattle.ipnet_base.specs.Blocks.{HaveSameCover, IsCoveredBy}
use Rattle.ipnet_base.specs.Address.{Address}
use Rattle.ipnet_base.specs.Stack.{IsListWith}
use Rattle.ipnet_base.proofs.NetworkLaws.{truncation_in, in_truncation}
use Rattle.ipnet_base.proofs.CoverLaws.{cover_push, joined_cover}

-- Between two joins of networks in whatever order: none has a host bit, and the list and the next network cover what
-- the old list and the network that came do.
pub record IsAdding (old : List Network) (came : Network) (xs : List Network) (next : Network) : Type 0 where
  pub truncated : All IsTruncated xs
  pub next_truncated : IsTruncated next
  pub cover : (x : Address) → (IsCoveredBy xs x ⊎ InBlock next x) ↔ (IsCoveredBy old x ⊎ InBlock came x)

pub adding_start : (old : List Network) (came : Network) → All IsTruncated old → IsTruncated came
    → IsAdding old came old came
adding_start old came joined t = record { truncated = joined; next_truncated = t; cover = λ x. (λ h. h, λ h. h) }

pub adding_step : (old : List Network) (came : Network) (ys : List Network) (t next s : Network) → IsNetwork t
    → IsAdding old came (ys ++ t ∷ []) next → AreHalves t next → IsSupernetOf s t → IsAdding old came ys s
adding_step old came ys t next s u h halves p = record {
  truncated = λ k d l. subst IsTruncated (get_or_append_left ys (t ∷ []) d k l)
      (h.truncated k d (omega (arith, l, length_push ys t)));
  next_truncated = p.truncated;
  cover = λ x. let joined = joined_cover ys t next s u halves p x in
      (λ c. (h.cover x).0 (joined.0 c), λ c. joined.1 ((h.cover x).1 c));
}

pub adding_end : (old : List Network) (came : Network) (xs : List Network) (next : Network)
    → IsAdding old came xs next → IsListWith old came (xs ++ next ∷ [])
adding_end old came xs next h = record {
  truncated = All-push IsTruncated xs next h.truncated h.next_truncated;
  cover = λ x. let pushed = cover_push xs next x in (λ c. (h.cover x).0 (pushed.0 c), λ c. pushed.1 ((h.cover x).1 c));
}

-- the first i networks are in the list, except for their host bits
pub record IsListOfFirst (given : List Network) (i : ℕ) (list : List Network) : Type 0 where
  pub truncated : All IsTruncated list
  pub cover : (x : Address) → IsCoveredBy list x ↔ IsCoveredBy (take i given) x

pub list_of_first_more : (given : List Network) (i : ℕ) (came : Network) (list new : List Network) → i < length given
    → get_or given i came ≡ came
    → IsListOfFirst given i list → IsListWith list (truncation came) new → IsListOfFirst given (i + 1) new
list_of_first_more given i came list new l e h p = record {
  truncated = p.truncated;
  cover = λ x. (to x, from x);
}
  where
    more : take (i + 1) given ≡ take i given ++ came ∷ []
    more = take_more given i came l ∙ ap (λ z. take i given ++ z ∷ []) e

    to : (x : Address) → IsCoveredBy new x → IsCoveredBy (take (i + 1) given) x
    to x a = subst (λ z. IsCoveredBy z x) (sym more) ((cover_push (take i given) came x).1
        (elim ((p.cover x).0 a) [ inl b ↦ inl ((h.cover x).0 b) | inr b ↦ inr (truncation_in came x b) ]))

    from : (x : Address) → IsCoveredBy (take (i + 1) given) x → IsCoveredBy new x
    from x a = (p.cover x).1 (elim ((cover_push (take i given) came x).0 (subst (λ z. IsCoveredBy z x) more a)) [
      | inl b ↦ inl ((h.cover x).1 b)
      | inr b ↦ inr (in_truncation came x b)
    ])

pub list_of_first_whole : (given : List Network) (i : ℕ) (list : List Network) → length given ≤ i
    → IsListOfFirst given i list → HaveSameCover list given
list_of_first_whole given i list le h x =
    let all : take i given ≡ given = take_all i given le in (
      λ a. subst (λ z. IsCoveredBy z x) all ((h.cover x).0 a),
      λ a. (h.cover x).1 (subst (λ z. IsCoveredBy z x) (sym all) a),
    )
