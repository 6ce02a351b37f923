-- A list that is read from its front: what holds of each network read so far, and of each pair of them.
use Rattle.std.proofs.Common.{◌≡◌, ℕ, ◌+◌, ◌<◌, ◌≤◌, List, [], ◌∷◌, ◌++◌, length, get_or, map, take, Contains, All}
use Rattle.std.proofs.Common.{AllPairs}
use Rattle.std.proofs.Common.{sym, ap, ◌∙◌, subst, subst₂, arith, inl, inr}
use Rattle.std.proofs.lemmas.List.{length-map, length-take-le, get_or-map, get_or-take, map_more}
use Rattle.ipnet_base.specs.Network.{Network}
use Rattle.ipnet_base.proofs.ListLaws.{pairs_append, pairs_cons, contains_nil, contains_cases, all_at}

-- the list up to the next network
front_more : {X : Type 0} (f : X → Network) (xs : List X) (i : ℕ) (x : X) → i < length xs → x ≡ get_or xs i x
    → map f (take (i + 1) xs) ≡ map f (take i xs) ++ f x ∷ []
front_more f xs i x l e = map_more f xs i x l ∙ ap (λ z. map f (take i xs) ++ f z ∷ []) (sym e)

pub pairs_more : {X : Type 0} (R : Network → Network → Type 0) (f : X → Network) (xs : List X) (i : ℕ) (x : X)
    → i < length xs → x ≡ get_or xs i x → AllPairs R (map f (take i xs))
    → All (λ k. R k (f x)) (map f (take i xs)) → AllPairs R (map f (take (i + 1) xs))
pairs_more R f xs i x l e pairs all =
    subst (AllPairs R) (sym (front_more f xs i x l e))
    (pairs_append R (map f (take i xs)) (f x ∷ []) pairs one (λ a b c d.
    elim (contains_cases (f x) [] b d) [
      | inl same ↦ subst (R a) same (all_at (λ k. R k (f x)) (map f (take i xs)) all a c)
      | inr none ↦ absurd (contains_nil b none)
    ]))
  where
    one : AllPairs R (f x ∷ [])
    one = pairs_cons R (f x) [] (λ y c. absurd (contains_nil y c)) (λ j k d lt m. absurd (omega arith))

-- a network of the front
pub in_front : {X : Type 0} (f : X → Network) (xs : List X) (count i : ℕ) (x : X) → i < count → count ≤ length xs
    → x ≡ get_or xs i x → Contains (map f (take count xs)) (f x)
in_front f xs count i x l fits e =
    let size : length (take count xs) ≡ count = length-take-le count xs fits in (
      i,
      omega (arith, l, size, length-map (take count xs) f),
      get_or-map f (take count xs) i x (f x) (omega (arith, l, size)) ∙ ap f (get_or-take count xs i x l ∙ sym e),
    )

-- what holds of each pair holds of each network before another
pub all_before : {X : Type 0} (R : Network → Network → Type 0) (f : X → Network) (xs : List X) (i : ℕ) (x : X)
    → i < length xs → x ≡ get_or xs i x → AllPairs R (map f xs) → All (λ k. R k (f x)) (map f (take i xs))
all_before R f xs i x l e pairs k d m =
    let size : length (take i xs) ≡ i = length-take-le i xs (omega arith) in
    let lt : k < i = omega (arith, m, size, length-map (take i xs) f) in
    subst₂ R
    (get_or-map f xs k x d (omega arith)
    ∙ sym (get_or-map f (take i xs) k x d (omega (arith, size)) ∙ ap f (get_or-take i xs k x lt)))
    (get_or-map f xs i x d l ∙ ap f (sym e))
    (pairs k i d lt (omega (arith, length-map xs f)))
