-- One more entry of a list, and the first entries with a property.
use Rattle.std.proofs.Common.{◌≡◌, ◌∙◌, ◌<◌, ◌≤◌, ◌+◌, ◌++◌, ◌∷◌, [], ℕ, Bool, true, false, cond, List}
use Rattle.std.proofs.Common.{filter, take, length, sym, ap, arith, append-nil}
use Rattle.std.proofs.lemmas.List.{length-append, length-take, take_all, take-append-le}
use Rattle.std.proofs.lemmas.List.Elements.{filter-append}

-- an element that has the property comes last
with_last : {X : Type 0} (p : X → Bool) (xs : List X) (x : X) → p x ≡ true
    → filter p (xs ++ x ∷ []) ≡ filter p xs ++ x ∷ []
with_last p xs x has = filter-append p xs (x ∷ []) ∙ ap (λ b. filter p xs ++ cond b (x ∷ []) []) has

-- an element without the property changes nothing
without_last : {X : Type 0} (p : X → Bool) (xs : List X) (x : X) → p x ≡ false
    → filter p (xs ++ x ∷ []) ≡ filter p xs
without_last p xs x lacks =
    filter-append p xs (x ∷ []) ∙ ap (λ b. filter p xs ++ cond b (x ∷ []) []) lacks ∙ append-nil (filter p xs)

-- while fewer than `n` are taken, all are, and so is one more
take_next : {X : Type 0} (n : ℕ) (ys : List X) (y : X) → length (take n ys) < n
    → take n ys ++ y ∷ [] ≡ take n (ys ++ y ∷ [])
take_next n ys y room =
    let short : length ys < n = omega (arith, room, length-take n ys) in
    ap (λ zs. zs ++ y ∷ []) (take_all n ys (omega (arith, short)))
    ∙ sym (take_all n (ys ++ y ∷ []) (omega (arith, short, length-append ys (y ∷ []))))

-- the next element with the property is kept while there is room
kept_next : {X : Type 0} (p : X → Bool) (n : ℕ) (xs first : List X) (x : X) → p x ≡ true
    → filter p first ≡ take n (filter p xs) → length (filter p first) < n
    → filter p (first ++ x ∷ []) ≡ take n (filter p (xs ++ x ∷ []))
kept_next p n xs first x has same room =
    with_last p first x has ∙ ap (λ ys. ys ++ x ∷ []) same
    ∙ take_next n (filter p xs) x (omega (arith, room, ap length same))
    ∙ ap (take n) (sym (with_last p xs x has))

-- the next element with the property is left out if there is no room
full_next : {X : Type 0} (p : X → Bool) (n : ℕ) (xs first : List X) (x : X) → p x ≡ true
    → filter p first ≡ take n (filter p xs) → n ≤ length (filter p first)
    → filter p first ≡ take n (filter p (xs ++ x ∷ []))
full_next p n xs first x has same full =
    let long : n ≤ length (filter p xs) = omega (arith, full, ap length same, length-take n (filter p xs)) in
    same ∙ sym (take-append-le n (filter p xs) (x ∷ []) long) ∙ ap (take n) (sym (with_last p xs x has))

-- an element without the property changes nothing, kept or not
other_next : {X : Type 0} (p : X → Bool) (n : ℕ) (xs first : List X) (x : X) → p x ≡ false
    → filter p first ≡ take n (filter p xs) → filter p first ≡ take n (filter p (xs ++ x ∷ []))
other_next p n xs first x lacks same = same ∙ ap (take n) (sym (without_last p xs x lacks))

-- The first 1,500 elements that have the one property, and the first 1,500 that have the other, were taken; `m` and `n`
-- are their numbers.
pub record HaveTaken {X : Type 0} (p q : X → Bool) (xs first : List X) (m n : ℕ) : Type 0 where
  pub ps : filter p first ≡ take 1500 (filter p xs)
  pub qs : filter q first ≡ take 1500 (filter q xs)
  pub p_count : m ≡ length (filter p first)
  pub q_count : n ≡ length (filter q first)
  pub p_most : m ≤ 1500
  pub q_most : n ≤ 1500

pub swapped : {X : Type 0} {p q : X → Bool} {xs first : List X} {m n : ℕ} → HaveTaken p q xs first m n
    → HaveTaken q p xs first n m
swapped h = record {
  ps = h.qs;
  qs = h.ps;
  p_count = h.q_count;
  q_count = h.p_count;
  p_most = h.q_most;
  q_most = h.p_most;
}

-- there is room for the next element
pub takes : {X : Type 0} {p q : X → Bool} {xs first : List X} {m n : ℕ} (x : X) → HaveTaken p q xs first m n
    → p x ≡ true → q x ≡ false → m < 1500 → HaveTaken p q (xs ++ x ∷ []) (first ++ x ∷ []) (m + 1) n
takes {p = p} {q = q} {xs = xs} {first = first} {m = m} x h has lacks room = record {
  ps = kept_next p 1500 xs first x has h.ps (omega (arith, room, h.p_count));
  qs = without_last q first x lacks ∙ other_next q 1500 xs first x lacks h.qs;
  p_count =
      omega (arith, h.p_count, ap length (with_last p first x has), length-append (filter p first) (x ∷ []));
  q_count = h.q_count ∙ sym (ap length (without_last q first x lacks));
  p_most = omega (arith, room);
  q_most = h.q_most;
}

-- there is no room for the next element
pub passes : {X : Type 0} {p q : X → Bool} {xs first : List X} {m n : ℕ} (x : X) → HaveTaken p q xs first m n
    → p x ≡ true → q x ≡ false → 1500 ≤ m → HaveTaken p q (xs ++ x ∷ []) first m n
passes {p = p} {q = q} {xs = xs} {first = first} {m = m} x h has lacks full = record {
  ps = full_next p 1500 xs first x has h.ps (omega (arith, full, h.p_count));
  qs = other_next q 1500 xs first x lacks h.qs;
  p_count = h.p_count;
  q_count = h.q_count;
  p_most = h.p_most;
  q_most = h.q_most;
}
