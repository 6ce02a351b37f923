-- The last element of a list that passes a test.
use Rattle.std.proofs.Common.{◌≡◌, ℕ, zero, suc, ◌<◌, ◌⊎◌, Bool, true, false}
use Rattle.std.proofs.Common.{List, [], ◌∷◌, length, get_or}
use Rattle.std.proofs.Common.{Option, Some, None, refl, sym, ap, ◌∙◌, subst}
use Rattle.std.proofs.Common.{arith, inl, inr}
use Rattle.std.proofs.lemmas.Bool.{cases_Bool}
use Rattle.std.specs.List.{filter}

-- an element of a list, at its place
pub element_at : {X : Type 0} (xs : List X) (k : ℕ) → k < length xs → (x : X) × ((d : X) → get_or xs k d ≡ x)
element_at [] k l = absurd (omega (arith, l))
element_at (x ∷ xs) zero l = (x, λ d. refl)
element_at (x ∷ xs) (suc k) l = element_at xs k (omega (arith, l))

-- the last element that passes the test
abbrev pick : {X : Type 0} → Option X → Bool → X → Option X
pick (Some y) b x = Some y
pick None true x = Some x
pick None false x = None

abbrev pub last_of : {X : Type 0} → (X → Bool) → List X → Option X
last_of test [] = None
last_of test (x ∷ xs) = pick (last_of test xs) (test x) x

-- it is the last of those that pass
pick_none : {X : Type 0} (o : Option X) (x : X) → pick o false x ≡ o
pick_none (Some y) x = refl
pick_none None x = refl

pub last_of_filter : {X : Type 0} (test : X → Bool) (xs : List X) → last_of test (filter test xs) ≡ last_of test xs
last_of_filter test [] = refl
last_of_filter test (x ∷ xs) = elim (cases_Bool (test x)) [
  | inl hit ↦ rw (hit, hit, last_of_filter test xs) refl
  | inr miss ↦ rw (miss) (last_of_filter test xs ∙ sym (pick_none (last_of test xs) x))
]

last_none : {X : Type 0} (test : X → Bool) (xs : List X)
    → ((j : ℕ) (d : X) → j < length xs → test (get_or xs j d) ≡ true → ⊥) → last_of test xs ≡ None
last_none test [] h = refl
last_none test (x ∷ xs) h =
    let rest : last_of test xs ≡ None = last_none test xs (λ j d l. h (suc j) d (omega (arith, l))) in
    elim (cases_Bool (test x)) [
      | inl hit ↦ absurd (h zero x (omega arith) hit)
      | inr miss ↦ rw (rest, miss) refl
    ]

pick_is_none : {X : Type 0} (o : Option X) (b : Bool) (x : X) → pick o b x ≡ None → (o ≡ None) × (b ≡ false)
pick_is_none (Some y) b x e = absurd (cc)
pick_is_none None true x e = absurd (cc)
pick_is_none None false x e = (refl, refl)

none_passes : {X : Type 0} (test : X → Bool) (xs : List X) → last_of test xs ≡ None → (j : ℕ) (d : X) → j < length xs
    → test (get_or xs j d) ≡ true → ⊥
none_passes test [] e j d l hit = omega (arith, l)
none_passes test (x ∷ xs) e zero d l hit =
    let miss : test x ≡ false = (pick_is_none (last_of test xs) (test x) x e).1 in absurd (cc)
none_passes test (x ∷ xs) e (suc j) d l hit =
    none_passes test xs (pick_is_none (last_of test xs) (test x) x e).0 j d (omega (arith, l)) hit

pick_is_some : {X : Type 0} (o : Option X) (b : Bool) (x y : X) → pick o b x ≡ Some y
    → (o ≡ Some y) ⊎ ((o ≡ None) × (b ≡ true) × (x ≡ y))
pick_is_some (Some z) b x y e = inl e
pick_is_some None true x y e = inr (refl, refl, cc)
pick_is_some None false x y e = absurd (cc)

-- an element that passes the test, and none later does
pub record IsLastPassing {X : Type 0} (test : X → Bool) (xs : List X) (r : X) : Type 0 where
  pub place : ℕ
  pub within : place < length xs
  pub is : (d : X) → get_or xs place d ≡ r
  pub passes : test r ≡ true
  pub last : (j : ℕ) (d : X) → place < j → j < length xs → test (get_or xs j d) ≡ true → ⊥

pub last_passing : {X : Type 0} (test : X → Bool) (xs : List X) (r : X) → last_of test xs ≡ Some r
    → IsLastPassing test xs r
last_passing test [] r e = absurd (cc)
last_passing test (x ∷ xs) r e = elim (pick_is_some (last_of test xs) (test x) x r e) [
  | inl found ↦
      let h = last_passing test xs r found in
      record {
        place = suc h.place;
        within = omega (arith, h.within);
        is = h.is;
        passes = h.passes;
        last = elim [
          | zero ↦ λ d lt l hit. absurd (omega (arith, lt))
          | suc j ↦ λ d lt l hit. h.last j d (omega (arith, lt)) (omega (arith, l)) hit
        ];
      }
  | inr none ↦ record {
    place = 0;
    within = omega arith;
    is = λ d. none.2;
    passes = subst (λ z. test z ≡ true) none.2 none.1;
    last = elim [
      | zero ↦ λ d lt l hit. absurd (omega (arith, lt))
      | suc j ↦ λ d lt l hit. none_passes test xs none.0 j d (omega (arith, l)) hit
    ];
  }
]

pub found_last : {X : Type 0} (test : X → Bool) (xs : List X) (r : X) (place : ℕ) → place < length xs
    → ((d : X) → get_or xs place d ≡ r) → test r ≡ true
    → ((j : ℕ) (d : X) → place < j → j < length xs → test (get_or xs j d) ≡ true → ⊥) → last_of test xs ≡ Some r
found_last test [] r place l is hit last = absurd (omega (arith, l))
found_last test (x ∷ xs) r zero l is hit last =
    let none : last_of test xs ≡ None
    = last_none test xs (λ j d m. last (suc j) d (omega arith) (omega (arith, m))) in
    let here : test x ≡ true = ap test (is x) ∙ hit in
    rw (none, here) (ap Some (is x))
found_last test (x ∷ xs) r (suc place) l is hit last =
    let rest : last_of test xs ≡ Some r
    = found_last test xs r place (omega (arith, l)) is hit
    (λ j d lt m. last (suc j) d (omega (arith, lt)) (omega (arith, m))) in
    rw (rest) refl
