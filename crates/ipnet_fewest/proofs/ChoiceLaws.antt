-- The choices of a plan, from the last one.
use Rattle.std.proofs.Common.{◌≡◌, ℕ, ◌+◌, ◌-◌, ◌≤◌, List, [], ◌∷◌, ◌++◌, length, get_or, take, drop, refl, sym}
use Rattle.std.proofs.Common.{ap}
use Rattle.std.proofs.Common.{◌∙◌, subst, arith, append_assoc}
use Rattle.std.proofs.lemmas.List.{length-append}
use Rattle.ipnet_fewest.specs.declared.choice.Choice.{Choice}
use Rattle.ipnet_fewest.specs.Plans.{Plan, Nothing, Then, choices_of, IsSized}

-- ---- lists that are cut at the end of another list

take_of : {X : Type 0} (xs ys : List X) → take (length xs) (xs ++ ys) ≡ xs
take_of [] ys = refl
take_of (x ∷ xs) ys = ap (λ z. x ∷ z) (take_of xs ys)

drop_of : {X : Type 0} (xs ys : List X) → drop (length xs) (xs ++ ys) ≡ ys
drop_of [] ys = refl
drop_of (x ∷ xs) ys = drop_of xs ys

take_where : {X : Type 0} (all xs ys : List X) (n : ℕ) → all ≡ xs ++ ys → n + length ys ≡ length all
    → take n all ≡ xs
take_where all xs ys n e size =
    ap (take n) e ∙ ap (λ k. take k (xs ++ ys)) (omega (arith, size, ap length e, length-append xs ys)) ∙ take_of xs ys

drop_where : {X : Type 0} (all xs ys : List X) (n : ℕ) → all ≡ xs ++ ys → n + length ys ≡ length all
    → drop n all ≡ ys
drop_where all xs ys n e size =
    ap (drop n) e ∙ ap (λ k. drop k (xs ++ ys)) (omega (arith, size, ap length e, length-append xs ys)) ∙ drop_of xs ys

last_same : {X : Type 0} (xs ys : List X) (x y : X) → xs ++ x ∷ [] ≡ ys ++ y ∷ [] → (xs ≡ ys) × (x ≡ y)
last_same [] [] x y e = (refl, ap (λ l. get_or l 0 x) e)
last_same [] (z ∷ ys) x y e = absurd (omega (arith, ap length e, length-append ys (y ∷ [])))
last_same (z ∷ xs) [] x y e = absurd (omega (arith, ap length e, length-append xs (x ∷ [])))
last_same (z ∷ xs) (w ∷ ys) x y e =
    let rest : xs ++ x ∷ [] ≡ ys ++ y ∷ [] = ap (drop 1) e in
    let heads : z ≡ w = ap (λ l. get_or l 0 z) e in
    let both = last_same xs ys x y rest in
    (ap (λ k. k ∷ xs) heads ∙ ap (λ k. w ∷ k) both.0, both.1)

-- ---- the last choice of a plan

-- The plan ends with the choice, and three plans have the choices before it.
pub record IsLastOf (plan : Plan) (earlier : List Choice) (choice : Choice) : Type 0 where
  pub before : Plan
  pub first : Plan
  pub second : Plan
  pub is : plan ≡ Then before first second choice
  pub earlier_are : earlier ≡ choices_of before ++ (choices_of first ++ choices_of second)
  pub sized : IsSized (Then before first second choice)

pub last_of_plan : (plan : Plan) (earlier : List Choice) (choice : Choice) → IsSized plan
    → choices_of plan ≡ earlier ++ choice ∷ [] → IsLastOf plan earlier choice
last_of_plan Nothing earlier choice sized e =
    absurd (omega (arith, ap length e, length-append earlier (choice ∷ [])))
last_of_plan (Then before first second last) earlier choice sized e =
    let one = choices_of before in
    let two = choices_of first in
    let three = choices_of second in
    let all : one ++ (two ++ (three ++ last ∷ [])) ≡ (one ++ (two ++ three)) ++ last ∷ [] =
    ap (λ z. one ++ z) (sym (append_assoc two three (last ∷ []))) ∙ sym (append_assoc one (two ++ three) (last ∷ [])) in
    let same = last_same (one ++ (two ++ three)) earlier last choice (sym all ∙ e) in
    record {
      before = before;
      first = first;
      second = second;
      is = ap (Then before first second) same.1;
      earlier_are = sym same.0;
      sized = subst (λ z. IsSized (Then before first second z)) same.1 sized;
    }

-- The choices before the last, cut into those that are in none of its halves, in the first and in the second.
module _ (plan : Plan) (earlier : List Choice) (choice : Choice) (l : IsLastOf plan earlier choice) where
  pub fits_second : choice.second_size ≤ length earlier
  fits_second = omega (
    arith,
    l.sized.3.second_is,
    ap length l.earlier_are,
    length-append (choices_of l.before) (choices_of l.first ++ choices_of l.second),
    length-append (choices_of l.first) (choices_of l.second),
  )

  pub rest_is : take (length earlier - choice.second_size) earlier ≡ choices_of l.before ++ choices_of l.first
  rest_is = take_where earlier (choices_of l.before ++ choices_of l.first) (choices_of l.second)
      (length earlier - choice.second_size)
      (l.earlier_are ∙ sym (append_assoc (choices_of l.before) (choices_of l.first) (choices_of l.second)))
      (omega (arith, l.sized.3.second_is, fits_second))

  pub second_is : drop (length earlier - choice.second_size) earlier ≡ choices_of l.second
  second_is = drop_where earlier (choices_of l.before ++ choices_of l.first) (choices_of l.second)
      (length earlier - choice.second_size)
      (l.earlier_are ∙ sym (append_assoc (choices_of l.before) (choices_of l.first) (choices_of l.second)))
      (omega (arith, l.sized.3.second_is, fits_second))

  module _ (rest : List Choice) (of_rest : rest ≡ choices_of l.before ++ choices_of l.first) where
    pub fits_first : choice.first_size ≤ length rest
    fits_first = omega (
      arith,
      l.sized.3.first_is,
      ap length of_rest,
      length-append (choices_of l.before) (choices_of l.first),
    )

    pub before_is : take (length rest - choice.first_size) rest ≡ choices_of l.before
    before_is = take_where rest (choices_of l.before) (choices_of l.first) (length rest - choice.first_size) of_rest
        (omega (arith, l.sized.3.first_is, fits_first))

    pub first_is : drop (length rest - choice.first_size) rest ≡ choices_of l.first
    first_is = drop_where rest (choices_of l.before) (choices_of l.first) (length rest - choice.first_size) of_rest
        (omega (arith, l.sized.3.first_is, fits_first))
