-- Two plans, one after the other.
use Rattle.std.proofs.Common.{◌≡◌, ℕ, List, [], ◌∷◌, ◌++◌, refl, sym, ap, ◌∙◌, append_assoc}
use Rattle.ipnet_fewest.specs.Plans.{Plan, Nothing, Then, choices_of, routes_for, IsSized}
use Rattle.ipnet_fewest.specs.Plans.{first_value, first_route, second_value, second_route}

abbrev pub joined_plan : Plan → Plan → Plan
joined_plan p Nothing = p
joined_plan p (Then earlier first second choice) = Then (joined_plan p earlier) first second choice

pub append_nil : {X : Type 0} (xs : List X) → xs ++ [] ≡ xs
append_nil [] = refl
append_nil (x ∷ xs) = ap (λ z. x ∷ z) (append_nil xs)

pub joined_choices : (p q : Plan) → choices_of (joined_plan p q) ≡ choices_of p ++ choices_of q
joined_choices p Nothing = sym (append_nil (choices_of p))
joined_choices p (Then earlier first second choice) =
    ap (λ z. z ++ (choices_of first ++ (choices_of second ++ choice ∷ []))) (joined_choices p earlier)
    ∙ append_assoc (choices_of p) (choices_of earlier) (choices_of first ++ (choices_of second ++ choice ∷ []))

pub joined_routes : (p q : Plan) (v : ℕ) → routes_for (joined_plan p q) v ≡ routes_for q v ++ routes_for p v
joined_routes p Nothing v = refl
joined_routes p (Then earlier first second choice) v =
    let own = (routes_for second (second_value choice v) ++ second_route choice v)
    ++ (routes_for first (first_value choice v) ++ first_route choice v) in
    ap (λ z. own ++ z) (joined_routes p earlier v) ∙ sym (append_assoc own (routes_for earlier v) (routes_for p v))

pub joined_sized : (p q : Plan) → IsSized p → IsSized q → IsSized (joined_plan p q)
joined_sized p Nothing a b = a
joined_sized p (Then earlier first second choice) a b = (joined_sized p earlier a b.0, b.1, b.2, b.3)
