-- The choices that are left, and the routes so far.
use Rattle.std.proofs.Common.{◌≡◌, ℕ, ◌-◌, ◌<◌, ◌≤◌, List, [], ◌∷◌, ◌++◌, length, take, drop, Bool, true, false}
use Rattle.std.proofs.Common.{refl}
use Rattle.std.proofs.Common.{sym, ap, ◌∙◌, arith, append_assoc, if◌then◌else◌, get_or}
use Rattle.std.proofs.lemmas.List.{length-append, map-append}
use Rattle.ipnet_base.specs.Network.{IsTruncated}
use Rattle.ipnet.specs.declared.net.IpNet.{IpNet}
use Rattle.ipnet.specs.NetworkOf.{ip_network}
use Rattle.ipnet_routes.specs.Routes.{Route, ip_routes}
use Rattle.ipnet_fewest.specs.ItemsOf.{items_of}
use Rattle.ipnet_fewest.specs.declared.choice.Choice.{Choice}
use Rattle.ipnet_fewest.specs.Plans.{Plan, Nothing, Then, choices_of, routes_for, IsSized, HasPlan, is_first}
use Rattle.ipnet_fewest.specs.Plans.{second_network}
use Rattle.ipnet_fewest.proofs.PlanLaws.{append_nil}
use Rattle.ipnet_fewest.proofs.ChoiceLaws.{IsLastOf, last_of_plan, fits_second, rest_is, second_is, fits_first}
use Rattle.ipnet_fewest.proofs.ChoiceLaws.{before_is, first_is}

-- the routes, if a route is added
pub routes_push : {V : Type 0} (routes new : List (IpNet × V)) (r : IpNet × V) → new ≡ routes ++ r ∷ []
    → ip_routes new ≡ ip_routes routes ++ (ip_network r.0, r.1) ∷ []
routes_push routes new r e = ap ip_routes e ∙ map-append (λ x. (ip_network x.0, x.1)) routes (r ∷ [])

-- The plan has these choices.
pub record IsPlanOf (plan : Plan) (choices : List Choice) : Type 0 where
  pub sized : IsSized plan
  pub choices_are : choices_of plan ≡ choices

-- The routes so far and the routes of the choices that are left are the first routes and the routes of all choices.
pub record AreLeft (choices left : List Choice) (start so_far : List (Route ℕ)) (value : ℕ) : Type 0 where
  pub has_plan : HasPlan left
  pub each : (plan : Plan) → IsPlanOf plan choices → (rest : Plan) × IsPlanOf rest left
      × (so_far ++ routes_for rest value ≡ start ++ routes_for plan value)

nothing_left : (rest : Plan) (value : ℕ) → choices_of rest ≡ [] → routes_for rest value ≡ []
nothing_left Nothing value e = refl
nothing_left (Then before first second choice) value e =
    absurd (omega (
      arith,
      ap length e,
      length-append (choices_of before) (choices_of first ++ (choices_of second ++ choice ∷ [])),
      length-append (choices_of first) (choices_of second ++ choice ∷ []),
      length-append (choices_of second) (choice ∷ []),
    ))

empty_list : {X : Type 0} (xs : List X) → length xs ≡ 0 → xs ≡ []
empty_list [] e = refl
empty_list (x ∷ xs) e = absurd (omega (arith, e))

pub left_end : (choices left : List Choice) (start so_far : List (Route ℕ)) (value : ℕ) → length left ≡ 0
    → AreLeft choices left start so_far value → (plan : Plan) → IsSized plan → choices_of plan ≡ choices
    → so_far ≡ start ++ routes_for plan value
left_end choices left start so_far value none h plan sized e =
    let (rest, p, same) = h.each plan (record { sized = sized; choices_are = e }) in
    sym (append_nil so_far)
    ∙ ap (λ z. so_far ++ z) (sym (nothing_left rest value (p.choices_are ∙ empty_list left none))) ∙ same

-- the routes of the last choice, as they follow from whether the value is best for its first half
abbrev shape : Plan → Plan → Plan → Choice → ℕ → Bool → List (Route ℕ)
shape before first second choice value b =
    ((routes_for second (if b then choice.second_value else value)
    ++ (if b then ((second_network choice, choice.second_value) ∷ []) else []))
    ++ (routes_for first (if b then value else get_or (items_of choice.first_values) 0 0)
    ++ (if b then [] else ((ip_network choice.first, get_or (items_of choice.first_values) 0 0) ∷ []))))
    ++ routes_for before value

module _ (choices left earlier : List Choice) (choice : Choice) (start so_far : List (Route ℕ)) (value : ℕ)
    (last : left ≡ earlier ++ choice ∷ []) (h : AreLeft choices left start so_far value) where
  known : IsLastOf h.has_plan.0 earlier choice
  known = last_of_plan h.has_plan.0 earlier choice h.has_plan.1 (h.has_plan.2 ∙ last)

  pub room_second : choice.second_size ≤ length earlier
  room_second = fits_second h.has_plan.0 earlier choice known

  pub some_first : 0 < length (items_of choice.first_values)
  some_first = known.sized.3.some

  pub cut_first : IsTruncated (ip_network choice.first)
  cut_first = known.sized.3.truncated

  pub longer_first : 0 < (ip_network choice.first).prefix_len
  longer_first = known.sized.3.longer

  pub shorter : length earlier < length left
  shorter = omega (arith, ap length last, length-append earlier (choice ∷ []))

  module _ (front second : List Choice) (of_front : front ≡ take (length earlier - choice.second_size) earlier)
      (of_second : second ≡ drop (length earlier - choice.second_size) earlier) where
    pub room_first : choice.first_size ≤ length front
    room_first = fits_first h.has_plan.0 earlier choice known front
        (of_front ∙ rest_is h.has_plan.0 earlier choice known)

    pub second_plan : HasPlan second
    second_plan =
        (known.second, known.sized.2, sym (of_second ∙ second_is h.has_plan.0 earlier choice known))

    module _ (rest first : List Choice) (of_rest : rest ≡ take (length front - choice.first_size) front)
        (of_first : first ≡ drop (length front - choice.first_size) front) where
      pub first_plan : HasPlan first
      first_plan = (
        known.first,
        known.sized.1,
        sym (of_first ∙ first_is h.has_plan.0 earlier choice known front
            (of_front ∙ rest_is h.has_plan.0 earlier choice known)),
      )

      pub rest_plan : HasPlan rest
      rest_plan = (
        known.before,
        known.sized.0,
        sym (of_rest ∙ before_is h.has_plan.0 earlier choice known front
            (of_front ∙ rest_is h.has_plan.0 earlier choice known)),
      )

      -- one step, if the routes of the halves are added
      step : (new : List (Route ℕ))
          → ((p q : Plan) → IsPlanOf p first → IsPlanOf q second → (b : Plan)
          → new ++ routes_for b value ≡ so_far ++ routes_for (Then b p q choice) value)
          → AreLeft choices rest start new value
      step new added = record {
        has_plan = rest_plan;
        each = λ plan p.
            let (all, of_all, same) = h.each plan p in
            let l = last_of_plan all earlier choice of_all.sized (of_all.choices_are ∙ last) in
            let of_rests = of_front ∙ rest_is all earlier choice l in (
              l.before,
              record {
                sized = l.sized.0;
                choices_are = sym (of_rest ∙ before_is all earlier choice l front of_rests);
              },
              added l.first l.second
                  (record {
                    sized = l.sized.1;
                    choices_are = sym (of_first ∙ first_is all earlier choice l front of_rests);
                  })
                  (record {
                    sized = l.sized.2;
                    choices_are = sym (of_second ∙ second_is all earlier choice l);
                  }) l.before
                  ∙ ap (λ z. so_far ++ routes_for z value) (sym l.is) ∙ same,
            );
      }

      pub left_first : (r1 r2 r3 : List (Route ℕ)) → is_first choice value ≡ true
          → ((q : Plan) → IsSized q → choices_of q ≡ second → r1 ≡ so_far ++ routes_for q choice.second_value)
          → r2 ≡ r1 ++ (second_network choice, choice.second_value) ∷ []
          → ((p : Plan) → IsSized p → choices_of p ≡ first → r3 ≡ r2 ++ routes_for p value)
          → AreLeft choices rest start r3 value
      left_first r1 r2 r3 is_best of_q of_r of_p = step r3 (λ p q sp sq b.
          let one = routes_for q choice.second_value in
          let top = (second_network choice, choice.second_value) ∷ [] in
          let two = routes_for p value in
          let end = routes_for b value in
          let all : r3 ≡ so_far ++ ((one ++ top) ++ two) =
          of_p p sp.sized sp.choices_are
          ∙ ap (λ z. z ++ two)
          (of_r ∙ ap (λ z. z ++ top) (of_q q sq.sized sq.choices_are) ∙ append_assoc so_far one top)
          ∙ append_assoc so_far (one ++ top) two in
          ap (λ z. z ++ end) (all ∙ ap (λ z. so_far ++ ((one ++ top) ++ z)) (sym (append_nil two)))
          ∙ append_assoc so_far ((one ++ top) ++ (two ++ [])) end
          ∙ ap (λ b'. so_far ++ shape b p q choice value b') (sym is_best))

      pub left_second : (r1 r2 r3 : List (Route ℕ)) → is_first choice value ≡ false
          → ((q : Plan) → IsSized q → choices_of q ≡ second → r1 ≡ so_far ++ routes_for q value)
          → ((p : Plan) → IsSized p → choices_of p ≡ first
          → r2 ≡ r1 ++ routes_for p (get_or (items_of choice.first_values) 0 0))
          → r3 ≡ r2 ++ (ip_network choice.first, get_or (items_of choice.first_values) 0 0) ∷ []
          → AreLeft choices rest start r3 value
      left_second r1 r2 r3 not_best of_q of_p of_r = step r3 (λ p q sp sq b.
          let one = routes_for q value in
          let two = routes_for p (get_or (items_of choice.first_values) 0 0) in
          let top = (ip_network choice.first, get_or (items_of choice.first_values) 0 0) ∷ [] in
          let end = routes_for b value in
          let all : r3 ≡ so_far ++ (one ++ (two ++ top)) =
          of_r ∙ ap (λ z. z ++ top) (of_p p sp.sized sp.choices_are
          ∙ ap (λ z. z ++ two) (of_q q sq.sized sq.choices_are))
          ∙ append_assoc (so_far ++ one) two top ∙ append_assoc so_far one (two ++ top) in
          ap (λ z. z ++ end) (all ∙ ap (λ z. so_far ++ (z ++ (two ++ top))) (sym (append_nil one)))
          ∙ append_assoc so_far ((one ++ []) ++ (two ++ top)) end
          ∙ ap (λ b'. so_far ++ shape b p q choice value b') (sym not_best))
