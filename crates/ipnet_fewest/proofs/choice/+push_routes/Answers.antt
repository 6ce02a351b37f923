-- The routes of the last choice, and of the choices in its halves.
use Rattle.std.proofs.Common.{◌≡◌, ◌++◌, ◌∷◌, [], length, get_or, nat_eq, sym, subst, ap, ◌∙◌, arith, ◌<◌}
use Rattle.std.specs.List.{list_any}
use Rattle.ipnet.specs.NetworkOf.{ip_network}
use Rattle.ipnet_routes.specs.Routes.{ip_routes}
use Rattle.ipnet_fewest.specs.ItemsOf.{items_of}
use Rattle.ipnet_fewest.specs.Plans.{routes_for}
use Rattle.ipnet_fewest.proofs.OptionLaws.{none_if}
use Rattle.ipnet_fewest.proofs.LeftLaws.{left_end, routes_push, room_second, room_first, some_first, shorter}
use Rattle.ipnet_fewest.proofs.LeftLaws.{cut_first, longer_first}
use Rattle.ipnet_fewest.proofs.LeftLaws.{first_plan, second_plan, left_first, left_second}
use Rattle.ipnet_fewest.proofs.choice.+push_routes.Goals as goal

pub overflow_sub-earlier : goal.overflow_sub-earlier
overflow_sub-earlier t c =
    let choices = c.args.choices.now in
    let value = c.args.value in
    let left = c.loop-choice.left.now in
    let earlier = c.in-Some.earlier.now in
    let choice = c.in-Some.choice.now in
    let start = ip_routes c.args.routes.now.items in
    let so_far = ip_routes c.loop-choice.routes.items in
    let last = c.in-Some.ensures.cases.0 in
    let h = c.loop-choice.invariant.1 in
    room_second choices left earlier choice start so_far value last h

pub overflow_sub-rest : goal.overflow_sub-rest
overflow_sub-rest t c =
    let choices = c.args.choices.now in
    let value = c.args.value in
    let left = c.loop-choice.left.now in
    let earlier = c.in-Some.earlier.now in
    let choice = c.in-Some.choice.now in
    let start = ip_routes c.args.routes.now.items in
    let so_far = ip_routes c.loop-choice.routes.items in
    let last = c.in-Some.ensures.cases.0 in
    let h = c.loop-choice.invariant.1 in
    let front = c.split_at.result.0.now in
    let second = c.split_at.result.1.now in
    let of_front = c.split_at.ensures.front in
    let of_second = c.split_at.ensures.back in
    room_first choices left earlier choice start so_far value last h front second of_front of_second

pub push_routes-requires : goal.push_routes-requires
push_routes-requires t c =
    let choices = c.args.choices.now in
    let value = c.args.value in
    let left = c.loop-choice.left.now in
    let earlier = c.in-Some.earlier.now in
    let choice = c.in-Some.choice.now in
    let start = ip_routes c.args.routes.now.items in
    let so_far = ip_routes c.loop-choice.routes.items in
    let last = c.in-Some.ensures.cases.0 in
    let h = c.loop-choice.invariant.1 in
    let front = c.split_at.result.0.now in
    let second = c.split_at.result.1.now in
    let of_front = c.split_at.ensures.front in
    let of_second = c.split_at.ensures.back in (
      omega (
        arith,
        shorter choices left earlier choice start so_far value last h,
        c.loop-choice.invariant.0,
        c.split_at.ensures.back_len,
      ),
      second_plan choices left earlier choice start so_far value last h front second of_front of_second,
    )

pub push_routes-requires-then-contains : goal.push_routes-requires-then-contains
push_routes-requires-then-contains t c =
    let choices = c.args.choices.now in
    let value = c.args.value in
    let left = c.loop-choice.left.now in
    let earlier = c.in-Some.earlier.now in
    let choice = c.in-Some.choice.now in
    let start = ip_routes c.args.routes.now.items in
    let so_far = ip_routes c.loop-choice.routes.items in
    let last = c.in-Some.ensures.cases.0 in
    let h = c.loop-choice.invariant.1 in
    let front = c.split_at.result.0.now in
    let second = c.split_at.result.1.now in
    let of_front = c.split_at.ensures.front in
    let of_second = c.split_at.ensures.back in
    let rest = c.split_at-in-Some.result.0.now in
    let first = c.split_at-in-Some.result.1.now in
    let of_rest = c.split_at-in-Some.ensures.front in
    let of_first = c.split_at-in-Some.ensures.back in (
      omega (
        arith,
        shorter choices left earlier choice start so_far value last h,
        c.loop-choice.invariant.0,
        c.split_at-in-Some.ensures.back_len,
        c.split_at.ensures.front_len,
      ),
      first_plan choices left earlier choice start so_far value last h front second of_front of_second
          rest first of_rest of_first,
    )

pub sibling-requires : goal.sibling-requires
sibling-requires t c =
    let choices = c.args.choices.now in
    let value = c.args.value in
    let left = c.loop-choice.left.now in
    let earlier = c.in-Some.earlier.now in
    let choice = c.in-Some.choice.now in
    let start = ip_routes c.args.routes.now.items in
    let so_far = ip_routes c.loop-choice.routes.items in
    let last = c.in-Some.ensures.cases.0 in
    let h = c.loop-choice.invariant.1 in
    record {
      truncated = cut_first choices left earlier choice start so_far value last h;
      longer = longer_first choices left earlier choice start so_far value last h;
    }

pub bounds-as_slice-0 : goal.bounds-as_slice-0
bounds-as_slice-0 t c =
    let choices = c.args.choices.now in
    let value = c.args.value in
    let left = c.loop-choice.left.now in
    let earlier = c.in-Some.earlier.now in
    let choice = c.in-Some.choice.now in
    let start = ip_routes c.args.routes.now.items in
    let so_far = ip_routes c.loop-choice.routes.items in
    let last = c.in-Some.ensures.cases.0 in
    let h = c.loop-choice.invariant.1 in
    subst (λ z. 0 < length z) (sym c.as_slice-else-contains.ensures)
    (some_first choices left earlier choice start so_far value last h)

pub push_routes-requires-else-contains : goal.push_routes-requires-else-contains
push_routes-requires-else-contains t c =
    let choices = c.args.choices.now in
    let value = c.args.value in
    let left = c.loop-choice.left.now in
    let earlier = c.in-Some.earlier.now in
    let choice = c.in-Some.choice.now in
    let start = ip_routes c.args.routes.now.items in
    let so_far = ip_routes c.loop-choice.routes.items in
    let last = c.in-Some.ensures.cases.0 in
    let h = c.loop-choice.invariant.1 in
    let front = c.split_at.result.0.now in
    let second = c.split_at.result.1.now in
    let of_front = c.split_at.ensures.front in
    let of_second = c.split_at.ensures.back in (
      omega (
        arith,
        shorter choices left earlier choice start so_far value last h,
        c.loop-choice.invariant.0,
        c.split_at.ensures.back_len,
      ),
      second_plan choices left earlier choice start so_far value last h front second of_front of_second,
    )

pub push_routes-requires-else-contains-2 : goal.push_routes-requires-else-contains-2
push_routes-requires-else-contains-2 t c =
    let choices = c.args.choices.now in
    let value = c.args.value in
    let left = c.loop-choice.left.now in
    let earlier = c.in-Some.earlier.now in
    let choice = c.in-Some.choice.now in
    let start = ip_routes c.args.routes.now.items in
    let so_far = ip_routes c.loop-choice.routes.items in
    let last = c.in-Some.ensures.cases.0 in
    let h = c.loop-choice.invariant.1 in
    let front = c.split_at.result.0.now in
    let second = c.split_at.result.1.now in
    let of_front = c.split_at.ensures.front in
    let of_second = c.split_at.ensures.back in
    let rest = c.split_at-in-Some.result.0.now in
    let first = c.split_at-in-Some.result.1.now in
    let of_rest = c.split_at-in-Some.ensures.front in
    let of_first = c.split_at-in-Some.ensures.back in (
      omega (
        arith,
        shorter choices left earlier choice start so_far value last h,
        c.loop-choice.invariant.0,
        c.split_at-in-Some.ensures.back_len,
        c.split_at.ensures.front_len,
      ),
      first_plan choices left earlier choice start so_far value last h front second of_front of_second
          rest first of_rest of_first,
    )

pub loop-choice-preserved-in_ok-push_routes-2 : goal.loop-choice-preserved-in_ok-push_routes-2
loop-choice-preserved-in_ok-push_routes-2 t c =
    let choices = c.args.choices.now in
    let value = c.args.value in
    let left = c.loop-choice.left.now in
    let earlier = c.in-Some.earlier.now in
    let choice = c.in-Some.choice.now in
    let start = ip_routes c.args.routes.now.items in
    let so_far = ip_routes c.loop-choice.routes.items in
    let last = c.in-Some.ensures.cases.0 in
    let h = c.loop-choice.invariant.1 in
    let front = c.split_at.result.0.now in
    let second = c.split_at.result.1.now in
    let of_front = c.split_at.ensures.front in
    let of_second = c.split_at.ensures.back in
    let rest = c.split_at-in-Some.result.0.now in
    let first = c.split_at-in-Some.result.1.now in
    let of_rest = c.split_at-in-Some.ensures.front in
    let of_first = c.split_at-in-Some.ensures.back in
    let is_best =
    ap (λ z. list_any (λ v. nat_eq v value) z) (sym c.as_slice.ensures) ∙ sym c.contains.ensures.value
    ∙ c.if-contains.true in (
      omega (
        arith,
        shorter choices left earlier choice start so_far value last h,
        c.loop-choice.invariant.0,
        c.split_at-in-Some.ensures.front_len,
        c.split_at.ensures.front_len,
      ),
      left_first choices left earlier choice start so_far value last h front second of_front of_second
          rest first of_rest of_first
          (ip_routes c.push_routes.new.routes.items) (ip_routes c.push.new.self.items)
          (ip_routes c.push_routes-then-contains.new.routes.items) is_best c.in_ok-push_routes.ensures
          (routes_push c.push_routes.new.routes.items c.push.new.self.items (c.sibling.result, choice.second_value)
          c.in_ok-push.ensures.items
          ∙ ap (λ z. ip_routes c.push_routes.new.routes.items ++ (z, choice.second_value) ∷ []) c.sibling.ensures)
          c.in_ok-push_routes-2.ensures,
    )

pub loop-choice-preserved : goal.loop-choice-preserved
loop-choice-preserved t c =
    let choices = c.args.choices.now in
    let value = c.args.value in
    let left = c.loop-choice.left.now in
    let earlier = c.in-Some.earlier.now in
    let choice = c.in-Some.choice.now in
    let start = ip_routes c.args.routes.now.items in
    let so_far = ip_routes c.loop-choice.routes.items in
    let last = c.in-Some.ensures.cases.0 in
    let h = c.loop-choice.invariant.1 in
    let front = c.split_at.result.0.now in
    let second = c.split_at.result.1.now in
    let of_front = c.split_at.ensures.front in
    let of_second = c.split_at.ensures.back in
    let rest = c.split_at-in-Some.result.0.now in
    let first = c.split_at-in-Some.result.1.now in
    let of_rest = c.split_at-in-Some.ensures.front in
    let of_first = c.split_at-in-Some.ensures.back in
    let not_best =
    ap (λ z. list_any (λ v. nat_eq v value) z) (sym c.as_slice.ensures) ∙ sym c.contains.ensures.value
    ∙ c.if-contains.false in
    let w = get_or c.as_slice-else-contains.result.now 0 0 in
    let items = (items_of choice.first_values) in
    let is_w : w ≡ get_or items 0 0 = ap (λ z. get_or z 0 0) c.as_slice-else-contains.ensures in
    let r1 = ip_routes c.push_routes-else-contains.new.routes.items in
    let r2 = ip_routes c.push_routes-else-contains-2.new.routes.items in (
      omega (
        arith,
        shorter choices left earlier choice start so_far value last h,
        c.loop-choice.invariant.0,
        c.split_at-in-Some.ensures.front_len,
        c.split_at.ensures.front_len,
      ),
      left_second choices left earlier choice start so_far value last h front second of_front of_second
          rest first of_rest of_first
          r1 r2 (ip_routes c.push-else-contains.new.self.items) not_best c.in_ok-push_routes-3.ensures
          (λ p sized e. c.in_ok-push_routes-4.ensures p sized e ∙ ap (λ z. r1 ++ routes_for p z) is_w)
          (routes_push c.push_routes-else-contains-2.new.routes.items c.push-else-contains.new.self.items
          (choice.first, w) c.in_ok-push-2.ensures.items
          ∙ ap (λ z. r2 ++ (ip_network choice.first, z) ∷ []) is_w),
    )

pub returns : goal.returns
returns t c =
    let left = c.loop-choice.left.now in
    left_end c.args.choices.now left (ip_routes c.args.routes.now.items) (ip_routes c.loop-choice.routes.items)
    c.args.value (none_if c.split_last.result (length left ≡ 0) _ c.in_default.not-Some c.split_last.ensures.cases)
    c.loop-choice.invariant.1
