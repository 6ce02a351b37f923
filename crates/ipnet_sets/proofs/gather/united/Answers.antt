-- Without a number that waits the set in order is the result, and a set with a boundary has a number.
use Rattle.std.proofs.Common.{◌≡◌, ◌<◌, ◌≤◌, ◌↔◌, ◌||◌, ℕ, true, length, map, IfOk, sym, ap, ◌∙◌, subst₂, arith}
use Rattle.std.proofs.lemmas.Bool.{eqb-true, false≢true}
use Rattle.std.proofs.lemmas.Result.{IfOk-weaker}
use Rattle.ipnet_base.specs.Address.{greatest_number}
use Rattle.ipnet_sets.specs.Boundaries.{is_inside}
use Rattle.ipnet_sets.specs.Gather.{IsHeld}
use Rattle.ipnet_sets.proofs.InsideLaws.{some_from_empty}
use Rattle.ipnet_sets.proofs.JoinLaws.{held_in_order, some_number_waits, held_in_union}
use Rattle.ipnet_sets.proofs.gather.united.Goals as goal

pub returns-in_err-late-clause-empty : goal.returns-in_err-late-clause-empty
returns-in_err-late-clause-empty g c = λ none. absurd (false≢true (c.in_err-late.ensures.empty none))

pub returns-then-is_empty-clause-members : goal.returns-then-is_empty-clause-members
returns-then-is_empty-clause-members g c =
    let late = c.in_ok-late.late.items in
    let slice = c.as_slice.result.now in
    let empty : length slice ≡ 0 = eqb-true (length slice) 0 (sym c.is_empty.ensures ∙ c.if-is_empty.true) in
    held_in_order g.T.Number.number g.T.Number.family c.args.in_order.items late c.args.waiting.items
    (sym (ap length c.as_slice.ensures.value) ∙ empty) c.in_ok-late.ensures.members

pub returns-clause-empty : goal.returns-clause-empty
returns-clause-empty g c = λ none.
    let late = c.in_ok-late.late.items in
    let slice = c.as_slice.result.now in
    let some : 0 < length slice = some_from_empty (length slice) c.is_empty.result c.is_empty.ensures
    c.if-is_empty.false in
    absurd (some_number_waits g.T.Number.number g.T.Number.family late c.args.waiting.items
    (omega (arith, some, ap length c.as_slice.ensures.value)) c.in_ok-late.ensures.boundaries
    c.in_ok-late.ensures.members none)

pub returns-clause-members : goal.returns-clause-members
returns-clause-members g c =
    let number = g.T.Number.number in
    let in_order = c.args.in_order.items in
    let late = c.in_ok-late.late.items in
    IfOk-weaker c.combine.result
    (λ all. (x : ℕ) → is_inside (map number all.items) x
    ≡ (is_inside (map number in_order) x || is_inside (map number late) x))
    (λ all. (x : ℕ) → x ≤ greatest_number g.T.Number.family → (is_inside (map number all.items) x ≡ true)
    ↔ IsHeld number in_order c.args.waiting.items x)
    (λ all h x le. held_in_union number in_order late all.items c.args.waiting.items x
    (c.in_ok-late.ensures.members x le) (h x))
    (subst₂ (λ one two. IfOk c.combine.result (λ all. (x : ℕ) → is_inside (map number all.items) x
    ≡ (is_inside (map number one) x || is_inside (map number two) x)))
    c.as_slice-2.ensures.value c.as_slice-3.ensures.value c.combine.ensures.members)
