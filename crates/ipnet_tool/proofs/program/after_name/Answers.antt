-- The words that were taken, and those that are left, are all the words after the name.
use Rattle.std.proofs.Common.{◌≡◌, ◌≢◌, List, [], ◌∷◌, ◌++◌, length, ap, ◌∙◌, refl, sym, drop, Option, Some}
use Rattle.std.proofs.Common.{None, arith, append-nil, Result, Ok, Err, OnErr}
use Rattle.std.specs.Iterator.{Yields}
use Rattle.std.specs.Vec.Iter.{into_iter_items, into_iter_steps, into_iter_len}
use Rattle.std.specs.declared.vec.IntoIter.{IntoIter}
use Rattle.ipnet_tool.proofs.program.after_name.Goals as goal

-- what the iterator of a vector has given is a front of its items
taken_front : {X A : Type 0} (s : IntoIter X A) (xs : List X) (t : IntoIter X A) → Yields into_iter_steps s xs t
    → into_iter_items s ≡ xs ++ into_iter_items t
taken_front s [] t y = ap into_iter_items y
taken_front s (x ∷ xs) t y = y.1.0 ∙ ap (λ ys. x ∷ ys) (taken_front y.0 xs t y.2)

none_left : {X A : Type 0} (s : IntoIter X A) → into_iter_len s ≡ 0 → into_iter_items s ≡ []
none_left s none = empty (into_iter_items s) (sym s.rest.ok.0 ∙ none)
  where
    empty : {X : Type 0} (xs : List X) → length xs ≡ 0 → xs ≡ []
    empty [] h = refl
    empty (x ∷ xs) h = absurd (omega (arith, h))

-- after the first call, all words except the first are left
behind : {X A : Type 0} (words rest : IntoIter X A) (name : Option X) → into_iter_steps words name rest
    → drop 1 (into_iter_items words) ≡ into_iter_items rest
behind words rest None h = ap (drop 1) (none_left words h.0) ∙ sym (none_left rest h.1)
behind words rest (Some x) h = ap (drop 1) h.0

on_err : {T E P : Type 0} (result : Result T E) → P → OnErr result P
on_err (Ok x) p = tt
on_err (Err e) p = p

pub returns-in_err-push-clause-err : goal.returns-in_err-push-clause-err
returns-in_err-push-clause-err c =
    let words = c.args.words in
    let rest = c.next-name.new.self in
    let first = c.into_iter-word-iterator.result in
    let here = c.loop-word.word-iterator in
    let xs = c.loop-word.yielded in
    let all : drop 1 (into_iter_items words) ≡ xs ++ (c.in-Some.word ∷ into_iter_items c.next.new.self) =
    behind words rest c.next-name.result c.next-name.ensures.cases
    ∙ sym (ap into_iter_items c.into_iter-word-iterator.ensures.into_iter_gives)
    ∙ taken_front first xs here c.loop-word.yielded_by ∙ ap (λ z. xs ++ z) c.in-Some.ensures.steps.0 in
    on_err c.from_residual.result (λ none. some xs c.in-Some.word (into_iter_items c.next.new.self) (sym all ∙ none))
  where
    some : {X : Type 0} (xs : List X) (x : X) (ys : List X) → xs ++ x ∷ ys ≢ []
    some [] x ys h = omega (arith, ap length h)
    some (z ∷ xs) x ys h = omega (arith, ap length h)

pub returns-clause-ok : goal.returns-clause-ok
returns-clause-ok c =
    let words = c.args.words in
    let rest = c.next-name.new.self in
    let first = c.into_iter-word-iterator.result in
    let here = c.loop-word.word-iterator in
    let xs = c.loop-word.yielded in
    let all : drop 1 (into_iter_items words) ≡ xs =
    behind words rest c.next-name.result c.next-name.ensures.cases
    ∙ sym (ap into_iter_items c.into_iter-word-iterator.ensures.into_iter_gives)
    ∙ taken_front first xs here c.loop-word.yielded_by
    ∙ ap (λ z. xs ++ z) (none_left here c.in-None.ensures.steps.0) ∙ append-nil xs in
    c.loop-word.invariant ∙ sym all
