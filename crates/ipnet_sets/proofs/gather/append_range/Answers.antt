-- One more boundary if the range ends with the family's last number; otherwise two.
use Rattle.std.proofs.Common.{◌≡◌, ◌+◌, ◌%◌, ◌++◌, ◌∷◌, [], map, ap, ◌∙◌, sym, subst, arith, inl, inr}
use Rattle.std.proofs.lemmas.Bool.{cases_lt}
use Rattle.std.proofs.lemmas.List.{length-map, map_push}
use Rattle.ipnet_base.proofs.ResultLaws.{true_gives, false_gives}
use Rattle.ipnet_sets.specs.Gather.{IsJoined}
use Rattle.ipnet_sets.proofs.JoinLaws.{joined_new, joined_new_open}
use Rattle.ipnet_sets.proofs.gather.append_range.Goals as goal

pub returns-in_ok-push-2-clause-joined : goal.returns-in_ok-push-2-clause-joined
returns-in_ok-push-2-clause-joined g c =
    let number = g.T.Number.number in
    let f = g.T.Number.family in
    let words = c.args.boundaries.now.items in
    let old = map number words in
    let first = number c.args.first in
    let last = number c.args.last in
    let size = length-map words number in
    let one : map number c.push.new.self.items ≡ old ++ first ∷ []
    = ap (map number) (c.in_ok-push.ensures.items ∙ ap (λ z. z ++ c.args.first ∷ []) c.in_ok-reserve.ensures.items)
    ∙ map_push number words c.args.first in
    let two : map number c.push-then-is_below.new.self.items ≡ (old ++ first ∷ []) ++ (last + 1) ∷ []
    = ap (map number) c.in_ok-push-2.ensures.items ∙ map_push number c.push.new.self.items c.next.result
    ∙ ap (λ z. z ++ number c.next.result ∷ []) one ∙ ap (λ n. (old ++ first ∷ []) ++ n ∷ []) c.next.ensures in
    subst (IsJoined f old first last) (sym two)
    (joined_new f old first last c.requires.boundaries (ap (λ n. n % 2) size ∙ c.requires.even) c.requires.after
    c.requires.ordered
    (omega (arith, true_gives c.is_below.result c.is_below.ensures c.if-is_below.true, c.last.ensures)))

pub returns-else-is_below-clause-joined : goal.returns-else-is_below-clause-joined
returns-else-is_below-clause-joined g c =
    let number = g.T.Number.number in
    let f = g.T.Number.family in
    let words = c.args.boundaries.now.items in
    let old = map number words in
    let first = number c.args.first in
    let last = number c.args.last in
    let size = length-map words number in
    let one : map number c.push.new.self.items ≡ old ++ first ∷ []
    = ap (map number) (c.in_ok-push.ensures.items ∙ ap (λ z. z ++ c.args.first ∷ []) c.in_ok-reserve.ensures.items)
    ∙ map_push number words c.args.first in
    subst (IsJoined f old first last) (sym one)
    (joined_new_open f old first last c.requires.boundaries (ap (λ n. n % 2) size ∙ c.requires.even) c.requires.after
    c.requires.ordered
    (elim (cases_lt last (number c.last.result)) [
      | inl lt ↦ absurd (false_gives c.is_below.result c.is_below.ensures c.if-is_below.false lt)
      | inr ge ↦ omega (arith, ge, c.last.ensures, c.requires.fits)
    ]))
