-- The boundaries between the places of the first and of the last number, with the first number if it is inside; and the
-- number after the last one, if the last one is inside.
use Rattle.std.proofs.Common.{map, refl, sym, ap, ◌∙◌, subst, arith, inl, inr}
use Rattle.std.proofs.lemmas.Bool.{cases_lt}
use Rattle.std.proofs.lemmas.List.{length-map, length-take-le, map_push}
use Rattle.ipnet_base.specs.Address.{greatest_number}
use Rattle.ipnet_base.proofs.ResultLaws.{true_gives, false_gives}
use Rattle.ipnet_sets.specs.Parts.{IsPartBetween}
use Rattle.ipnet_sets.proofs.WithinLaws.{IsBegun, places_ordered, begun_words, finished_closed, finished_open}
use Rattle.ipnet_sets.proofs.boundaries.part_between.Goals.{then-after-eq1+then-is_below+in_ok-push, else-after-eq1}
use Rattle.ipnet_sets.proofs.boundaries.part_between.Goals.{else-after-eq1-via-then-after-eq1+else-is_below}
use Rattle.ipnet_sets.proofs.boundaries.part_between.Goals.{else-after-eq1-via-else-after-eq1}
use Rattle.ipnet_sets.proofs.boundaries.part_between.Goals as goal

pub begun_at-requires : goal.begun_at-requires
begun_at-requires g c =
    let words = c.args.boundaries.now in
    let number = g.T.Number.number in
    let before = c.boundaries_up_to-before.result in
    let after = c.boundaries_up_to-after.result in
    let size = length-map words number in
    omega (
      arith,
      length-take-le after words (omega (arith, size, c.boundaries_up_to-after.ensures.within)),
      places_ordered (map number words) (number c.args.first) (number c.args.last) before after
          c.boundaries_up_to-before.ensures c.boundaries_up_to-after.ensures c.requires.ordered,
    )

pub returns : goal.returns
returns g c =
    let number = g.T.Number.number in
    let f = g.T.Number.family in
    let words = c.args.boundaries.now in
    let first = number c.args.first in
    let last = number c.args.last in
    let after = c.boundaries_up_to-after.result in
    let begun : IsBegun (map number words) first last after (map number c.in_ok-part.part.items)
    = begun_words number words c.in_ok-part.part.items c.args.first first last c.boundaries_up_to-before.result after
    c.requires.boundaries.ascending c.boundaries_up_to-before.ensures c.boundaries_up_to-after.ensures
    c.requires.ordered refl c.in_ok-part.ensures.inside c.in_ok-part.ensures.outside in
    elim c.if-after-eq1.branch [
      | then-after-eq1+then-is_below+in_ok-push w ↦
          subst (λ v. IsPartBetween f (map number words) first last (map number v.items)) (sym w.part-is)
          (finished_closed f (map number words) (map number c.in_ok-part.part.items) (map number w.push.new.self.items)
          first last after (number w.next.result) begun c.requires.ordered w.if-after-eq1.true w.next.ensures
          (omega (arith, w.last.ensures, true_gives w.is_below.result w.is_below.ensures w.if-is_below.true))
          (ap (map number) w.in_ok-push.ensures.items ∙ map_push number c.in_ok-part.part.items w.next.result))
      | else-after-eq1 w ↦
          subst (λ v. IsPartBetween f (map number words) first last (map number v.items)) (sym w.part-is)
          (finished_open f (map number words) (map number c.in_ok-part.part.items) first last after begun c.fits.ensures
          (λ odd. elim w.else-after-eq1.branch [
            | else-after-eq1-via-then-after-eq1+else-is_below v ↦ elim (cases_lt last (greatest_number f)) [
              | inl lt ↦ absurd (false_gives v.is_below.result v.is_below.ensures v.if-is_below.false
                  (omega (arith, lt, v.last.ensures)))
              | inr ge ↦ ge
            ]
            | else-after-eq1-via-else-after-eq1 v ↦ absurd (v.if-after-eq1.false odd)
          ]))
    ]
