-- The result so far has the numbers up to here that the operation takes. Its number of boundaries is odd if and only if
-- the last of these numbers is taken, so it has a boundary at each change and nowhere else.
use Rattle.std.proofs.Common.{◌≡◌, ◌≤◌, ◌++◌, ◌∷◌, [], All, not, length, map, sym, ap, ◌∙◌}
use Rattle.std.proofs.Common.{subst, arith}
use Rattle.std.proofs.lemmas.List.{map_push, length-map}
use Rattle.std.proofs.lemmas.List.Elements.{All-push}
use Rattle.ipnet_base.specs.Address.{greatest_number}
use Rattle.ipnet_sets.proofs.InsideLaws.{is_odd, opposite, alike}
use Rattle.ipnet_sets.proofs.BoundaryLaws.{IsCombining, combining_start, combining_push, combining_same, boundary_fits}
use Rattle.ipnet_sets.proofs.boundaries.combine.Goals as goal

pub loop-first_at-init : goal.loop-first_at-init
loop-first_at-init g c =
    let number = g.T.Number.number in
    let none : map number c.new-boundaries.result.items ≡ [] = ap (map number) c.new-boundaries.ensures.items in
    record {
      combining = subst (IsCombining c.args.operation (map number c.args.first.now) 0 (map number c.args.second.now) 0)
          (sym none) (combining_start c.args.operation (map number c.args.first.now) (map number c.args.second.now));
      fits = subst (All (λ t. t ≤ greatest_number g.T.Number.family)) (sym none) (λ k d l. absurd (omega (arith, l)));
    }

pub loop-first_at-preserved-in-Continue-1 : goal.loop-first_at-preserved-in-Continue-1
loop-first_at-preserved-in-Continue-1 g c =
    let number = g.T.Number.number in
    let first = map number c.args.first.now in
    let second = map number c.args.second.now in
    let boundaries = map number c.loop-first_at.boundaries.items in
    let boundary = c.next_boundary-boundary.result in
    let size : c.len-made.result ≡ length boundaries
    = omega (arith, length-map c.loop-first_at.boundaries.items number) in
    let pushed : map number c.push.new.self.items ≡ boundaries ++ number boundary.number ∷ []
    = ap (map number) c.in_ok-push.ensures.items ∙ map_push number c.loop-first_at.boundaries.items boundary.number in
    record {
      combining = subst (IsCombining c.args.operation first boundary.first second boundary.second) (sym pushed)
          (combining_push c.args.operation first c.loop-first_at.first_at second c.loop-first_at.second_at boundaries
          (number boundary.number) boundary.first boundary.second c.requires.first.ascending c.requires.second.ascending
          c.next_boundary-boundary.ensures c.loop-first_at.invariant.combining
          (ap (λ n. not (is_odd n)) (sym size)
          ∙ opposite c.takes-inside.result (is_odd c.len-made.result) c.if-changes.true ∙ c.takes-inside.ensures));
      fits = subst (All (λ t. t ≤ greatest_number g.T.Number.family)) (sym pushed)
          (All-push (λ t. t ≤ greatest_number g.T.Number.family) boundaries (number boundary.number)
          c.loop-first_at.invariant.fits
          (boundary_fits g.T.Number.family first c.loop-first_at.first_at second c.loop-first_at.second_at
          (number boundary.number) boundary.first boundary.second c.requires.first c.requires.second
          c.next_boundary-boundary.ensures));
    }

pub loop-first_at-preserved : goal.loop-first_at-preserved
loop-first_at-preserved g c =
    let number = g.T.Number.number in
    let first = map number c.args.first.now in
    let second = map number c.args.second.now in
    let boundaries = map number c.loop-first_at.boundaries.items in
    let boundary = c.next_boundary-boundary.result in
    let size : c.len-made.result ≡ length boundaries
    = omega (arith, length-map c.loop-first_at.boundaries.items number) in
    record {
      combining =
          combining_same c.args.operation first c.loop-first_at.first_at second c.loop-first_at.second_at boundaries
          (number boundary.number) boundary.first boundary.second c.requires.first.ascending c.requires.second.ascending
          c.next_boundary-boundary.ensures c.loop-first_at.invariant.combining
          (ap is_odd (sym size) ∙ alike c.takes-inside.result (is_odd c.len-made.result) c.if-changes.false
          ∙ c.takes-inside.ensures);
      fits = c.loop-first_at.invariant.fits;
    }

pub returns-clause-boundaries : goal.returns-clause-boundaries
returns-clause-boundaries g c = record {
  ascending = c.loop-first_at.invariant.combining.ascending;
  fits = c.loop-first_at.invariant.fits;
}
