use Rattle.std.proofs.Common.{◌≤◌, ◌<◌, ◌↔◌, [], ◌∷◌, None, sym, subst, arith}
use Rattle.std.proofs.lemmas.Bool.Decides.{nat_tests}
use Rattle.std.proofs.lemmas.Result.{IfOk-weaker}
use Rattle.ipnet_base.specs.Address.{Address}
use Rattle.ipnet_base.proofs.CoverLaws.{cover_nil}
use Rattle.ipnet.specs.NetworkOf.{ip_network}
use Rattle.ipnet_sets.specs.Members.{IsMember}
use Rattle.ipnet_sets.specs.NetworksLeft.{networks_left}
use Rattle.ipnet_sets.proofs.ManyLaws.{both_ways}
use Rattle.ipnet_sets.proofs.SetEqualLaws.{member_or_not}
use Rattle.ipnet_maps.specs.declared.level.Level.TheVariants.{Sparse, BelowQuarter, FromQuarter, Whole}
use Rattle.ipnet_maps.specs.Levels.{IsLevelOf}
use Rattle.ipnet_maps.specs.Cells.{IsInCell}
use Rattle.ipnet_maps.specs.LevelSteps.{IsPushedAs}
use Rattle.ipnet_maps.proofs.LevelWalkLaws.{IsWalk, walk_begin, walk_large, joined_fits, walk_joined, none_in_open}
use Rattle.ipnet_maps.proofs.LevelWalkLaws.{walk_opened, walk_end, open_fits, closed_to}
use Rattle.ipnet_maps.proofs.levels.level_cells.Goals as goal

pub loop-network-init : goal.loop-network-init
loop-network-init c =
    subst
    (λ it. IsWalk (IsMember c.args.set.now) c.args.cell_len (networks_left it) None (IsPushedAs c.new-known.result))
    (sym c.into_iter-network-iterator.ensures.into_iter_gives)
    (walk_begin (IsMember c.args.set.now) c.args.cell_len (networks_left c.iter_networks-network-items.result)
    (IsPushedAs c.new-known.result) (member_or_not c.args.set.now) (λ x m. m.fits)
    c.iter_networks-network-items.ensures c.new-known.ensures)

pub loop-network-preserved-then-prefix_len-cell_len : goal.loop-network-preserved-then-prefix_len-cell_len
loop-network-preserved-then-prefix_len-cell_len c =
    let InSet = IsMember c.args.set.now in
    let len = c.args.cell_len in
    let n = ip_network c.in-Some.network in
    let rest = networks_left c.next.new.self in
    let Known = IsPushedAs c.loop-network.known in
    let large : n.prefix_len ≤ len
    = grind (arith, nat_tests, c.if-prefix_len-cell_len.true, c.prefix_len.ensures) in
    walk_large InSet len (λ x m. m.fits) n rest c.loop-network.current Known
    (subst (λ z. IsWalk InSet len z c.loop-network.current Known) c.in-Some.ensures.steps c.loop-network.invariant)
    large (IsPushedAs c.push.new.self) c.in_ok-push.ensures

pub joined-requires : goal.joined-requires
joined-requires c =
    let InSet = IsMember c.args.set.now in
    let len = c.args.cell_len in
    let n = ip_network c.in-Some.network in
    let rest = networks_left c.next.new.self in
    let Known = IsPushedAs c.loop-network.known in
    let walk = subst (λ z. IsWalk InSet len z c.loop-network.current Known) c.in-Some.ensures.steps
    c.loop-network.invariant in
    joined_fits InSet len (λ x m. m.fits) n rest c.loop-network.current Known walk c.loop-network.current walk.opened

pub loop-network-preserved-in-Some-joined : goal.loop-network-preserved-in-Some-joined
loop-network-preserved-in-Some-joined c =
    let InSet = IsMember c.args.set.now in
    let len = c.args.cell_len in
    let n = ip_network c.in-Some.network in
    let rest = networks_left c.next.new.self in
    let Known = IsPushedAs c.loop-network.known in
    walk_joined InSet len (λ x m. m.fits) n rest c.loop-network.current Known
    (subst (λ z. IsWalk InSet len z c.loop-network.current Known) c.in-Some.ensures.steps c.loop-network.invariant)
    c.in-Some-joined.cell c.in-Some-joined.ensures.joined

pub close-requires : goal.close-requires
close-requires c =
    open_fits (IsMember c.args.set.now) c.args.cell_len (networks_left c.loop-network.network-iterator)
    c.loop-network.current c.loop-network.invariant.opened

pub loop-network-preserved : goal.loop-network-preserved
loop-network-preserved c =
    let InSet = IsMember c.args.set.now in
    let len = c.args.cell_len in
    let n = ip_network c.in-Some.network in
    let rest = networks_left c.next.new.self in
    let Known = IsPushedAs c.loop-network.known in
    let small : len < n.prefix_len
    = grind (arith, nat_tests, c.if-prefix_len-cell_len.false, c.prefix_len.ensures) in
    let walk = subst (λ z. IsWalk InSet len z c.loop-network.current Known) c.in-Some.ensures.steps
    c.loop-network.invariant in
    let other = c.in_default.ensures.other in
    walk_opened InSet len (λ x m. m.fits) n rest c.loop-network.current Known walk small other
    (IsPushedAs c.close.new.self)
    (closed_to InSet len (λ x m. m.fits) (n ∷ rest) c.loop-network.known c.close.new.self c.loop-network.current
    walk.opened (none_in_open InSet len (λ x m. m.fits) n rest c.loop-network.current Known walk small other)
    walk.sound c.in_ok-close.ensures) c.opened.result c.opened.ensures.cell c.opened.ensures.count

pub close-requires-2 : goal.close-requires-2
close-requires-2 c =
    open_fits (IsMember c.args.set.now) c.args.cell_len (networks_left c.loop-network.network-iterator)
    c.loop-network.current c.loop-network.invariant.opened

pub returns-clause-some : goal.returns-clause-some
returns-clause-some c =
    let InSet = IsMember c.args.set.now in
    let len = c.args.cell_len in
    let walk = subst (λ z. IsWalk InSet len z c.loop-network.current (IsPushedAs c.loop-network.known))
    c.in-None.ensures.steps.0 c.loop-network.invariant in
    IfOk-weaker c.into_cells.result
    (λ cells. (x : Address) → IsMember cells.some x ↔ IsPushedAs c.close-2.new.self Sparse x)
    (λ cells. (x : Address) → IsMember cells.some x ↔ IsInCell len (λ n. IsLevelOf InSet n Sparse) x)
    (λ cells h x. both_ways (h x)
    (walk_end InSet len (λ y m. m.fits) c.loop-network.current (IsPushedAs c.loop-network.known)
    (IsPushedAs c.close-2.new.self) walk
    (closed_to InSet len (λ y m. m.fits) [] c.loop-network.known c.close-2.new.self c.loop-network.current
    walk.opened (λ y left inside. cover_nil y left) walk.sound c.in_ok-close-2.ensures) Sparse (λ e. cc) x))
    c.into_cells.ensures.some

pub returns-clause-below_quarter : goal.returns-clause-below_quarter
returns-clause-below_quarter c =
    let InSet = IsMember c.args.set.now in
    let len = c.args.cell_len in
    let walk = subst (λ z. IsWalk InSet len z c.loop-network.current (IsPushedAs c.loop-network.known))
    c.in-None.ensures.steps.0 c.loop-network.invariant in
    IfOk-weaker c.into_cells.result
    (λ cells. (x : Address) → IsMember cells.below_quarter x ↔ IsPushedAs c.close-2.new.self BelowQuarter x)
    (λ cells. (x : Address) → IsMember cells.below_quarter x ↔ IsInCell len (λ n. IsLevelOf InSet n BelowQuarter) x)
    (λ cells h x. both_ways (h x)
    (walk_end InSet len (λ y m. m.fits) c.loop-network.current (IsPushedAs c.loop-network.known)
    (IsPushedAs c.close-2.new.self) walk
    (closed_to InSet len (λ y m. m.fits) [] c.loop-network.known c.close-2.new.self c.loop-network.current
    walk.opened (λ y left inside. cover_nil y left) walk.sound c.in_ok-close-2.ensures) BelowQuarter (λ e. cc) x))
    c.into_cells.ensures.below_quarter

pub returns-clause-from_quarter : goal.returns-clause-from_quarter
returns-clause-from_quarter c =
    let InSet = IsMember c.args.set.now in
    let len = c.args.cell_len in
    let walk = subst (λ z. IsWalk InSet len z c.loop-network.current (IsPushedAs c.loop-network.known))
    c.in-None.ensures.steps.0 c.loop-network.invariant in
    IfOk-weaker c.into_cells.result
    (λ cells. (x : Address) → IsMember cells.from_quarter x ↔ IsPushedAs c.close-2.new.self FromQuarter x)
    (λ cells. (x : Address) → IsMember cells.from_quarter x ↔ IsInCell len (λ n. IsLevelOf InSet n FromQuarter) x)
    (λ cells h x. both_ways (h x)
    (walk_end InSet len (λ y m. m.fits) c.loop-network.current (IsPushedAs c.loop-network.known)
    (IsPushedAs c.close-2.new.self) walk
    (closed_to InSet len (λ y m. m.fits) [] c.loop-network.known c.close-2.new.self c.loop-network.current
    walk.opened (λ y left inside. cover_nil y left) walk.sound c.in_ok-close-2.ensures) FromQuarter (λ e. cc) x))
    c.into_cells.ensures.from_quarter

pub returns-clause-whole : goal.returns-clause-whole
returns-clause-whole c =
    let InSet = IsMember c.args.set.now in
    let len = c.args.cell_len in
    let walk = subst (λ z. IsWalk InSet len z c.loop-network.current (IsPushedAs c.loop-network.known))
    c.in-None.ensures.steps.0 c.loop-network.invariant in
    IfOk-weaker c.into_cells.result
    (λ cells. (x : Address) → IsMember cells.whole x ↔ IsPushedAs c.close-2.new.self Whole x)
    (λ cells. (x : Address) → IsMember cells.whole x ↔ IsInCell len (λ n. IsLevelOf InSet n Whole) x)
    (λ cells h x. both_ways (h x)
    (walk_end InSet len (λ y m. m.fits) c.loop-network.current (IsPushedAs c.loop-network.known)
    (IsPushedAs c.close-2.new.self) walk
    (closed_to InSet len (λ y m. m.fits) [] c.loop-network.known c.close-2.new.self c.loop-network.current
    walk.opened (λ y left inside. cover_nil y left) walk.sound c.in_ok-close-2.ensures) Whole (λ e. cc) x))
    c.into_cells.ensures.whole
