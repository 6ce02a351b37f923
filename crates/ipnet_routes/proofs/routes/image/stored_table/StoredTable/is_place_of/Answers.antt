-- The two neighbours of the place decide.
use Rattle.std.proofs.Common.{◌≡◌, true, false, arith}
use Rattle.ipnet_base.proofs.ResultLaws.{true_gives, false_gives}
use Rattle.ipnet.specs.NetworkOf.{ip_network}
use Rattle.ipnet_routes.proofs.TableImageLaws.{as_networks}
use Rattle.ipnet_routes.proofs.TableCheckLaws.{place_from_neighbours}
use Rattle.ipnet_routes.proofs.routes.image.stored_table.StoredTable.is_place_of.Goals as goal

pub returns-then-place-len : goal.returns-then-place-len
returns-then-place-len c t h = (
  λ e. let apart : false ≡ true = e in absurd (cc),
  λ p. absurd (omega (
    arith,
    p.within,
    as_networks c.args.self.now.bytes.now t h,
    c.if-place-len.true,
    c.len.ensures,
  )),
)

pub returns-then-not-is_after : goal.returns-then-not-is_after
returns-then-not-is_after c t h = (
  λ e. let apart : false ≡ true = e in absurd (cc),
  λ p. absurd (false_gives c.is_after.result (c.is_after.ensures t h) c.if-not-is_after.true
      (λ k at e. p.before k at (omega (arith, e)))),
)

pub returns : goal.returns
returns c t h = (
  λ yes. place_from_neighbours c.args.self.now.bytes.now t h (ip_network c.args.network.now) c.args.place
      (omega (arith, c.if-place-len.false, c.len.ensures))
      (true_gives c.is_after.result (c.is_after.ensures t h) c.if-not-is_after.false) ((c.is_up_to.ensures t h).0 yes),
  λ p. (c.is_up_to.ensures t h).1 (λ k at e. p.from k at (omega (arith, e))),
)
