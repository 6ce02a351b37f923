-- The blocks are the maximal blocks of what is free, so the first one for the request gives the best fit.
use Rattle.std.proofs.Common.{sym, subst, IfNone}
use Rattle.ipnet.specs.NetworkOf.{ip_network}
use Rattle.ipnet.specs.NetLaws.{ip_valid}
use Rattle.ipnet_pools.specs.BlocksOf.{blocks_of}
use Rattle.ipnet_pools.specs.Fits.{HasRoom, IsBestFit}
use Rattle.ipnet_pools.specs.FreeOf.{IsIn}
use Rattle.ipnet_pools.proofs.BestLaws.{first_is_fit, none_is_no_room}
use Rattle.ipnet_pools.proofs.FreeLaws.{own_of}
use Rattle.ipnet_pools.proofs.free.FreeBlocks.best.Goals as goal

pub returns-in_err-block-clause-none : goal.returns-in_err-block-clause-none
returns-in_err-block-clause-none c =
    let free = c.args.self.now in
    let request = ip_network c.args.request.now in
    subst (λ r. IfNone r (¬ (HasRoom (IsIn free) request.family request.prefix_len))) (sym c.from_residual.ensures)
    (none_is_no_room (blocks_of free.blocks) (own_of free) request c.in_err-block.ensures.none)

pub returns-clause-best : goal.returns-clause-best
returns-clause-best c =
    let free = c.args.self.now in
    let request = ip_network c.args.request.now in
    subst (IsBestFit (IsIn free) request.family request.prefix_len) (sym c.at_start.ensures)
    (first_is_fit (blocks_of free.blocks) (own_of free) request (ip_network c.in_ok-block.block)
    (ip_valid c.args.request.now) c.in_ok-block.ensures.some)
