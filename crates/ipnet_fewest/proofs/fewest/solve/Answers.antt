use Rattle.std.proofs.Common.{subst}
use Rattle.ipnet.specs.NetworkOf.{ip_network}
use Rattle.ipnet_routes.specs.Routes.{ip_routes}
use Rattle.ipnet_fewest.specs.SolvedBlocks.{IsBlock}
use Rattle.ipnet_fewest.proofs.fewest.solve.Goals as goal

pub returns : goal.returns
returns c =
    let wanted = ip_routes c.args.routes.now in
    let around = ip_network c.args.around.now in
    let block = c.in_ok-block.block in
    let choices = c.solved.new.choices.items in
    record {
      truncated = c.requires.table.around_truncated;
      of_block = subst (λ z. IsBlock z choices wanted 0 around block) c.new-choices.ensures.items c.in_ok-block.ensures;
    }
