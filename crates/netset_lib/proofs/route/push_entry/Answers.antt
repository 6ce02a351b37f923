use Rattle.std.proofs.Common.{◌≡◌, ◌++◌, refl, sym, ◌∙◌, subst, append-nil}
use Rattle.ipnet.specs.SubnetsLeft.{ip_subnets_left}
use Rattle.ipnet_base.specs.Blocks.{AreMaximalBlocks}
use Rattle.ipnet_routes.specs.Routes.{ip_networks}
use Rattle.ipnet_sets.specs.SetRanges.{IsInRange}
use Rattle.ipnet_lists.specs.EntryOf.{entry_range}
use Rattle.netset_lib.proofs.TableLaws.{adds_blocks}
use Rattle.netset_lib.proofs.route.push_entry.Goals as goal

pub loop-network-init : goal.loop-network-init
loop-network-init c = refl

pub returns : goal.returns
returns c =
    let old = ip_networks c.args.routes.now.items in
    let now = ip_networks c.loop-network.routes.items in
    let more = ip_subnets_left c.into_iter-network-iterator.result in
    adds_blocks old more now (entry_range c.args.entry)
    (subst (λ w. AreMaximalBlocks (IsInRange (entry_range c.args.entry)) 0 (ip_subnets_left w))
    (sym c.into_iter-network-iterator.ensures.into_iter_gives) c.walk-network-items.ensures)
    (sym (append-nil now) ∙ subst (λ z. now ++ z ≡ old ++ more) c.in-None.ensures.steps.0 c.loop-network.invariant)
