use Rattle.std.proofs.Common.{◌≡◌, ◌++◌, ◌∙◌, ap}
use Rattle.std.proofs.lemmas.Result.{IfOk-weaker}
use Rattle.ipnet.specs.NetworkOf.{ip_network}
use Rattle.ipnet_sets.specs.Members.{IsMember}
use Rattle.svg_maps.specs.Overlays.{AreOutlinesOver}
use Rattle.svg_maps.proofs.overlay.overlay_of.Goals as goal

pub returns : goal.returns
returns c =
    let entries = c.in_ok-entries.entries.outlines.items in
    let named = c.in_ok-named.named.outlines.items in
    let free = c.in_ok-free.free.outlines.items in
    let others = c.in_ok-others.others.outlines.items in
    IfOk-weaker c.joined-2.result (λ overlay. overlay.outlines.items ≡ entries ++ others)
    (λ overlay. AreOutlinesOver c.args.look c.args.counted.now (IsMember c.args.all.now)
    (ip_network c.args.extent.frame.now) c.args.extent.depth overlay.outlines.items) (λ overlay e. record {
      entries = entries;
      are_entries = c.in_ok-entries.ensures;
      named = named;
      are_named = c.in_ok-named.ensures;
      free = free;
      are_free = c.in_ok-free.ensures;
      all = e ∙ ap (λ z. entries ++ z) c.in_ok-others.ensures;
    }) c.joined-2.ensures
