use Rattle.std.proofs.Common.{◌++◌, ◌∙◌, ap, append_assoc, string_bytes}
use Rattle.ipnet.specs.NetworkOf.{ip_network}
use Rattle.svg_maps.proofs.CountLaws.{one_count_more}
use Rattle.svg_maps.proofs.square.push_all_counted.Goals as goal

pub loop-one-preserved : goal.loop-one-preserved
loop-one-preserved c =
    let (more, so_far, e) = c.loop-one.invariant in
    let (one, is, pushed) = c.in_ok-push_counted.ensures in (
      more ++ one,
      one_count_more (ip_network c.args.network.now) c.args.counted.now c.loop-one.one-index c.one-item.result more one
          c.loop-one-test.true c.one-item.is so_far is,
      pushed ∙ ap (λ z. z ++ one) e ∙ append_assoc (string_bytes c.args.text.now) more one,
    )
