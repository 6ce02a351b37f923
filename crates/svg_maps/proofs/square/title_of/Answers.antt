use Rattle.std.proofs.Common.{◌++◌, ◌∙◌, ap}
use Rattle.ipnet.specs.NetworkOf.{ip_network}
use Rattle.svg_maps.specs.Squares.{title_start}
use Rattle.svg_maps.proofs.square.title_of.Goals as goal

pub returns : goal.returns
returns c =
    let (counts, each, pushed) = c.in_ok-push_all_counted.ensures in
    let start = title_start (ip_network c.args.network.now) in record {
      counts = counts;
      each = each;
      spelled = pushed ∙ ap (λ z. z ++ counts)
          (c.in_ok-push_title_start.ensures ∙ ap (λ z. z ++ start) c.new-text.ensures.bytes);
    }
