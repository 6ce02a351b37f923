use Rattle.std.proofs.Common.{◌≡◌, ◌+◌, ◌-◌, ◌∙◌, map, ap, arith}
use Rattle.ipnet.specs.NetworkOf.{ip_network}
use Rattle.svg_maps.specs.FreeOutlines.{largest_first}
use Rattle.svg_maps.proofs.FreeLaws.{one_length_taken}
use Rattle.svg_maps.proofs.free.largest_blocks.Goals as goal

pub loop-len-preserved : goal.loop-len-preserved
loop-len-preserved c = record {
  from = omega (arith, c.loop-len.invariant.from);
  to = omega (arith, c.loop-len-test.true);
  taken = one_length_taken (map ip_network c.args.blocks.now) c.prefix_len-first.result c.loop-len.len
      (map ip_network c.loop-len.list.items) (map ip_network c.push_with_len.new.list.items)
      c.loop-len.invariant.from c.loop-len.invariant.taken c.in_ok-push_with_len.ensures;
}

pub returns : goal.returns
returns c =
    let blocks = map ip_network c.args.blocks.now in
    let first = c.prefix_len-first.result in
    let all : c.loop-len.len - first ≡ c.args.depth + 1
    = omega (arith, c.loop-len.invariant.to, c.loop-len-test.false) in
    c.loop-len.invariant.taken ∙ ap (largest_first blocks first) all
    ∙ ap (λ z. largest_first blocks z (c.args.depth + 1)) c.prefix_len-first.ensures
