use Rattle.netset_entries.specs.NoteSteps.{family_if}
use Rattle.netset_entries.proofs.TitledBlocks.{small_line}
use Rattle.netset_entries.proofs.noted.NotedBlocks.is_small.Goals as goal

pub returns-in-Some : goal.returns-in-Some
returns-in-Some c = λ small.
    let b = c.args.self.now in
    let line = c.args.line.now in
    let network = c.in-Some.network in
    small_line b line line (family_if network.is_ipv6) network.len c.in-Some.ensures.contents
    c.in-Some.ensures.blocks (c.is_past.ensures.0 small)

pub returns-in-Some-plain_network : goal.returns-in-Some-plain_network
returns-in-Some-plain_network c = λ small.
    let b = c.args.self.now in
    let network = c.in-Some-plain_network.network in
    small_line b c.args.line.now c.contents_of-text.result.now (family_if network.is_ipv6) network.len
    c.contents_of-text.ensures c.in-Some-plain_network.ensures.blocks (c.is_past-in-Some-plain_network.ensures.0 small)
