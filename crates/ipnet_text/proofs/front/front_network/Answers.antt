-- A line with a network of one family is a line with a network.
use Rattle.std.proofs.Common.{inl, inr}
use Rattle.ipnet_text.proofs.front.front_network.Goals as goal

pub returns-in-Some : goal.returns-in-Some
returns-in-Some c =
    let h = c.in-Some.ensures in
    record { network = inl h.network; newline = h.newline; within = h.within; lines = h.lines }

pub returns : goal.returns
returns c =
    let h = c.in_ok-network.ensures in
    record { network = inr h.network; newline = h.newline; within = h.within; lines = h.lines }
