-- The address, "/" and the prefix length are the first line (`FrontTexts`).
use Rattle.std.proofs.Common.{take}
use Rattle.ipnet.specs.NetworkOf.{ipv4_network}
use Rattle.ipnet_text.proofs.FrontTexts.{front_at}
use Rattle.ipnet_text.proofs.front.ipv4_line.Goals as goal

pub returns : goal.returns
returns c =
    front_at c.args.bytes.now c.in_ok-address.len c.in_ok-network.digits (ipv4_network c.in_ok-network.network)
    c.if-bytes-lt-LONGEST_IPV4.false c.in_ok-address.ensures.few c.in_ok-network.ensures.few
    c.if-bytes-len-ne47.false
    (c.in_ok-network.ensures.network (take c.in_ok-address.len c.args.bytes.now) c.in_ok-address.ensures.address)
    c.in_ok-network.ensures.newline
