use Rattle.ipnet_base.specs.Address.{IsAcceptedBy}
use Rattle.ipnet_base.proofs.UniqueLaws.{AreMaximalBlocks-from_members}
use Rattle.ipnet_base.proofs.laws.covering_blocks_are_all.Goals as goal

pub returns : goal.returns
returns c test m networks ascending maximal covered =
    AreMaximalBlocks-from_members (IsAcceptedBy test) m networks ascending maximal covered
