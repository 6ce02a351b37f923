use Rattle.ipnet_base.specs.Address.{IsAcceptedBy}
use Rattle.ipnet_base.proofs.SeparationLaws.{AreMaximalBlocks-append, IsAggregateOf-append}
use Rattle.ipnet_base.proofs.laws.separated_blocks_append.Goals as goal

pub returns : goal.returns
returns c = record {
  of_sets = λ first second m networks others apart h k.
      AreMaximalBlocks-append (IsAcceptedBy first) (IsAcceptedBy second) m apart networks others h k;
  of_lists = IsAggregateOf-append;
}
