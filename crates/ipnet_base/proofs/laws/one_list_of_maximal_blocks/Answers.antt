-- Two ascending lists with the same members are equal; here at each kind of set.
use Rattle.ipnet_base.specs.Address.{IsAcceptedBy, IsBetween}
use Rattle.ipnet_base.specs.Blocks.{IsCoveredBy}
use Rattle.ipnet_base.proofs.UniqueLaws.{AreMaximalBlocks-unique}
use Rattle.ipnet_base.proofs.laws.one_list_of_maximal_blocks.Goals as goal

pub returns : goal.returns
returns c = record {
  of_set = λ test m a b. AreMaximalBlocks-unique (IsAcceptedBy test) m a b;
  of_cover = λ networks m a b. AreMaximalBlocks-unique (IsCoveredBy networks) m a b;
  of_range = λ f start end m a b. AreMaximalBlocks-unique (IsBetween f start end) m a b;
}
