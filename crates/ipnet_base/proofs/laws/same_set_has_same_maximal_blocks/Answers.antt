-- Whether a block is maximal depends only on the members of the set; covers and ranges can be decided, so they have
-- a test.
use Rattle.ipnet_base.specs.Address.{IsAcceptedBy, IsBetween}
use Rattle.ipnet_base.specs.Blocks.{IsCoveredBy}
use Rattle.ipnet_base.proofs.UniqueLaws.{AreMaximalBlocks-same_set}
use Rattle.ipnet_base.proofs.DecidedLaws.{IsDecided-cover, IsDecided-between, test_of_decided}
use Rattle.ipnet_base.proofs.laws.same_set_has_same_maximal_blocks.Goals as goal

pub returns : goal.returns
returns c = record {
  of_set = λ test other m blocks same. (
    AreMaximalBlocks-same_set (IsAcceptedBy test) (IsAcceptedBy other) m blocks same,
    AreMaximalBlocks-same_set (IsAcceptedBy other) (IsAcceptedBy test) m blocks (λ x. ((same x).1, (same x).0)),
  );
  cover_test = λ networks. test_of_decided (IsCoveredBy networks) (IsDecided-cover networks);
  range_test = λ f start end. test_of_decided (IsBetween f start end) (IsDecided-between f start end);
}
