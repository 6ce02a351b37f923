use Rattle.ipnet_base.specs.Address.{IsAcceptedBy}
use Rattle.ipnet_base.proofs.ShortestLaws.{shortest, one_as_short}
use Rattle.ipnet_base.proofs.laws.no_cover_is_shorter.Goals as goal

pub returns : goal.returns
returns c = record {
  shortest = λ test m blocks cover h e. shortest (IsAcceptedBy test) m blocks cover h e;
  only = λ test m blocks cover h e same. one_as_short (IsAcceptedBy test) m blocks cover h e same;
}
