-- The formula gives the block and the length, and these two determine a truncated network (`NetworkLaws`).
use Rattle.ipnet_base.proofs.NetworkLaws.{IsTruncationOf-truncation, truncation_from_relation, truncation_of_truncated}
use Rattle.ipnet_base.proofs.NetworkLaws.{truncation_twice}
use Rattle.ipnet_base.proofs.laws.truncation_is_one.Goals as goal

pub returns : goal.returns
returns c = record {
  exists = IsTruncationOf-truncation;
  one = truncation_from_relation;
  own = truncation_of_truncated;
  twice = truncation_twice;
}
