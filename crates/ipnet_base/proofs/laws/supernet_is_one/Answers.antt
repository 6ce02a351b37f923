use Rattle.ipnet_base.proofs.SupernetLaws.{IsSupernetOf-unique, other_half_exists, supernet, IsSupernetOf-supernet}
use Rattle.ipnet_base.proofs.laws.supernet_is_one.Goals as goal

pub returns : goal.returns
returns c = record {
  exists = λ n u long. (supernet n, IsSupernetOf-supernet n u long);
  one = IsSupernetOf-unique;
  other_half = other_half_exists;
}
