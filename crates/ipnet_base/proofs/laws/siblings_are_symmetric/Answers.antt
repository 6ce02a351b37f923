use Rattle.ipnet_base.proofs.SupernetLaws.{AreSiblings-symmetric, AreSiblings-reflexive}
use Rattle.ipnet_base.proofs.laws.siblings_are_symmetric.Goals as goal

pub returns : goal.returns
returns c = record {
  symmetric = AreSiblings-symmetric;
  own = AreSiblings-reflexive;
}
