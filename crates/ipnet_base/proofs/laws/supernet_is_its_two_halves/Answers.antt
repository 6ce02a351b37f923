use Rattle.ipnet_base.proofs.SupernetLaws.{supernet_to_halves, halves_to_supernet, halves_apart}
use Rattle.ipnet_base.proofs.laws.supernet_is_its_two_halves.Goals as goal

pub returns : goal.returns
returns c = record {
  union = λ s n k u p h x. (supernet_to_halves s n k u p h x, halves_to_supernet s n k u p h x);
  apart = halves_apart;
}
