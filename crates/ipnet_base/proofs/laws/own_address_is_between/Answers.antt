use Rattle.ipnet_base.proofs.BlockLaws.{least_to_own, own_to_greatest}
use Rattle.ipnet_base.proofs.laws.own_address_is_between.Goals as goal

pub returns : goal.returns
returns c = λ n low high p q. (least_to_own n low p, own_to_greatest n high q)
