use Rattle.std.proofs.Common.{◌≡◌, ◌+◌, ◌^◌, ◌∙◌, refl}
use Rattle.ipnet_base.specs.Address.{Family, IPv4, IPv6, width, greatest_number}
use Rattle.ipnet_sets.proofs.CountLaws.{counts_add_up}
use Rattle.ipnet_sets.proofs.set.laws.counts_of_complements_add_up.Goals as goal

whole : (f : Family) → greatest_number f + 1 ≡ 2 ^ width f
whole IPv4 = refl
whole IPv6 = refl

pub returns : goal.returns
returns c f s t m n complement h k = counts_add_up f s t m n complement h k ∙ whole f
