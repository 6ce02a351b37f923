use Rattle.ipnet_base.specs.Masks.{IsNetmaskOf}
use Rattle.ipnet_base.proofs.ResultLaws.{error_where_none}
use Rattle.ipnet_base.proofs.mask.laws.masks_of_no_prefix_len_are_refused.Goals as goal

pub returns : goal.returns
returns c = λ f number. error_where_none (IsNetmaskOf f number) c.args.prefix_len
