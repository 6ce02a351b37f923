-- The step is maximal, since a larger block would start earlier; its last address is the formula's (`WalkLaws`).
use Rattle.std.proofs.Common.{◌+◌, subst}
use Rattle.ipnet_base.specs.Address.{IsBetween}
use Rattle.ipnet_base.specs.Blocks.{AreMaximalBlocks}
use Rattle.ipnet_base.proofs.BlockLaws.{last_from_greatest}
use Rattle.ipnet_base.proofs.WalkLaws.{step_exists, IsMaximal-from_step, AreMaximalBlocks-step}
use Rattle.ipnet_base.proofs.laws.largest_subnet_is_the_next_block.Goals as goal

pub returns : goal.returns
returns c = record {
  exists = step_exists;
  maximal = IsMaximal-from_step;
  in_front = λ f start end m n last rest step greatest blocks. AreMaximalBlocks-step f start end m n rest step
      (subst (λ k. AreMaximalBlocks (IsBetween f (k + 1) end) m rest) (last_from_greatest n last greatest) blocks);
}
