-- The table agrees with the definition at each byte (`TableLaws`).
use Rattle.std.proofs.Common.{min, get_or, refl, arith}
use Rattle.std.specs.Char.{digit_value}
use Rattle.std.proofs.Math.Dec.{eqb}
use Rattle.std.proofs.lemmas.Bool.{eqb-true}
use Rattle.ipnet_base.specs.declared.digits.TheConstants.{HEX_DIGITS}
use Rattle.ipnet_base.proofs.TableLaws.{agree_below, agree_at}
use Rattle.ipnet_base.proofs.digits.hex_value.Goals as goal

pub returns : goal.returns
unfolding agree_below
returns c =
    agree_at eqb eqb-true (λ k. get_or HEX_DIGITS k 0) (λ k. min 16 (digit_value k)) 256 refl c.args.byte (omega arith)
