-- The machine's `&` and `|`, bit by bit.
use Rattle.std.proofs.Common.{◌≡◌, ℕ, ◌^◌, ◌<◌, sym, subst, arith, bit_and, bit_or}
use Rattle.std.proofs.lemmas.Nat.{and_le_l, or_lt}
use Rattle.std.proofs.lemmas.Nat.Bits.{bit_at_and, bit_at_or}
use Rattle.ipnet_base.specs.Address.{Family, width}
use Rattle.ipnet_base.specs.Arithmetic.{IsBitwiseAnd, IsBitwiseOr}

pub and_is_bitwise : (family : Family) (a b n : ℕ) → n ≡ bit_and a b → a < 2 ^ width family → IsBitwiseAnd family a b n
and_is_bitwise family a b n e fits =
    subst (IsBitwiseAnd family a b) (sym e) (record {
      fits = omega (arith, and_le_l a b);
      bits = λ i _. bit_at_and a b i;
    })

pub or_is_bitwise : (family : Family) (a b n : ℕ) → n ≡ bit_or a b → a < 2 ^ width family → b < 2 ^ width family
    → IsBitwiseOr family a b n
or_is_bitwise family a b n e fits fits' =
    subst (IsBitwiseOr family a b) (sym e) (record {
      fits = or_lt (width family) a b fits fits';
      bits = λ i _. bit_at_or a b i;
    })
