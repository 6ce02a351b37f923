-- Reading a text from a reader without keeping it in memory.
use Rattle.std.specs.Prelude.{◌≡◌, ℕ, List, [], ◌++◌, length, All, Contains, IsUtf8, Option}
use Rattle.std.specs.Io.KnownBytes.{Consumes}
use Rattle.ipnet.specs.Network.{Network}
use Rattle.ipnet.specs.Blocks.{HaveSameCover}
use Rattle.ipnet.specs.declared.parser.Grammar.{Grammar}
use Rattle.ipnet.specs.Lines.{lines_of, AreNetworksOf, IsFirstBadLine}
use Rattle.ipnet_text.specs.BadLines.{StartsWithBadLine}
use Rattle.ipnet_text.specs.Inputs.{GaveWhole}

-- The reader returned a whole text, and these networks cover the same addresses as the networks of its lines.
pub record AreReadFrom (grammar : Grammar) (left left_after : Option (List ℕ)) (networks : List Network) : Type 0 where
  pub text : List ℕ
  pub read : GaveWhole left left_after text
  pub written : List Network
  pub are : AreNetworksOf grammar (lines_of text) written
  pub same : HaveSameCover written networks

-- The reader returned a whole text, in UTF-8, and its first bad line has this number.
pub record IsBadLineFrom (grammar : Grammar) (left left_after : Option (List ℕ)) (number : ℕ) : Type 0 where
  pub text : List ℕ
  pub is_text : IsUtf8 text
  pub read : GaveWhole left left_after text
  pub bad : IsFirstBadLine grammar (lines_of text) number

-- The reader returned a whole input that is not UTF-8.
-- Example: the bytes `"10.0.0.0/24\n"` and then the byte 255.
pub record IsNoTextFrom (left left_after : Option (List ℕ)) : Type 0 where
  pub bytes : List ℕ
  pub read : GaveWhole left left_after bytes
  pub no_text : ¬ (IsUtf8 bytes)

-- Complete lines were read, in UTF-8, and a front of the next line. A network comes before the first bad line of them,
-- so memory was needed for it.
-- Example: the lines `10.0.0.0/24` and `x`; not an empty line and `x`.
pub record TakesMemoryFrom (grammar : Grammar) (left left_after : Option (List ℕ)) : Type 0 where
  pub text : List ℕ
  pub rest : List ℕ
  pub read : Consumes left left_after (text ++ rest)
  pub is_text : IsUtf8 text
  pub no_more_lines : ¬ (Contains rest 10)
  pub some : ¬ (All (λ line. line ≡ []) (lines_of text))
  pub not_at_once : (number : ℕ) → ¬ (StartsWithBadLine grammar (lines_of text) number)

-- These bytes, followed by all that the reader returned, are not UTF-8.
pub record IsNoTextLeft (held : List ℕ) (left left_after : Option (List ℕ)) : Type 0 where
  pub more : List ℕ
  pub read : GaveWhole left left_after more
  pub no_text : ¬ (IsUtf8 (held ++ more))

-- These bytes, followed by all that the reader returned, are UTF-8.
pub record IsTextLeft (held : List ℕ) (left left_after : Option (List ℕ)) : Type 0 where
  pub more : List ℕ
  pub is_text : IsUtf8 (held ++ more)
  pub read : GaveWhole left left_after more

-- The text that is read so far consists of complete lines. It has `number` lines, and these networks cover the same
-- addresses as the networks of its lines.
pub record IsTaken (grammar : Grammar) (front : List ℕ) (networks : List Network) (number : ℕ) : Type 0 where
  pub is_text : IsUtf8 front
  pub closed : (more : List ℕ) → lines_of (front ++ more) ≡ lines_of front ++ lines_of more
  pub written : List Network
  pub are : AreNetworksOf grammar (lines_of front) written
  pub same : HaveSameCover written networks
  pub count : number ≡ length (lines_of front)
