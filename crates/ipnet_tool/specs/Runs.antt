-- A run of the program `ipnet`: its arguments, its input and its output. `left` and `held` are the bytes that the
-- reader still has and that the writer has received, before the run; `left_after` and `held_after` after it. They are
-- `None` if unknown.
use Rattle.std.specs.Prelude.{◌≡◌, ◌≢◌, ◌⊎◌, ℕ, List, [], ◌∷◌, codes, IsUtf8, Option, String, string_bytes}
use Rattle.std.specs.Io.KnownBytes.{Keeps}
use Rattle.std.specs.declared.alloc.Global.{Global}
use Rattle.ipnet.specs.declared.parser.Grammar.{Grammar}
use Rattle.ipnet.specs.declared.parser.Grammar.TheVariants.{Strict, Legacy}
use Rattle.ipnet.specs.Lines.{lines_of, IsFirstBadLine}
use Rattle.ipnet_text.specs.Inputs.{GaveWhole}
use Rattle.ipnet_text.specs.Outputs.{IsWritten, IsFrontWritten}
use Rattle.ipnet_tool.specs.Answers.{IsAnswerTo}
use Rattle.ipnet_tool.specs.Reading.{IsNoTextFrom, TakesMemoryFrom}
use Rattle.ipnet_tool.specs.declared.failure.Failure.{Failure}
use Rattle.ipnet_tool.specs.declared.failure.Failure.TheVariants.{Arguments, NotUtf8, Memory, Line, Unwritable}

-- The grammar that the arguments choose: strict without arguments, legacy for `legacy`. Other arguments choose none.
abbrev pub IsChosenBy : List (String Global) → Grammar → Type 0
IsChosenBy [] grammar = grammar ≡ Strict
IsChosenBy (word ∷ []) grammar = (string_bytes word ≡ codes "legacy") × (grammar ≡ Legacy)
IsChosenBy (word ∷ more ∷ words) grammar = ⊥

-- The input is a text with an answer in the chosen grammar, and the whole answer was written.
-- Example: without arguments, `"fd00::/32\n10.0.0.0/24\n"` is read and `"10.0.0.0/24\nfd00::/32\n"` is written.
pub record IsAnswered (args : List (String Global)) (left left_after held held_after : Option (List ℕ)) : Type 0 where
  pub grammar : Grammar
  pub chosen : IsChosenBy args grammar
  pub text : List ℕ
  pub read : GaveWhole left left_after text
  pub answer : IsWritten (IsAnswerTo grammar text) held held_after

-- The input is a text with an answer in the chosen grammar, and a front of the answer was written, perhaps all of it.
pub record IsCutShort (args : List (String Global)) (left left_after held held_after : Option (List ℕ)) : Type 0 where
  pub grammar : Grammar
  pub chosen : IsChosenBy args grammar
  pub text : List ℕ
  pub read : GaveWhole left left_after text
  pub answer : IsFrontWritten (IsAnswerTo grammar text) held held_after

-- The input is a text in UTF-8 (RFC 3629) with a bad line in the chosen grammar.
-- Example: without arguments, `"10.0.0.0/24\n10.0.01.0/24\n"`; the number is 2.
pub record HasBadLine (args : List (String Global)) (left left_after : Option (List ℕ)) : Type 0 where
  pub grammar : Grammar
  pub chosen : IsChosenBy args grammar
  pub text : List ℕ
  pub is_text : IsUtf8 text
  pub read : GaveWhole left left_after text
  pub number : ℕ
  pub bad : IsFirstBadLine grammar (lines_of text) number

-- Why a run ended with this failure, and what it read and wrote. Nothing was written to the output, unless the failure
-- is that it cannot be written.
-- Example: without arguments, `"10.0.0.0/24\nx\n"` was read to its end and nothing written, for the failure of line 2.
pub record IsFailedBy (args : List (String Global)) (failure : Failure)
    (left left_after held held_after : Option (List ℕ)) : Type 0 where
  pub silent : failure ≢ Unwritable → Keeps held held_after
  pub arguments : failure ≡ Arguments → (grammar : Grammar) → ¬ (IsChosenBy args grammar)
  pub not_utf8 : failure ≡ NotUtf8 → IsNoTextFrom left left_after
  pub memory : failure ≡ Memory → (grammar : Grammar) × IsChosenBy args grammar
      × (Keeps left left_after ⊎ TakesMemoryFrom grammar left left_after)
  pub line : (number : ℕ) → failure ≡ Line number → (bad : HasBadLine args left left_after) × (bad.number ≡ number)
  pub unwritable : failure ≡ Unwritable → IsCutShort args left left_after held held_after
