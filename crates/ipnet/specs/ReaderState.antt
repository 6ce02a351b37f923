-- A `Reader` as clauses see it.
-- Only private contracts use these.
use Rattle.std.specs.Prelude.{◌≡◌, ℕ, ◌≤◌, Bool, List, drop, Option, Some, None, option_map, if◌then◌else◌}
use Rattle.ipnet.specs.declared.parser.reader.Reader.{Reader}
use Rattle.ipnet.specs.ReaderSteps.{Read}

-- The text that is still to be read.
abbrev pub rest_of : Reader → List ℕ
rest_of r = drop r.position r.text.now

-- A step moves forward in the same text, with the same grammar.
pub record IsForward (old new : Reader) : Type 0 where
  pub position : old.position ≤ new.position
  pub text : new.text.now ≡ old.text.now
  pub grammar : new.grammar ≡ old.grammar

-- The value that a step read, and the text after it.
abbrev pub read_to : {A : Type 0} → Option A → Reader → Read A
read_to o new = option_map (λ x. (x, rest_of new)) o

-- The text after the bytes that were taken; `None` if they were not.
abbrev pub taken_to : Bool → Reader → Option (List ℕ)
taken_to taken new = if taken then Some (rest_of new) else None
