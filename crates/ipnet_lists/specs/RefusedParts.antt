-- Refused parts of a list's bytes.
use Rattle.ipnet_lists.specs.declared.refused.RefusedPart.{RefusedPart}
use Rattle.ipnet_lists.specs.Lists.{RefusalFor}

-- The refusal that a value represents. Example: of line 2 of the first list, with the text `x`.
abbrev pub refusal_in : {C : Type 0} → RefusedPart C → RefusalFor C
refusal_in p = record { list = p.list; number = p.number; text = p.text.now; cause = p.cause }
