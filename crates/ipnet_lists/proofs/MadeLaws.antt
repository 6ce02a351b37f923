-- The value that the entries of one list make.
use Rattle.std.proofs.Common.{ℕ, List, [], Option}
use Rattle.ipnet_lists.specs.declared.reading.Reading.{Reading}
use Rattle.ipnet_lists.specs.Lists.{ListEntry}
use Rattle.ipnet_lists.specs.Reading.{Adds, WasMadeOf}

pub made_weaker : (left left_after : Option (List ℕ)) (old new : Reading) (IsMade Other : List ListEntry → Type 0)
    → WasMadeOf left left_after old new IsMade → ((entries : List ListEntry) → IsMade entries → Other entries)
    → WasMadeOf left left_after old new Other
made_weaker left left_after old new IsMade Other h weaker = record {
  bytes = h.bytes;
  given = h.given;
  entries = h.entries;
  refusals = h.refusals;
  read = h.read;
  added = h.added;
  same_grammar = h.same_grammar;
  next = h.next;
  made = weaker h.entries h.made;
  noted = h.noted;
}

-- what was made of no entry before the list is made of the list
pub made_of : (left left_after : Option (List ℕ)) (old new : Reading) (IsMade IsMadeNow : List ListEntry → Type 0)
    → WasMadeOf left left_after old new (Adds IsMade IsMadeNow) → IsMade []
    → WasMadeOf left left_after old new IsMadeNow
made_of left left_after old new IsMade IsMadeNow h start =
    made_weaker left left_after old new (Adds IsMade IsMadeNow) IsMadeNow h (λ entries adds. adds [] start)
