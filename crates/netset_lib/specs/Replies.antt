-- Queries about lists, and the results.
use Rattle.std.specs.Prelude.{◌≡◌, ◌↔◌, Bool, IsTrue, not, ℕ, List, [], ◌∷◌}
use Rattle.ipnet.specs.declared.parser.Grammar.{Grammar}
use Rattle.netset_lib.specs.declared.query.Query.{Query}
use Rattle.netset_lib.specs.declared.query.Query.TheVariants.{Filter, Route}
use Rattle.netset_lib.specs.Answers.{AreListsRead}
use Rattle.netset_lib.specs.Counts.{HaveSame}
use Rattle.netset_lib.specs.EntryAnswers.{IsFoundIn}
use Rattle.netset_lib.specs.declared.filter.Side.{Side}
use Rattle.netset_lib.specs.Filters.{IsOnSide, LiesIn, AreKept, text_of_entries}
use Rattle.ipnet_lists.specs.Lists.{ListEntry, IsInEntries}
use Rattle.netset_lib.specs.RouteAnswers.{IsTableNetwork, Holds, HaveNone, AreRouteLines}

-- No line of the two lists is refused. `same` says whether they have the same addresses.
pub record AreCompared (grammar : Grammar) (lists : List (List ℕ)) (same : Bool) : Type 0 where
  pub first : List ListEntry
  pub second : List ListEntry
  pub read : AreListsRead grammar 0 lists (first ∷ second ∷ []) []
  pub is_same : IsTrue same ↔ HaveSame (IsInEntries first) (IsInEntries second)

-- The entry is on this side of the list.
abbrev pub IsKept : Side → List ListEntry → ListEntry → Type 0
IsKept side first e = LiesIn (IsOnSide side (IsInEntries first)) e

-- No network of the table contains the entry.
abbrev pub HasNoRoute : List ListEntry → ListEntry → Type 0
HasNoRoute table e = HaveNone (IsTableNetwork table) (Holds e)

-- The entries by which the status of the query is chosen: those that a filter prints, and those that have no route.
abbrev pub IsFoundFor : Query → List ListEntry → ListEntry → Type 0
IsFoundFor (Filter side) first = IsKept side first
IsFoundFor Route first = HasNoRoute first

-- Whether such an entry was found, by whether the query succeeded: a filter prints an entry, or each entry has a route.
abbrev pub found_for : Query → Bool → Bool
found_for (Filter side) succeeded = succeeded
found_for Route succeeded = not succeeded

-- The text is the answers of a filter or a route to the entries `second`, by the entries `first`.
abbrev pub AreReplies : Query → List ListEntry → List ListEntry → List ℕ → Type 0
AreReplies (Filter side) first second text = (kept : List ListEntry)
    × AreKept (IsKept side first) second kept × (text ≡ text_of_entries kept)
AreReplies Route first second text = AreRouteLines (IsTableNetwork first) Holds second text

-- The text is these answers, and `succeeded` says whether the query succeeded.
pub record AreAnswered (query : Query) (first second : List ListEntry) (text : List ℕ) (succeeded : Bool) : Type 0
  where
    pub replies : AreReplies query first second text
    pub is_found : IsFoundIn (IsFoundFor query first) (found_for query succeeded) second
