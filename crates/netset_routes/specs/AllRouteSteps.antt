-- The private steps of finding all routes of entries.
-- Only private contracts use these.
use Rattle.std.specs.Prelude.{◌≡◌, ◌⊎◌, ◌++◌, ℕ, true, List, Contains, string_bytes}
use Rattle.std.specs.Borrow.{Bor}
use Rattle.ipnet_lists.specs.Lists.{ListEntry}
use Rattle.ipnet_routes.specs.Routes.{Route}
use Rattle.ipnet_routes.specs.RoutesOf.{routes_of}
use Rattle.netset_lib.specs.EntryAnswers.{AreAnswers, IsFoundIn}
use Rattle.netset_lib.specs.Routing.{HoldsEnds}
use Rattle.netset_routes.specs.AllRoutes.{AreHolders, TextTable, holder_lines}
use Rattle.netset_routes.specs.declared.all_routes.EntryRoutes.{EntryRoutes}

-- The text is the lines of the entry, whose ends the networks contain.
abbrev pub AreLinesBy : TextTable → ListEntry → List ℕ → Type 0
AreLinesBy table e text = (holders : List (Route (Bor (List ℕ)))) × AreHolders table (HoldsEnds e) holders
    × (text ≡ holder_lines e.text holders)

-- No network of the table contains both ends of the entry.
abbrev pub IsMissingBy : TextTable → ListEntry → Type 0
IsMissingBy table e = (route : Route (Bor (List ℕ))) → Contains (routes_of table) route → ¬ (HoldsEnds e route.0)

-- These are the lines of the entries.
pub record AreRoutesBy (table : TextTable) (made : EntryRoutes) (entries : List ListEntry) : Type 0 where
  pub text : AreAnswers (AreLinesBy table) entries (string_bytes made.text)
  pub missing : IsFoundIn (IsMissingBy table) made.missing entries

-- The lines of one more entry were added.
pub record AddsRoutes (table : TextTable) (old new : EntryRoutes) (e : ListEntry) : Type 0 where
  pub lines : List ℕ
  pub right : AreLinesBy table e lines
  pub text : string_bytes new.text ≡ string_bytes old.text ++ lines
  pub missing : (IsMissingBy table e × (new.missing ≡ true))
      ⊎ ((¬ (IsMissingBy table e)) × (new.missing ≡ old.missing))
