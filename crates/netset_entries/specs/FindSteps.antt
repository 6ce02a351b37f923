-- Values of a search, as contracts see them.
use Rattle.std.specs.Prelude.{◌≡◌, ◌++◌, ℕ, List, [], ◌∷◌}
use Rattle.ipnet_lists.specs.EntryOf.{entry_range}
use Rattle.ipnet_lists.specs.Lists.{Refusal}
use Rattle.ipnet_lists.specs.RefusedLines.{AreRefused, HasMore}
use Rattle.netset_entries.specs.declared.find.EntrySearch.{EntrySearch}
use Rattle.netset_entries.specs.declared.find.FoundLines.{FoundLines}
use Rattle.netset_entries.specs.Finds.{Search, AreSearched, IsSearched}

-- The search that a value represents.
abbrev pub search_of : EntrySearch → Search
search_of s = record { wanted = entry_range s.wanted; relation = s.relation; grammar = s.grammar }

-- Only private contracts use these:
-- The line with this number was searched: it is added to the text if it is found, or it is refused.
abbrev pub AddsSearched : Search → (name : List ℕ) → ℕ → (line : List ℕ) → FoundLines → FoundLines → Type 0
AddsSearched search name number line old new = (text : List ℕ) × (refusals : List Refusal)
    × AreSearched search name number (line ∷ []) text refusals × (new.text.items ≡ old.text.items ++ text)
    × HasMore old.refused new.refused refusals

-- The value has what is found in the list.
abbrev pub HasSearched : Search → (name bytes : List ℕ) → FoundLines → Type 0
HasSearched search name bytes found = (refusals : List Refusal)
    × IsSearched search name bytes found.text.items refusals × AreRefused found.refused refusals
