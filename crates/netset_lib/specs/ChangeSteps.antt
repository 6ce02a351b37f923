-- The private steps of comparing two lists of networks.
-- Only private contracts use these.
use Rattle.std.specs.Prelude.{◌≡◌, ℕ, List, [], ◌∷◌, ◌++◌, Option, Some, None}
use Rattle.ipnet_base.specs.Network.{Network, IsBefore}
use Rattle.ipnet.specs.NetworkOf.{ip_network}
use Rattle.netset_lib.specs.Changes.{ListChange, Added, Removed, AreChanges, text_of_changes}
use Rattle.netset_lib.specs.declared.changes.Change.{Change}
use Rattle.netset_lib.specs.declared.changes.Change.TheVariants as Variants

-- The change that the value is.
abbrev pub change_of : Change → ListChange
change_of (Variants.Added n) = Added (ip_network n)
change_of (Variants.Removed n) = Removed (ip_network n)

-- The network comes before the first of the list, if there is one.
abbrev pub IsBeforeFirst : Network → List Network → Type 0
IsBeforeFirst n [] = Unit {0}
IsBeforeFirst n (k ∷ networks) = IsBefore n k

-- The first networks of the two lists give this change, or none if they are equal; the others are left.
abbrev pub IsFirstStep : List Network → List Network → Option Change → List Network → List Network → Type 0
IsFirstStep before after None before_left after_left =
    (n : Network) × (before ≡ n ∷ before_left) × (after ≡ n ∷ after_left)
IsFirstStep before after (Some (Variants.Removed n)) before_left after_left =
    (before ≡ ip_network n ∷ before_left) × (after_left ≡ after) × IsBeforeFirst (ip_network n) after
IsFirstStep before after (Some (Variants.Added n)) before_left after_left =
    (after ≡ ip_network n ∷ after_left) × (before_left ≡ before) × IsBeforeFirst (ip_network n) before

-- The text has what the two lists before their rests give: with the changes of the rests it has all changes.
abbrev pub AreWrittenUpTo : List Network → List Network → List Network → List Network → List ℕ → List ℕ → Type 0
AreWrittenUpTo before after before_left after_left text text_after = (changes : List ListChange)
    → AreChanges before_left after_left changes → (all : List ListChange) × AreChanges before after all
    × (text_after ++ text_of_changes changes ≡ text ++ text_of_changes all)
