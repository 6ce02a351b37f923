-- The changes that turn one list of networks into another, and their text.
use Rattle.std.specs.Prelude.{◌≡◌, ◌↔◌, ℕ, Bool, true, false, List, [], ◌∷◌, ◌++◌, codes, map, Contains}
use Rattle.ipnet_base.specs.Address.{Address}
use Rattle.ipnet_base.specs.Network.{Network}
use Rattle.ipnet_base.specs.Blocks.{AreMaximalBlocks, IsAscending}
use Rattle.ipnet.specs.CanonicalTexts.{canonical_text}

-- A change of a list of networks: a network is added, or a network is removed.
pub data ListChange : Type 0 where
  Added : (network : Network) → ListChange
  Removed : (network : Network) → ListChange

-- The network that is added or removed.
abbrev pub changed_network : ListChange → Network
changed_network (Added n) = n
changed_network (Removed n) = n

-- The line of a change. Example: `+ 10.0.0.0/9` for an added network, `- fd00::/8` for a removed one.
abbrev pub change_line : ListChange → List ℕ
change_line (Added n) = codes "+ " ++ canonical_text n ++ 10 ∷ []
change_line (Removed n) = codes "- " ++ canonical_text n ++ 10 ∷ []

-- The lines of the changes, in order.
abbrev pub text_of_changes : List ListChange → List ℕ
text_of_changes [] = []
text_of_changes (c ∷ changes) = change_line c ++ text_of_changes changes

-- The changes that turn the first list into the second: the networks of the second that the first lacks are added, and
-- the networks of the first that the second lacks are removed. They are ascending by their networks, each once.
-- Example: from `10.0.0.0/8`, `fd00::/8` to `10.0.0.0/9`, `fd00::/8`: `10.0.0.0/8` is removed, `10.0.0.0/9` is added.
pub record AreChanges (before after : List Network) (changes : List ListChange) : Type 0 where
  pub ascending : IsAscending (map changed_network changes)
  pub added : (n : Network) → Contains changes (Added n) ↔ (Contains after n × ¬ (Contains before n))
  pub removed : (n : Network) → Contains changes (Removed n) ↔ (Contains before n × ¬ (Contains after n))

-- The address is in the first set and not in the second.
abbrev pub IsOnlyIn : (First Second : Address → Type 0) → Address → Type 0
IsOnlyIn First Second x = First x × ¬ (Second x)

-- The text is the changes from the maximal blocks of the first set to the maximal blocks of the second, one a line.
-- Example: from 10.0.0.0-10.0.0.2 to 10.0.0.0-10.0.0.3, `+ 10.0.0.0/30`, `- 10.0.0.0/31` and `- 10.0.0.2/32`.
pub record AreChangeLines (Before After : Address → Type 0) (text : List ℕ) : Type 0 where
  pub before : List Network
  pub after : List Network
  pub of_before : AreMaximalBlocks Before 0 before
  pub of_after : AreMaximalBlocks After 0 after
  pub changes : List ListChange
  pub exact : AreChanges before after changes
  pub spelled : text ≡ text_of_changes changes

-- The text is the changes of addresses, one a line: the maximal blocks of the addresses that only the second set has
-- are added, and the maximal blocks of the addresses that only the first has are removed.
-- Example: from 10.0.0.0-10.0.0.2 to 10.0.0.1-10.0.0.3, `- 10.0.0.0/32` and `+ 10.0.0.3/32`.
abbrev pub AreAddressChanges : (Before After : Address → Type 0) → List ℕ → Type 0
AreAddressChanges Before After = AreChangeLines (IsOnlyIn Before After) (IsOnlyIn After Before)

-- The text is the changes of addresses, or of the networks of the two sets.
pub record AreAskedChanges (of_addresses : Bool) (Before After : Address → Type 0) (text : List ℕ) : Type 0 where
  pub addresses : of_addresses ≡ true → AreAddressChanges Before After text
  pub networks : of_addresses ≡ false → AreChangeLines Before After text
