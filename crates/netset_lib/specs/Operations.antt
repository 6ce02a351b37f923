-- The operations on lists, by the addresses of each list. `In` is the addresses of a list: `IsInEntries` for its
-- entries, and `IsMember` for a set in private contracts.
use Rattle.std.specs.Prelude.{◌≡◌, ◌⊎◌, ⊤, List, [], ◌∷◌, All}
use Rattle.ipnet_base.specs.Address.{Family, IPv4, IPv6, Address, IsAddress}
use Rattle.ipnet_sets.specs.ManySets.{IsInSome, IsInEach}
use Rattle.netset_lib.specs.declared.operation.Families.{Families}
use Rattle.netset_lib.specs.declared.operation.Families.TheVariants.{Named, Ipv4, Ipv6, Both}

-- The operations on lists.
pub data ListOperation : Type 0 where
  Union : ListOperation
  Intersection : ListOperation
  Difference : ListOperation
  SymmetricDifference : ListOperation
  Complement : (families : Families) → ListOperation

-- The addresses of the first list that are in no other list.
abbrev pub IsInFirstAlone : {L : Type 0} → (L → Address → Type 0) → List L → Address → Type 0
IsInFirstAlone In [] x = ⊥
IsInFirstAlone In (first ∷ others) x = In first x × All (λ l. ¬ (In l x)) others

-- The addresses that are in exactly one of two lists.
abbrev pub IsInOneAlone : {L : Type 0} → (L → Address → Type 0) → List L → Address → Type 0
IsInOneAlone In [] x = ⊥
IsInOneAlone In (first ∷ []) x = ⊥
IsInOneAlone In (first ∷ second ∷ []) x = (In first x × ¬ (In second x)) ⊎ (In second x × ¬ (In first x))
IsInOneAlone In (first ∷ second ∷ third ∷ others) x = ⊥

-- The families of a complement: those with an address in the list, one of the two, or both.
abbrev pub IsChosen : {L : Type 0} → (L → Address → Type 0) → Families → L → Family → Type 0
IsChosen In Named list f = (x : Address) × (x.family ≡ f) × In list x
IsChosen In Ipv4 list f = f ≡ IPv4
IsChosen In Ipv6 list f = f ≡ IPv6
IsChosen In Both list f = ⊤

-- The addresses of the chosen families that are not in the list. Example: only IPv4 for `10.0.0.0/8` and `Named`.
abbrev pub IsInComplement : {L : Type 0} → (L → Address → Type 0) → Families → List L → Address → Type 0
IsInComplement In families [] x = ⊥
IsInComplement In families (list ∷ []) x = IsAddress x × IsChosen In families list x.family × ¬ (In list x)
IsInComplement In families (list ∷ second ∷ others) x = ⊥

-- The addresses of the operation's result.
abbrev pub IsInResult : {L : Type 0} → (L → Address → Type 0) → ListOperation → List L → Address → Type 0
IsInResult In Union lists = IsInSome In lists
IsInResult In Intersection lists = IsInEach In lists
IsInResult In Difference lists = IsInFirstAlone In lists
IsInResult In SymmetricDifference lists = IsInOneAlone In lists
IsInResult In (Complement families) lists = IsInComplement In families lists
