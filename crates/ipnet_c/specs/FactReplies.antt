-- The result of the C functions that list facts about a network and that plan networks in a set: the status, and what
-- the call leaves in the caller's memory. `old` and `new` are the buffer before and after the call, `count_old` and
-- `count` the length that the call may write.
use Rattle.std.specs.Prelude.{◌≡◌, ◌≢◌, ◌↔◌, ◌⊎◌, ◌<◌, ℕ, List, Any}
use Rattle.ipnet_base.specs.Address.{Family, IPv4, IPv6, width}
use Rattle.ipnet_base.specs.Network.{Network}
use Rattle.ipnet.specs.Bytes.{HasWrongTaggedLen, HasUnknownVariant, HasLongTaggedPrefix}
use Rattle.ipnet_info.specs.declared.facts.FactsForm.{FactsForm}
use Rattle.ipnet_info.specs.declared.facts.FactsForm.TheVariants.{Lines, Json}
use Rattle.ipnet_info.specs.Facts.{IsFactsText}
use Rattle.ipnet_pools.specs.Placements.{CanPlace}
use Rattle.ipnet_pools.specs.Plans.{requests_of, IsPlan, KeepsRoom}
use Rattle.ipnet_sets.specs.declared.set.IpSet.{IpSet}
use Rattle.ipnet_sets.specs.Images.{IsImage, IsImageOf}
use Rattle.ipnet_sets.specs.Members.{IsMember}
use Rattle.ipnet_text.specs.LineTexts.{text_of_lines}
use Rattle.ipnet_c.specs.Statuses as statuses
use Rattle.ipnet_c.specs.Buffers.{IsWritten, IsTooLong}
use Rattle.ipnet_c.specs.Replies.{AreBytesOf}

-- ---- facts

-- The number of the form of facts: 0 for lines, and 1 for JSON.
abbrev pub form_number : FactsForm → ℕ
form_number Lines = 0
form_number Json = 1

-- The number is of a form of facts.
abbrev pub IsFormNumber : ℕ → Type 0
IsFormNumber number = (form : FactsForm) × (number ≡ form_number form)

-- The text is the facts about the network with these bytes, in the form with this number.
-- Example: for 0, 10, 0, 0, 9, 24 and 0, the line `first host: 10.0.0.1` is one of twelve.
pub record AreFactsOf (number : ℕ) (bytes text : List ℕ) : Type 0 where
  pub form : FactsForm
  pub form_is : number ≡ form_number form
  pub network : Network
  pub are : AreBytesOf bytes network
  pub facts : IsFactsText form network text

-- Listing facts: `count` is the length of the text. The form is checked first, and then the bytes.
pub record IsInfoReply (number : ℕ) (bytes old new : List ℕ) (count_old count status : ℕ) : Type 0 where
  pub known : (status ≡ statuses.ok) ⊎ ((status ≡ statuses.buffer_too_short) ⊎ ((status ≡ statuses.unknown_option)
      ⊎ ((status ≡ statuses.wrong_length) ⊎ ((status ≡ statuses.unknown_family)
      ⊎ ((status ≡ statuses.prefix_too_long) ⊎ (status ≡ statuses.out_of_memory))))))
  pub ok : status ≡ statuses.ok → (text : List ℕ) × AreFactsOf number bytes text × IsWritten text old new count
  pub too_short : status ≡ statuses.buffer_too_short
      → (text : List ℕ) × AreFactsOf number bytes text × IsTooLong text old new count
  pub unknown_option : (status ≡ statuses.unknown_option) ↔ ¬ (IsFormNumber number)
  pub wrong_length : (status ≡ statuses.wrong_length) ↔ (IsFormNumber number × HasWrongTaggedLen bytes)
  pub unknown_family : (status ≡ statuses.unknown_family) ↔ (IsFormNumber number × HasUnknownVariant bytes)
  pub prefix_too_long : (status ≡ statuses.prefix_too_long) ↔ (IsFormNumber number × HasLongTaggedPrefix bytes)
  pub buffer_kept : status ≢ statuses.ok → new ≡ old
  pub count_kept : status ≢ statuses.ok → status ≢ statuses.buffer_too_short → count ≡ count_old

-- ---- plans

-- The number of a family, as in a column of addresses.
abbrev pub plan_family_number : Family → ℕ
plan_family_number IPv4 = 4
plan_family_number IPv6 = 6

-- The number is of a family.
abbrev pub IsFamilyNumber : ℕ → Type 0
IsFamilyNumber number = (family : Family) × (number ≡ plan_family_number family)

-- One of the lengths is above the width of the family with this number.
abbrev pub HasLongLength : ℕ → List ℕ → Type 0
HasLongLength number lengths =
    (family : Family) × (number ≡ plan_family_number family) × Any (λ p. width family < p) lengths

-- The text is the lines of networks of the family in the set: one for each prefix length, in the order of the lengths.
-- No two of them share an address, and whatever further networks could be placed beside these lengths can still be
-- placed.
-- Example: `10.0.0.0/26` and `10.0.0.128/25` for the lengths 26 and 25 in 10.0.0.0/24.
pub record IsPlanOf (set : List ℕ) (number : ℕ) (lengths text : List ℕ) : Type 0 where
  pub first : IpSet
  pub first_image : IsImageOf set first
  pub family : Family
  pub number_is : number ≡ plan_family_number family
  pub networks : List Network
  pub plan : IsPlan (IsMember first) family lengths networks
  pub keeps : KeepsRoom (IsMember first) family lengths networks
  pub spelled : text ≡ text_of_lines networks

-- No such networks exist in the set.
pub record HasNoPlan (set : List ℕ) (number : ℕ) (lengths : List ℕ) : Type 0 where
  pub first : IpSet
  pub first_image : IsImageOf set first
  pub family : Family
  pub number_is : number ≡ plan_family_number family
  pub none : ¬ (CanPlace (IsMember first) (requests_of family lengths))

-- Planning: `count` is the length of the text. The family is checked first, then the lengths, and then the image. A
-- call that writes a plan shows that there is one, so `no_place` is returned exactly if there is none, unless memory
-- runs out.
pub record IsPlanReply (set : List ℕ) (number : ℕ) (lengths old new : List ℕ) (count_old count status : ℕ) : Type 0
  where
    pub known : (status ≡ statuses.ok) ⊎ ((status ≡ statuses.buffer_too_short) ⊎ ((status ≡ statuses.unknown_family)
        ⊎ ((status ≡ statuses.prefix_too_long) ⊎ ((status ≡ statuses.not_a_set) ⊎ ((status ≡ statuses.no_place)
        ⊎ (status ≡ statuses.out_of_memory))))))
    pub ok : status ≡ statuses.ok → (text : List ℕ) × IsPlanOf set number lengths text × IsWritten text old new count
    pub too_short : status ≡ statuses.buffer_too_short
        → (text : List ℕ) × IsPlanOf set number lengths text × IsTooLong text old new count
    pub unknown_family : (status ≡ statuses.unknown_family) ↔ ¬ (IsFamilyNumber number)
    pub prefix_too_long : (status ≡ statuses.prefix_too_long) ↔ HasLongLength number lengths
    pub not_a_set : (status ≡ statuses.not_a_set)
        ↔ (IsFamilyNumber number × ¬ (HasLongLength number lengths) × ¬ (IsImage set))
    pub no_place : status ≡ statuses.no_place → HasNoPlan set number lengths
    pub buffer_kept : status ≢ statuses.ok → new ≡ old
    pub count_kept : status ≢ statuses.ok → status ≢ statuses.buffer_too_short → count ≡ count_old
