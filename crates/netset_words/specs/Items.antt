-- The entries in a line of any text, and its netmasks.
use Rattle.std.specs.Prelude.{◌≡◌, ◌≢◌, ◌⊎◌, ℕ, Bool, true, List, [], ◌∷◌, ◌++◌, codes, take, if◌then◌else◌}
use Rattle.ipnet_base.specs.Address.{Address, IPv4}
use Rattle.ipnet.specs.declared.parser.Grammar.{Grammar}
use Rattle.ipnet_lists.specs.Causes.{IsNetmaskNumber}
use Rattle.ipnet_lists.specs.Entries.{IsAddressText}
use Rattle.netset_words.specs.declared.item.Kind.{Kind}
use Rattle.netset_words.specs.declared.item.Kind.TheVariants as Kinds
use Rattle.netset_words.specs.declared.item.ExtractRequest.{ExtractRequest}
use Rattle.netset_words.specs.Places.{IsSomeEntry, IsPlace, HasNoPlace, IsShownAs}
use Rattle.netset_words.specs.Words.{Word}

-- The address is an IPv4 netmask of length 1 to 31. Example: 255.0.0.0, and not 0.0.0.0 or 255.255.255.255.
pub record IsMask (x : Address) : Type 0 where
  pub family : x.family ≡ IPv4
  pub netmask : IsNetmaskNumber x.number
  pub some : x.number ≢ 0
  pub not_all : x.number ≢ 4294967295

-- The text is such a netmask.
abbrev pub IsMaskText : Grammar → List ℕ → Type 0
IsMaskText grammar text = (x : Address) × IsAddressText grammar text x × IsMask x

-- The kind and the text of the item that a word is: an entry, a netmask, or something else. A netmask is not an entry.
-- Example: `outside:10.0.0.1/443` is the entry `10.0.0.1`, `255.0.0.0` a netmask, `allow` something else.
abbrev pub IsItemOf : ExtractRequest → Word → Kind → List ℕ → Type 0
IsItemOf how w Kinds.Entry text = (place : List ℕ) × IsPlace how.grammar w place × ¬ (IsMaskText how.grammar place)
    × IsShownAs how.mapped how.grammar place text
IsItemOf how w Kinds.Mask text = IsPlace how.grammar w text × IsMaskText how.grammar text
IsItemOf how w Kinds.Other text = HasNoPlace how.grammar w

-- A part of a line, and what it is.
pub record Item : Type 0 where
  pub kind : Kind
  pub text : List ℕ

-- The text from the first of three words to the third. Example: `10.0.0.1 - 10.0.0.9`.
abbrev pub span : Word → Word → Word → List ℕ
span first dash last = first.text ++ dash.before ++ dash.text ++ last.before ++ last.text

-- Ranges with blanks are wanted, the second word is "-", and the text of the three words is an entry. Then only blanks
-- are between them, and the first and the third word are addresses.
-- Example: `10.0.0.1 - 10.0.0.9`; not `10.0.0.9 - 10.0.0.1` or `10.0.0.1, - 10.0.0.9`.
abbrev pub IsSpacedRange : ExtractRequest → Word → Word → Word → Type 0
IsSpacedRange how first dash last =
    (how.ranges ≡ true) × (dash.text ≡ codes "-") × IsSomeEntry how.grammar (span first dash last)

-- The word and the next two of the words after it are such a range.
abbrev pub BeginsRange : ExtractRequest → Word → List Word → Type 0
BeginsRange how first [] = ⊥
BeginsRange how first (dash ∷ []) = ⊥
BeginsRange how first (dash ∷ last ∷ words) = IsSpacedRange how first dash last

-- They are the item, and `more` are the words that follow.
abbrev pub IsRangeItem : ExtractRequest → Word → List Word → Item → List Word → Type 0
IsRangeItem how first [] item more = ⊥
IsRangeItem how first (dash ∷ []) item more = ⊥
IsRangeItem how first (dash ∷ last ∷ words) item more = IsSpacedRange how first dash last
    × (item ≡ record { kind = Kinds.Entry; text = span first dash last }) × (more ≡ words)

-- The item at the front of the words is a range with blanks, or else the first word; `more` are the words that follow.
abbrev pub IsNextItem : ExtractRequest → List Word → Item → List Word → Type 0
IsNextItem how [] item more = ⊥
IsNextItem how (first ∷ words) item more = IsRangeItem how first words item more
    ⊎ ((¬ (BeginsRange how first words)) × IsItemOf how first item.kind item.text × (more ≡ words))

-- The items of the words, in order.
-- Example: with ranges `inetnum: 10.0.0.1 - 10.0.0.9 ::1` has three items, and two of them are entries.
abbrev pub AreItems : ExtractRequest → List Word → List Item → Type 0
AreItems how words [] = words ≡ []
AreItems how words (item ∷ items) = (more : List Word) × IsNextItem how words item more × AreItems how more items

-- The text of an item of this kind, if it is an entry.
abbrev pub if_entry : Kind → List ℕ → List (List ℕ)
if_entry Kinds.Entry text = text ∷ []
if_entry Kinds.Mask text = []
if_entry Kinds.Other text = []

-- The text of an item of this kind, if it is a netmask.
abbrev pub if_mask : Kind → List ℕ → List (List ℕ)
if_mask Kinds.Entry text = []
if_mask Kinds.Mask text = text ∷ []
if_mask Kinds.Other text = []

-- The texts of the items that are entries, in order.
abbrev pub entry_texts : List Item → List (List ℕ)
entry_texts [] = []
entry_texts (item ∷ items) = if_entry item.kind item.text ++ entry_texts items

-- The texts of the items that are netmasks, in order.
abbrev pub mask_texts : List Item → List (List ℕ)
mask_texts [] = []
mask_texts (item ∷ items) = if_mask item.kind item.text ++ mask_texts items

-- The entries that are wanted: all, or only the first.
abbrev pub wanted : Bool → List (List ℕ) → List (List ℕ)
wanted first entries = if first then take 1 entries else entries
