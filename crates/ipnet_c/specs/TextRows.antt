-- Rows that are read from text: the status of each call, and what it leaves in the caller's memory.
use Rattle.std.specs.Prelude.{◌≡◌, ◌≢◌, ℕ, ◌+◌, ◌-◌, ◌*◌, ◌<◌, ◌≤◌, ◌↔◌, ◌⊎◌, ◌==◌, List, [], ◌∷◌, ◌++◌, length, take}
use Rattle.std.specs.Prelude.{drop, slice_index, slice_index_or, filter, All, Option}
use Rattle.ipnet.specs.Address.{Address}
use Rattle.ipnet.specs.declared.parser.Grammar.TheVariants.{Strict}
use Rattle.ipnet_sets.specs.Images.{number_from}
use Rattle.ipnet_lists.specs.Entries.{IsAddressText, ReadsAs}
use Rattle.ipnet_c.specs.Statuses as statuses
use Rattle.ipnet_c.specs.Rows.{AreRows, IsWrittenRow}

-- ---- rows of texts

-- The row with this index is read from the text: it is the address that the text is in the strict grammar, or none if
-- the text is not an address.
-- Example: of `10.0.0.1` the family 4 and 10, 0, 0, 1 and twelve zeros; of `10.0.0.01` and of `10.0.0.1/8` the family 0
-- and 16 zeros.
pub record IsRowRead (text families octets : List ℕ) (i : ℕ) : Type 0 where
  pub row : Option Address
  pub read : ReadsAs (λ x. x) (IsAddressText Strict) text row
  pub written : IsWrittenRow families octets i row

-- The number of rows that are not an address.
abbrev pub count_bad : List ℕ → ℕ
count_bad families = length (filter (λ family. family == 0) families)

-- The two arrays and the number of rows that are not an address.
pub record Column : Type 0 where
  pub families : List ℕ
  pub octets : List ℕ
  pub bad : ℕ

-- The column of these arrays and this number.
abbrev pub column : List ℕ → List ℕ → ℕ → Column
column families octets bad = record { families = families; octets = octets; bad = bad }

-- The arrays `new` are as long as the arrays `old`, and each row is read from the text with its index. The rows that
-- are not an address are counted.
pub record AreRowsRead (text_of : ℕ → List ℕ) (old new : Column) : Type 0 where
  pub as_many : length new.families ≡ length old.families
  pub as_long : length new.octets ≡ length old.octets
  pub rows : (i : ℕ) → i < length old.families → IsRowRead (text_of i) new.families new.octets i
  pub counted : new.bad ≡ count_bad new.families

-- ---- lines

-- The text is these lines, each followed by "\n" (10).
-- Example: `"10.0.0.1\n\n"` is `10.0.0.1` and an empty line; `"10.0.0.1"` is not such a text.
abbrev pub AreEndedLines : List ℕ → List (List ℕ) → Type 0
AreEndedLines text [] = text ≡ []
AreEndedLines text (line ∷ lines) =
    (rest : List ℕ) × (text ≡ line ++ 10 ∷ rest) × All (λ b. b ≢ 10) line × AreEndedLines rest lines

-- The text is empty or ends with "\n".
abbrev pub IsEnded : List ℕ → Type 0
IsEnded text = (length text ≡ 0) ⊎ (slice_index text (length text - 1) ≡ 10)

-- The text is as many lines as this number.
pub record HasLines (text : List ℕ) (count : ℕ) : Type 0 where
  pub lines : List (List ℕ)
  pub ended : AreEndedLines text lines
  pub as_many : length lines ≡ count

-- Reading a row from each line.
-- Example: `"10.0.0.1\nx\n"` with two rows gives `ok`, the families 4, 0, and 1; with three rows it gives
-- `wrong_length`.
pub record IsLinesReply (text : List ℕ) (old new : Column) (status : ℕ) : Type 0 where
  pub known : (status ≡ statuses.ok) ⊎ (status ≡ statuses.wrong_length)
  pub ok : status ≡ statuses.ok → (lines : List (List ℕ)) × AreEndedLines text lines
      × (length lines ≡ length old.families) × AreRowsRead (λ i. slice_index_or lines i []) old new
  pub wrong_length : (status ≡ statuses.wrong_length)
      ↔ ¬ (AreRows old.families old.octets × HasLines text (length old.families))
  pub kept : status ≢ statuses.ok → new ≡ old

-- ---- offsets

-- The bytes are one offset more than `count`, of `width` bytes each, 4 or 8.
abbrev pub AreOffsets : ℕ → List ℕ → ℕ → Type 0
AreOffsets width offsets count = ((width ≡ 4) ⊎ (width ≡ 8)) × (length offsets ≡ (count + 1) * width)

-- The offset with this index, the least significant byte first.
abbrev pub offset_at : ℕ → List ℕ → ℕ → ℕ
offset_at width offsets i = number_from width offsets (i * width)

-- The text with this index lies in the bytes from its offset up to the next one.
-- Example: with the offsets 0, 8, 15, text 1 of `"10.0.0.1fd00::1"` is `fd00::1`.
abbrev pub text_at : List ℕ → ℕ → List ℕ → ℕ → List ℕ
text_at text width offsets i =
    take (offset_at width offsets (i + 1) - offset_at width offsets i) (drop (offset_at width offsets i) text)

-- The offsets from index 0 to `count` are at most the size, and none is less than the one before it.
pub record AreAscending (size width : ℕ) (offsets : List ℕ) (count : ℕ) : Type 0 where
  pub within : (i : ℕ) → i ≤ count → offset_at width offsets i ≤ size
  pub ordered : (i : ℕ) → i < count → offset_at width offsets i ≤ offset_at width offsets (i + 1)

-- Reading a row from each text between two offsets.
-- Example: `"10.0.0.1fd00::1"` with the offsets 0, 8, 15 and two rows gives `ok`, the families 4, 6, and 0; with the
-- offsets 0, 8, 16 it gives `bad_offsets`.
pub record IsOffsetsReply (text offsets : List ℕ) (old new : Column) (status : ℕ) : Type 0 where
  pub known : (status ≡ statuses.ok) ⊎ ((status ≡ statuses.wrong_length) ⊎ (status ≡ statuses.bad_offsets))
  pub ok : status ≡ statuses.ok → (width : ℕ) × AreOffsets width offsets (length old.families)
      × AreRowsRead (text_at text width offsets) old new
  pub wrong_length : (status ≡ statuses.wrong_length) ↔ ¬ (AreRows old.families old.octets
      × ((width : ℕ) × AreOffsets width offsets (length old.families)))
  pub bad_offsets : (status ≡ statuses.bad_offsets) ↔ (AreRows old.families old.octets
      × ((width : ℕ) × AreOffsets width offsets (length old.families)
      × ¬ (AreAscending (length text) width offsets (length old.families))))
  pub kept : status ≢ statuses.ok → new ≡ old
