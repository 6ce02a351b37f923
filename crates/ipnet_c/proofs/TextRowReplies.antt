-- Rows that are read from text, one after the other, and the replies.
use Rattle.std.proofs.Common.{◌≡◌, ◌≢◌, ℕ, ◌+◌, ◌*◌, ◌<◌, ◌≤◌, ◌==◌, Bool, List, [], ◌∷◌, ◌++◌}
use Rattle.std.proofs.Common.{length, length-append, take, drop, get_or, slice_set, All, codes, Option, Some, None}
use Rattle.std.proofs.Common.{option_map, inl, inr, refl, sym, ap, ap₂, subst, ◌∙◌, arith}
use Rattle.std.proofs.lemmas.Bool.{cases_lt}
use Rattle.std.proofs.lemmas.Grind.{get_or-set_at}
use Rattle.std.proofs.lemmas.List.{length-set, get_or-set_other, take_more_set, take_all, drop_more}
use Rattle.std.proofs.lemmas.List.Elements.{filter-append}
use Rattle.std.specs.List.{filter}
use Rattle.memchr.specs.Find.{IsFirstByte, is_byte}
use Rattle.std.specs.declared.net.ip_addr.IpAddr.{IpAddr}
use Rattle.ipnet_base.specs.Address.{Address, IsAddress, ip_address}
use Rattle.ipnet.specs.declared.parser.Grammar.TheVariants.{Strict}
use Rattle.ipnet.proofs.ValidTexts.{text_is_network}
use Rattle.ipnet_lists.specs.Entries.{IsAddressText, ReadsAs}
use Rattle.ipnet_lists.proofs.EntryTexts.{with_length, with_32}
use Rattle.ipnet_c.specs.Rows.{AreRows, row_bytes, written_family, written_octets}
use Rattle.ipnet_c.specs.TextRows.{IsRowRead, AreRowsRead, column, count_bad, HasLines, AreEndedLines, IsLinesReply}
use Rattle.ipnet_c.proofs.LineTexts.{first_line, has_line_end}
use Rattle.ipnet_c.proofs.StatusLaws.{differ}

-- ---- one row

-- an address that a text is fits its family
address_fits : (text : List ℕ) (x : Address) → IsAddressText Strict text x → IsAddress x
address_fits text x h =
    (text_is_network Strict (text ++ codes "/32") (with_32 x) (with_length Strict text x h)).address_fits

-- the row of a text, by the value that was read
row_read : (text families octets : List ℕ) (i : ℕ) (r : Option IpAddr)
    → ReadsAs ip_address (IsAddressText Strict) text r
    → get_or families i 0 ≡ written_family (option_map ip_address r)
    → row_bytes octets i ≡ written_octets (option_map ip_address r) → IsRowRead text families octets i
row_read text families octets i (Some a) h family bytes = record {
  row = Some (ip_address a);
  read = record { some = h.some; none = h.none };
  written = record { address = address_fits text (ip_address a) h.some; family_is = family; bytes_are = bytes };
}
row_read text families octets i None h family bytes = record {
  row = None;
  read = record { some = h.some; none = h.none };
  written = record { address = tt; family_is = family; bytes_are = bytes };
}

-- ---- the rows up to an index

pub record AreRowsTo (text_of : ℕ → List ℕ) (index : ℕ) (old_families old_octets families octets : List ℕ) (bad : ℕ) :
    Type 0 where
  pub as_many : length families ≡ length old_families
  pub as_long : length octets ≡ length old_octets
  pub done : (i : ℕ) → i < index → IsRowRead (text_of i) families octets i
  pub counted : bad ≡ length (filter (λ family. family == 0) (take index families))
  pub few : bad ≤ index

no_rows : (text_of : ℕ → List ℕ) (families octets : List ℕ) → AreRowsTo text_of 0 families octets families octets 0
no_rows text_of families octets =
    record {
      as_many = refl;
      as_long = refl;
      done = λ i less. absurd (omega (arith, less));
      counted = refl;
      few = omega arith;
    }

pub one_row : (text_of : ℕ → List ℕ) (index : ℕ) (old_families old_octets families octets new : List ℕ) (bad more : ℕ)
    (r : Option IpAddr) → AreRowsTo text_of index old_families old_octets families octets bad → index < length families
    → ReadsAs ip_address (IsAddressText Strict) (text_of index) r → length new ≡ length octets
    → row_bytes new index ≡ written_octets (option_map ip_address r)
    → ((i : ℕ) → i ≢ index → row_bytes new i ≡ row_bytes octets i)
    → more ≡ length (filter (λ family. family == 0) (written_family (option_map ip_address r) ∷ [])) → more ≤ 1
    → AreRowsTo text_of (index + 1) old_families old_octets
    (slice_set families index (written_family (option_map ip_address r))) new (bad + more)
one_row text_of index old_families old_octets families octets new bad more r h within read long bytes others shown bit =
    record {
      as_many = length-set families index family ∙ h.as_many;
      as_long = long ∙ h.as_long;
      done = λ i less. elim (cases_lt i index) [
        | inl before ↦ kept i before (λ same. let wrong : ⊥ = omega (arith, same, before) in wrong)
        | inr not ↦ let same : i ≡ index = omega (arith, less, not) in
            subst (λ k. IsRowRead (text_of k) (slice_set families index family) new k) (sym same)
            (row_read (text_of index) (slice_set families index family) new index r read
            (get_or-set_at families index index family 0 refl within) bytes)
      ];
      counted =
          ap₂ (λ a b. a + b) h.counted shown
          ∙ sym (ap (λ z. length (filter is_bad z)) (take_more_set families index family within)
          ∙ ap length (filter-append is_bad (take index families) (family ∷ []))
          ∙ length-append (filter is_bad (take index families)) (filter is_bad (family ∷ [])));
      few = omega (arith, h.few, bit);
    }
  where
    family : ℕ
    family = written_family (option_map ip_address r)

    is_bad : ℕ → Bool
    is_bad family = family == 0

    kept : (i : ℕ) → i < index → i ≢ index → IsRowRead (text_of i) (slice_set families index family) new i
    kept i before apart = let row = h.done i before in record {
      row = row.row;
      read = row.read;
      written = record {
        address = row.written.address;
        family_is = get_or-set_other families index i family 0 apart ∙ row.written.family_is;
        bytes_are = others i apart ∙ row.written.bytes_are;
      };
    }

all_rows : (text_of : ℕ → List ℕ) (index : ℕ) (old_families old_octets families octets : List ℕ) (bad_old bad : ℕ)
    → AreRowsTo text_of index old_families old_octets families octets bad → length old_families ≤ index
    → AreRowsRead text_of (column old_families old_octets bad_old) (column families octets bad)
all_rows text_of index old_families old_octets families octets bad_old bad h all = record {
  as_many = h.as_many;
  as_long = h.as_long;
  rows = λ i less. h.done i (omega (arith, less, all));
  counted = h.counted ∙ ap count_bad (take_all index families (omega (arith, h.as_many, all)));
}

-- the arrays still fit
pub rows_fit : (text_of : ℕ → List ℕ) (index : ℕ) (old_families old_octets families octets : List ℕ) (bad : ℕ)
    → AreRowsTo text_of index old_families old_octets families octets bad → AreRows old_families old_octets
    → AreRows families octets
rows_fit text_of index old_families old_octets families octets bad h fit =
    h.as_long ∙ fit ∙ ap (λ n. n * 16) (sym h.as_many)

-- ---- lines

-- The rows before the index are read from the lines before it, and the rest of the text is the other lines.
pub record AreLinesLeft (text rest : List ℕ) (index : ℕ) (old_families old_octets families octets : List ℕ) (bad : ℕ) :
    Type 0 where
  pub lines : List (List ℕ)
  pub ended : AreEndedLines text lines
  pub as_many : length lines ≡ length old_families
  pub left : AreEndedLines rest (drop index lines)
  pub rows : AreRowsTo (λ i. get_or lines i []) index old_families old_octets families octets bad

pub all_left : (text families octets : List ℕ) → HasLines text (length families)
    → AreLinesLeft text text 0 families octets families octets 0
all_left text families octets h = record {
  lines = h.lines;
  ended = h.ended;
  as_many = h.as_many;
  left = h.ended;
  rows = no_rows (λ i. get_or h.lines i []) families octets;
}

-- the first of the lines that are left
record FirstLeft (rest line : List ℕ) (more : List (List ℕ)) : Type 0 where
  after : List ℕ
  cut : rest ≡ line ++ 10 ∷ after
  plain : All (λ b. b ≢ 10) line
  ended : AreEndedLines after more

first_left : (rest : List ℕ) (lines : List (List ℕ)) (index : ℕ) → index < length lines
    → AreEndedLines rest (drop index lines) → FirstLeft rest (get_or lines index []) (drop (index + 1) lines)
first_left rest lines index within left =
    let (after, cut, plain, ended) = subst (AreEndedLines rest) (drop_more lines index [] within) left in
    record { after = after; cut = cut; plain = plain; ended = ended }

-- a line is left, so a line end is found
pub line_is_left : (text rest : List ℕ) (index : ℕ) (old_families old_octets families octets : List ℕ) (bad : ℕ)
    → AreLinesLeft text rest index old_families old_octets families octets bad → index < length old_families
    → IsFirstByte (is_byte 10) rest None → ⊥
line_is_left text rest index old_families old_octets families octets bad h within none =
    let first = first_left rest h.lines index (omega (arith, h.as_many, within)) h.left in
    has_line_end rest (get_or h.lines index []) first.after first.cut none

pub one_line : (text rest next : List ℕ) (index len : ℕ) (old_families old_octets families octets new : List ℕ)
    (bad more : ℕ) (r : Option IpAddr)
    → AreLinesLeft text rest index old_families old_octets families octets bad → index < length old_families
    → IsFirstByte (is_byte 10) rest (Some len) → ReadsAs ip_address (IsAddressText Strict) (take len rest) r
    → next ≡ drop (len + 1) rest → length new ≡ length octets
    → row_bytes new index ≡ written_octets (option_map ip_address r)
    → ((i : ℕ) → i ≢ index → row_bytes new i ≡ row_bytes octets i)
    → more ≡ length (filter (λ family. family == 0) (written_family (option_map ip_address r) ∷ [])) → more ≤ 1
    → AreLinesLeft text next (index + 1) old_families old_octets
    (slice_set families index (written_family (option_map ip_address r))) new (bad + more)
one_line text rest next index len old_families old_octets families octets new bad more r h within found read next_is
    long bytes others shown bit =
    let first = first_left rest h.lines index (omega (arith, h.as_many, within)) h.left in
    let cut = first_line rest (get_or h.lines index []) first.after len first.cut first.plain found in
    record {
      lines = h.lines;
      ended = h.ended;
      as_many = h.as_many;
      left = subst (λ z. AreEndedLines z (drop (index + 1) h.lines)) (sym (next_is ∙ cut.1)) first.ended;
      rows = one_row (λ i. get_or h.lines i []) index old_families old_octets families octets new bad more r h.rows
          (omega (arith, h.rows.as_many, within))
          (subst (λ z. ReadsAs ip_address (IsAddressText Strict) z r) cut.0 read) long bytes others shown bit;
    }

-- ---- replies

pub lines_read : (text rest : List ℕ) (index : ℕ) (old_families old_octets families octets : List ℕ) (bad_old bad : ℕ)
    → AreRows old_families old_octets → AreLinesLeft text rest index old_families old_octets families octets bad
    → length old_families ≤ index
    → IsLinesReply text (column old_families old_octets bad_old) (column families octets bad) 0
lines_read text rest index old_families old_octets families octets bad_old bad fit h all = record {
  known = inl refl;
  ok = λ e. (
    h.lines,
    h.ended,
    h.as_many,
    all_rows (λ i. get_or h.lines i []) index old_families old_octets families octets bad_old bad h.rows all,
  );
  wrong_length = (
    λ e. absurd (differ 0 6 refl e),
    λ wrong. absurd (wrong (fit, record { lines = h.lines; ended = h.ended; as_many = h.as_many })),
  );
  kept = λ not_ok. absurd (not_ok refl);
}
