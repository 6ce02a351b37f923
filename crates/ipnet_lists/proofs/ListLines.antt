-- Lines of bytes, what they hold, and entries as text.
use Rattle.std.proofs.Common.{◌≡◌, ℕ, ◌+◌, ◌-◌, ◌<◌, ◌≤◌, List, [], ◌∷◌, ◌++◌, All, length}
use Rattle.std.proofs.Common.{get_or}
use Rattle.std.proofs.Common.{take, drop, refl, sym, ◌∙◌, subst, arith, inl, inr, append_assoc, eq-eqb, eqb-true}
use Rattle.std.proofs.Common.{take_all, add-one, length-drop}
use Rattle.std.specs.Char.{is_ascii_whitespace}
use Rattle.std.specs.List.{prefix_len}
use Rattle.std.specs.Str.{IsUtf8, IsTrimAscii}
use Rattle.std.proofs.lemmas.List.Elements.{All-append, All-cons, All-weaker}
use Rattle.std.proofs.lemmas.Str.{IsUtf8-from_ascii}
use Rattle.std.proofs.lemmas.Str.Ascii.{IsAscii-from_all, trim_ascii_is}
use Rattle.memchr.specs.Find.{NoneBefore, Nowhere, Passes, is_byte}
use Rattle.ipnet_base.specs.Address.{Address}
use Rattle.ipnet_base.specs.Ranges.{AddressRange}
use Rattle.ipnet.specs.declared.parser.Grammar.{Grammar}
use Rattle.ipnet.specs.Lines.{lines_of}
use Rattle.ipnet.proofs.LineLaws.{lines_at, last_line}
use Rattle.ipnet_lists.specs.Entries.{IsAddressText, IsEntryText, after_blanks, before_blanks}
use Rattle.ipnet_lists.specs.Lists.{without_blanks}
use Rattle.ipnet_lists.proofs.AddressBytes.{IsAddressByte}
use Rattle.ipnet_lists.proofs.BlankTexts.{ascii_front, ascii_back}
use Rattle.ipnet_lists.proofs.EntryTexts.{address_bytes, network_cut}

-- ---- the first line

pub found_line : (text : List ℕ) (i : ℕ) → NoneBefore (Passes (is_byte 10) text) 0 (length text) i
    → Passes (is_byte 10) text i
    → lines_of text ≡ take i text ∷ lines_of (take (length text - (i + 1)) (drop (i + 1) text))
found_line text i before found =
    let all : length (drop (i + 1) text) ≤ length text - (i + 1) = omega (arith, length-drop (i + 1) text) in
    rw (take_all (length text - (i + 1)) (drop (i + 1) text) all, add-one)
    (lines_at text i before.high (λ k less e. before.before k (omega arith) less (eq-eqb (get_or text k 0) 10 e))
    (eqb-true (get_or text i 0) 10 found))

pub only_line : (text : List ℕ) → 0 < length text → Nowhere (Passes (is_byte 10) text) 0 (length text)
    → lines_of text ≡ text ∷ []
only_line text some none =
    last_line text some (λ k less e. none k (omega arith) less (eq-eqb (get_or text k 0) 10 e))

-- ---- what it holds

-- trimmed, as the definition has it
pub trimmed : (text trim : List ℕ) → IsTrimAscii text trim → trim ≡ without_blanks text
trimmed text trim h = trim_ascii_is text trim (drop (prefix_len is_ascii_whitespace text) text) refl h

-- ---- an entry is ASCII, and so UTF-8

ascii_bytes : (text : List ℕ) → All IsAddressByte text → All (λ b. b < 128) text
ascii_bytes text h = All-weaker IsAddressByte (λ b. b < 128) (λ b is. is.ascii) text h

-- two parts with a byte between them
ascii_cut : (front : List ℕ) (b : ℕ) (back : List ℕ) → b < 128 → All IsAddressByte front → All IsAddressByte back
    → All (λ b. b < 128) (front ++ b ∷ back)
ascii_cut front b back low h k =
    All-append (λ b. b < 128) front (b ∷ back) (ascii_bytes front h)
    (All-cons (λ b. b < 128) b back low (ascii_bytes back k))

pub ascii_entry : (grammar : Grammar) (text : List ℕ) (range : AddressRange) → IsEntryText grammar text range
    → All (λ b. b < 128) text
ascii_entry grammar text range (inl (inl h)) =
    let cut = network_cut grammar text h.network h.writes in
    subst (All (λ b. b < 128)) (sym cut.spelled)
    (ascii_cut cut.front 47 cut.back (omega arith) cut.in_front cut.in_back)
ascii_entry grammar text range (inl (inr h)) = ascii_bytes text (address_bytes grammar text h.address h.writes)
ascii_entry grammar text range (inr h) =
    subst (All (λ b. b < 128)) (sym (h.spelled ∙ append_assoc h.first_text (45 ∷ []) h.last_text))
    (All-append (λ b. b < 128) h.first_text (45 ∷ h.last_text)
    (ascii_front h.first_text
    (address_bytes grammar (before_blanks h.first_text) h.ends.first h.ends.writes_first))
    (All-cons (λ b. b < 128) 45 h.last_text (omega arith)
    (ascii_back h.last_text (address_bytes grammar (after_blanks h.last_text) h.ends.last h.ends.writes_last))))

pub entry_utf8 : (grammar : Grammar) (text : List ℕ) (range : AddressRange) → IsEntryText grammar text range
    → IsUtf8 text
entry_utf8 grammar text range h = IsUtf8-from_ascii text (IsAscii-from_all text (ascii_entry grammar text range h))

pub address_utf8 : (grammar : Grammar) (text : List ℕ) (x : Address) → IsAddressText grammar text x → IsUtf8 text
address_utf8 grammar text x h =
    IsUtf8-from_ascii text (IsAscii-from_all text (ascii_bytes text (address_bytes grammar text x h)))
