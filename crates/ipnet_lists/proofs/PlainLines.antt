-- A line that is an entry and nothing else.
use Rattle.std.proofs.Common.{◌≡◌, ◌≢◌, ℕ, ◌+◌, ◌-◌, ◌<◌, Bool, true, false, List, [], ◌∷◌, ◌++◌, All, length, get_or}
use Rattle.std.proofs.Common.{take}
use Rattle.std.proofs.Common.{drop, refl, sym, ap, ◌∙◌, subst, arith, inl, inr, append_assoc, take_all, add-one}
use Rattle.std.proofs.Common.{length-take-le, get_or-take}
use Rattle.std.specs.Char.{is_ascii_whitespace}
use Rattle.std.specs.List.{prefix_len, suffix_len}
use Rattle.std.proofs.lemmas.List.Elements.{All-append, All-cons, All-weaker, All-get_or}
use Rattle.ipnet_base.specs.Ranges.{AddressRange}
use Rattle.ipnet.specs.declared.parser.Grammar.{Grammar}
use Rattle.ipnet.specs.Lines.{lines_of}
use Rattle.ipnet.proofs.LineLaws.{lines_at}
use Rattle.ipnet_text.proofs.FrontTexts.{rest_from, rest_is}
use Rattle.ipnet_lists.specs.Entries.{IsEntryText, IsEntryWord}
use Rattle.ipnet_lists.specs.Comments.{Opens}
use Rattle.ipnet_lists.specs.Lists.{without_blanks, IsContents}
use Rattle.ipnet_lists.proofs.AddressBytes.{IsAddressByte, IsPlainByte}
use Rattle.ipnet_lists.proofs.BlankTexts.{first_fails, last_fails, bare_front, bare_back}
use Rattle.ipnet_lists.proofs.ByteLaws.{plain_no_return}
use Rattle.ipnet_lists.proofs.CommentLaws.{whole_contents}
use Rattle.ipnet_lists.proofs.EntryTexts.{address_bytes, network_cut, plain_bytes}

-- ---- the bytes of an entry

-- two parts with a byte between them
plain_cut : (front : List ℕ) (b : ℕ) (back : List ℕ) → IsPlainByte b → All IsAddressByte front
    → All IsAddressByte back → All IsPlainByte (front ++ b ∷ back)
plain_cut front b back is h k =
    All-append IsPlainByte front (b ∷ back) (plain_bytes front h)
    (All-cons IsPlainByte b back is (plain_bytes back k))

slash : IsPlainByte 47
slash = record { no_blank = refl; no_hash = λ e. omega (arith, e); no_semicolon = λ e. omega (arith, e) }

dash : IsPlainByte 45
dash = record { no_blank = refl; no_hash = λ e. omega (arith, e); no_semicolon = λ e. omega (arith, e) }

pub plain_entry : (grammar : Grammar) (text : List ℕ) (range : AddressRange) → IsEntryWord grammar text range
    → All IsPlainByte text
plain_entry grammar text range (inl (inl h)) =
    let cut = network_cut grammar text h.network h.writes in
    subst (All IsPlainByte) (sym cut.spelled) (plain_cut cut.front 47 cut.back slash cut.in_front cut.in_back)
plain_entry grammar text range (inl (inr h)) = plain_bytes text (address_bytes grammar text h.address h.writes)
plain_entry grammar text range (inr h) =
    subst (All IsPlainByte) (sym (h.spelled ∙ append_assoc h.first_text (45 ∷ []) h.last_text))
    (plain_cut h.first_text 45 h.last_text dash (address_bytes grammar h.first_text h.ends.first h.ends.writes_first)
    (address_bytes grammar h.last_text h.ends.last h.ends.writes_last))

-- such a text is an entry
pub word_is_entry : (grammar : Grammar) (text : List ℕ) (range : AddressRange) → IsEntryWord grammar text range
    → IsEntryText grammar text range
word_is_entry grammar text range (inl h) = inl h
word_is_entry grammar text range (inr h) =
    let front = bare_front h.first_text (address_bytes grammar h.first_text h.ends.first h.ends.writes_first) in
    let back = bare_back h.last_text (address_bytes grammar h.last_text h.ends.last h.ends.writes_last) in
    inr record {
      first_text = h.first_text;
      last_text = h.last_text;
      spelled = h.spelled;
      ends = rw (front, back) h.ends;
      unbroken = plain_no_return text (plain_entry grammar text range (inr h));
    }

-- ---- nothing is around them

pub untrimmed : (p : ℕ → Bool) (text : List ℕ) → prefix_len p text ≡ 0 → suffix_len p text ≡ 0
    → take (length (drop (prefix_len p text) text) - suffix_len p (drop (prefix_len p text) text))
    (drop (prefix_len p text) text) ≡ text
untrimmed p text none nor =
    let whole : drop (prefix_len p text) text ≡ text = ap (λ k. drop k text) none in
    ap (λ rest. take (length rest - suffix_len p rest) rest) whole
    ∙ ap (λ k. take (length text - k) text) nor
    ∙ take_all (length text - 0) text (omega arith)

no_blanks : (text : List ℕ) → All IsPlainByte text → without_blanks text ≡ text
no_blanks text h =
    let none : (i : ℕ) → i < length text → is_ascii_whitespace (get_or text i 0) ≡ false =
    λ i less. (All-get_or IsPlainByte text i 0 less h).no_blank in
    untrimmed is_ascii_whitespace text (first_fails is_ascii_whitespace text (none 0))
    (last_fails is_ascii_whitespace text none)

-- a byte that begins no comment
pub record IsSober (b : ℕ) : Type 0 where
  pub no_hash : b ≢ 35
  pub no_semicolon : b ≢ 59

opens_none : (text : List ℕ) → All IsSober text → (k : ℕ) → k < length text → ¬ (Opens text k)
opens_none text h k less (inl hash) = (All-get_or IsSober text k 0 less h).no_hash hash
opens_none text h k less (inr (semicolon, after)) = (All-get_or IsSober text k 0 less h).no_semicolon semicolon

-- a line without a comment and without blanks at its ends contains all that it is
pub sober_contents : (text : List ℕ) → All IsSober text → without_blanks text ≡ text
    → IsContents text text
sober_contents text h bare =
    whole_contents text text (record {
      within = omega arith;
      opens = λ less. absurd (omega (arith, less));
      first = opens_none text h;
    }) (sym bare)

-- so does one without blanks
pub plain_contents : (text : List ℕ) → All IsPlainByte text → IsContents text text
plain_contents text h =
    sober_contents text
    (All-weaker IsPlainByte IsSober (λ b is. record { no_hash = is.no_hash; no_semicolon = is.no_semicolon }) text h)
    (no_blanks text h)

-- ---- the line at the front of bytes

-- no byte of it is a newline
no_newline : (bytes : List ℕ) (n : ℕ) → n < length bytes → All IsPlainByte (take n bytes) → (k : ℕ) → k < n
    → get_or bytes k 0 ≡ 10 → ⊥
no_newline bytes n within h k less e =
    let size : length (take n bytes) ≡ n = length-take-le n bytes (omega (arith, within)) in
    let plain = All-get_or IsPlainByte (take n bytes) k 0 (omega (arith, less, size)) h in
    let clash : true ≡ false =
    sym (ap is_ascii_whitespace (get_or-take n bytes k 0 less ∙ e)) ∙ plain.no_blank in
    absurd cc

-- so it ends at the first newline
pub plain_line : (bytes : List ℕ) (n : ℕ) → n < length bytes → get_or bytes n 0 ≡ 10 → All IsPlainByte (take n bytes)
    → lines_of bytes ≡ take n bytes ∷ lines_of (rest_from (n + 1) bytes)
plain_line bytes n within found h =
    lines_at bytes n within (no_newline bytes n within h) found
    ∙ ap (λ k. take n bytes ∷ lines_of (drop k bytes)) (sym (add-one n))
    ∙ ap (λ z. take n bytes ∷ lines_of z) (sym (rest_is (n + 1) bytes))
