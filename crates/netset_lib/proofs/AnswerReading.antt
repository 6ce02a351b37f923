-- An answer, read as a list, has the addresses of its set.
use Rattle.std.proofs.Common.{◌≡◌, ◌≢◌, ℕ, ◌+◌, ◌^◌, ◌<◌, ◌≤◌, ◌↔◌, Bool, true, false, List, [], ◌∷◌, ◌++◌}
use Rattle.std.proofs.Common.{All, Any, Contains, map, refl, sym, ap, ◌∙◌, subst, arith, inl, inr, length, drop}
use Rattle.std.proofs.Common.{nat_eq}
use Rattle.std.proofs.Common.{if◌then◌else◌, codes, decimal, append_assoc}
use Rattle.std.proofs.Common.{ne_eqb}
use Rattle.std.proofs.lemmas.List.{length-append}
use Rattle.std.specs.Char.{is_ascii_whitespace}
use Rattle.std.specs.List.{starts_with}
use Rattle.std.proofs.lemmas.List.Elements.{All-nil, All-cons, All-head, All-tail, All-weaker, All-contains}
use Rattle.ipnet_base.specs.Address.{Family, IPv4, IPv6, Address, IsAddress, width}
use Rattle.ipnet_base.specs.Blocks.{IsCoveredBy}
use Rattle.ipnet_base.specs.Network.{Network, IsNetwork, InBlock}
use Rattle.ipnet_base.specs.Ranges.{AddressRange}
use Rattle.ipnet_base.proofs.BlockLaws.{between_from_block, block_from_between}
use Rattle.ipnet_base.proofs.ListLaws.{all_from_members, any_from_contains}
use Rattle.ipnet.specs.CanonicalTexts.{canonical_text, address_text}
use Rattle.ipnet.specs.Lines.{lines_of}
use Rattle.ipnet.specs.NetworkTexts.{IsNetworkText}
use Rattle.ipnet.specs.declared.parser.Grammar.{Grammar}
use Rattle.ipnet.proofs.PrintedDigits.{decimal_digits}
use Rattle.ipnet.proofs.PrintedTexts.{canonical_is_read}
use Rattle.ipnet_sets.specs.SetRanges.{IsInRange}
use Rattle.ipnet_sets.proofs.SetRangeLaws.{any_cases, any_here, any_there}
use Rattle.ipnet_text.specs.LineTexts.{text_of_lines}
use Rattle.netset_lib.specs.declared.answer.Form.{Form}
use Rattle.netset_lib.specs.declared.answer.Form.TheVariants.{Networks, Ranges}
use Rattle.ipnet_lists.specs.SetLines.{range_text, text_of_ranges, AreNetworkLines, AreRangeLines}
use Rattle.netset_lib.specs.Answers.{IsSetText}
use Rattle.ipnet_lists.specs.Entries.{IsAddressText, IsEntryWord, block_range}
use Rattle.ipnet_lists.specs.Lists.{ListEntry, AreContents, AreRead, IsListRead, IsInEntries, after_mark}
use Rattle.ipnet_lists.specs.Lists.{byte_order_mark}
use Rattle.netset_lib.specs.Scripts.{IsListOf}
use Rattle.ipnet_lists.proofs.AddressBytes.{IsPlainByte}
use Rattle.netset_lib.proofs.CoveredLaws.{member_is_covered}
use Rattle.ipnet_lists.proofs.EntryTexts.{with_32, without_length}
use Rattle.ipnet_lists.proofs.ListLines.{ascii_entry}
use Rattle.ipnet_lists.proofs.PlainLines.{plain_contents, plain_entry, word_is_entry}
use Rattle.ipnet_lists.proofs.MarkLaws.{mark_cut}

-- ---- lines that are entries and nothing else

-- the lines, each followed by a newline
abbrev pub text_of : List (List ℕ) → List ℕ
text_of [] = []
text_of (line ∷ lines) = line ++ 10 ∷ text_of lines

line_ends : (line rest : List ℕ) → All (λ b. b ≢ 10) line → lines_of (line ++ 10 ∷ rest) ≡ line ∷ lines_of rest
line_ends [] rest h = refl
line_ends (b ∷ line) rest h =
    let more = line_ends line rest (All-tail (λ b. b ≢ 10) b line h) in
    rw (ne_eqb b 10 (All-head (λ b. b ≢ 10) b line h), more) refl

pub lines_of_text : (lines : List (List ℕ)) → All (All (λ b. b ≢ 10)) lines → lines_of (text_of lines) ≡ lines
lines_of_text [] h = refl
lines_of_text (line ∷ lines) h =
    line_ends line (text_of lines) (All-head (All (λ b. b ≢ 10)) line lines h)
    ∙ ap (λ ls. line ∷ ls) (lines_of_text lines (All-tail (All (λ b. b ≢ 10)) line lines h))

pub no_newline : (b : ℕ) → IsPlainByte b → b ≢ 10
no_newline b is e =
    let clash : true ≡ false = sym (ap is_ascii_whitespace e) ∙ is.no_blank in absurd cc

-- a text of ASCII has no byte order mark
pub no_mark : (b : ℕ) (bytes : List ℕ) → b < 128 → after_mark (b ∷ bytes) ≡ b ∷ bytes
no_mark b bytes ascii = of (starts_with nat_eq (b ∷ bytes) byte_order_mark) refl
  where
    of : (r : Bool) → r ≡ starts_with nat_eq (b ∷ bytes) byte_order_mark → after_mark (b ∷ bytes) ≡ b ∷ bytes
    of false is = ap (λ t. if t then drop 3 (b ∷ bytes) else b ∷ bytes) (sym is)
    of true is =
        let e : b ∷ bytes ≡ 239 ∷ 187 ∷ 191 ∷ drop 3 (b ∷ bytes) = mark_cut (b ∷ bytes) is in
        let same : b ≡ 239 = cc in
        absurd (omega (arith, same, ascii))

-- ---- entries, one a line

-- an entry without blanks, which is not empty
record IsWordEntry (grammar : Grammar) (e : ListEntry) : Type 0 where
  word : IsEntryWord grammar e.text e.range
  some : e.text ≢ []

abbrev texts_of : List ListEntry → List (List ℕ)
texts_of entries = map (λ e. e.text) entries

-- the line of an entry, and the lines after it
read_first : (grammar : Grammar) (list line : ℕ) (text : List ℕ) (range : AddressRange) (texts : List (List ℕ))
    (entries : List ListEntry) → IsEntryWord grammar text range → text ≢ []
    → AreRead grammar list (line + 1) texts entries []
    → AreRead grammar list line (text ∷ texts) (record { text = text; range = range } ∷ entries) []
read_first grammar list line [] range texts entries word some h = absurd (some refl)
read_first grammar list line (b ∷ text) range texts entries word some h =
    inl (
      entries,
      record { range = range; next = refl; writes = word_is_entry grammar (b ∷ text) range word },
      h,
    )

are_read : (grammar : Grammar) (list line : ℕ) (entries : List ListEntry) → All (IsWordEntry grammar) entries
    → AreRead grammar list line (texts_of entries) entries []
are_read grammar list line [] h = (refl, refl)
are_read grammar list line (e ∷ entries) h =
    let first = All-head (IsWordEntry grammar) e entries h in
    read_first grammar list line e.text e.range (texts_of entries) entries first.word first.some
    (are_read grammar list (line + 1) entries (All-tail (IsWordEntry grammar) e entries h))

are_contents : (grammar : Grammar) (entries : List ListEntry) → All (IsWordEntry grammar) entries
    → AreContents (texts_of entries) (texts_of entries)
are_contents grammar [] h = refl
are_contents grammar (e ∷ entries) h =
    let first = All-head (IsWordEntry grammar) e entries h in (
      e.text,
      texts_of entries,
      refl,
      plain_contents e.text (plain_entry grammar e.text e.range first.word),
      are_contents grammar entries (All-tail (IsWordEntry grammar) e entries h),
    )

unbroken : (grammar : Grammar) (entries : List ListEntry) → All (IsWordEntry grammar) entries
    → All (All (λ b. b ≢ 10)) (texts_of entries)
unbroken grammar [] h = All-nil (All (λ b. b ≢ 10))
unbroken grammar (e ∷ entries) h =
    let first = All-head (IsWordEntry grammar) e entries h in
    All-cons (All (λ b. b ≢ 10)) e.text (texts_of entries)
    (All-weaker IsPlainByte (λ b. b ≢ 10) no_newline e.text (plain_entry grammar e.text e.range first.word))
    (unbroken grammar entries (All-tail (IsWordEntry grammar) e entries h))

unmarked : (text rest : List ℕ) → text ≢ [] → All (λ b. b < 128) text → after_mark (text ++ rest) ≡ text ++ rest
unmarked [] rest some ascii = absurd (some refl)
unmarked (b ∷ text) rest some ascii = no_mark b (text ++ rest) (All-head (λ c. c < 128) b text ascii)

unmarked_text : (grammar : Grammar) (entries : List ListEntry) → All (IsWordEntry grammar) entries
    → after_mark (text_of (texts_of entries)) ≡ text_of (texts_of entries)
unmarked_text grammar [] h = refl
unmarked_text grammar (e ∷ entries) h =
    let first = All-head (IsWordEntry grammar) e entries h in
    unmarked e.text (10 ∷ text_of (texts_of entries)) first.some
    (ascii_entry grammar e.text e.range (word_is_entry grammar e.text e.range first.word))

entries_are_read : (grammar : Grammar) (list : ℕ) (entries : List ListEntry) → All (IsWordEntry grammar) entries
    → IsListRead grammar list (text_of (texts_of entries)) entries []
entries_are_read grammar list entries h = (
  texts_of entries,
  subst (λ ls. AreContents ls (texts_of entries))
      (sym
      (ap lines_of (unmarked_text grammar entries h)
      ∙ lines_of_text (texts_of entries) (unbroken grammar entries h)))
      (are_contents grammar entries h),
  are_read grammar list 1 entries h,
)

-- the addresses of entries that are made of other things
entries_have : {X : Type 0} (entry : X → ListEntry) (P : X → Type 0) (x : Address)
    → ((y : X) → IsInRange (entry y).range x ↔ P y) → (ys : List X) → IsInEntries (map entry ys) x ↔ Any P ys
entries_have entry P x same [] = (
  λ h. absurd (omega (arith, h.2)),
  λ h. absurd (omega (arith, h.2)),
)
entries_have entry P x same (y ∷ ys) =
    let more = entries_have entry P x same ys in (
      λ h. elim (any_cases (λ e. IsInRange e.range x) (entry y) (map entry ys) h) [
        | inl here ↦ any_here P y ys ((same y).0 here)
        | inr there ↦ any_there P y ys (more.0 there)
      ],
      λ h. elim (any_cases P y ys h) [
        | inl here ↦ any_here (λ e. IsInRange e.range x) (entry y) (map entry ys) ((same y).1 here)
        | inr there ↦ any_there (λ e. IsInRange e.range x) (entry y) (map entry ys) (more.1 there)
      ],
    )

-- ---- the lines of networks

abbrev network_entry : Network → ListEntry
network_entry n = record { text = canonical_text n; range = block_range n }

networks_spelled : (blocks : List Network) → text_of_lines blocks ≡ text_of (texts_of (map network_entry blocks))
networks_spelled [] = refl
networks_spelled (n ∷ blocks) =
    ap (λ t. canonical_text n ++ 10 ∷ [] ++ t) (networks_spelled blocks)
    ∙ append_assoc (canonical_text n) (10 ∷ []) (text_of (texts_of (map network_entry blocks)))

pub canonical_some : (n : Network) → canonical_text n ≢ []
canonical_some n e =
    let address = address_text n.family n.number in
    let none : length ((address ++ codes "/") ++ decimal n.prefix_len) ≡ 0 = ap length e in
    omega (
      arith,
      none,
      length-append (address ++ codes "/") (decimal n.prefix_len),
      length-append address (codes "/"),
    )

range_some : (r : AddressRange) → range_text r ≢ []
range_some r e =
    let first = address_text r.family r.start in
    let last = address_text r.family r.end in
    let none : length ((first ++ codes "-") ++ last) ≡ 0 = ap length e in
    omega (arith, none, length-append (first ++ codes "-") last, length-append first (codes "-"))

network_is_word : (grammar : Grammar) (n : Network) → IsNetwork n → IsWordEntry grammar (network_entry n)
network_is_word grammar n u = record {
  word = inl (inl (record { network = n; writes = inl (canonical_is_read grammar n u); is = refl }));
  some = canonical_some n;
}

networks_are_words : (grammar : Grammar) (blocks : List Network) → All IsNetwork blocks
    → All (IsWordEntry grammar) (map network_entry blocks)
networks_are_words grammar [] h = All-nil (IsWordEntry grammar)
networks_are_words grammar (n ∷ blocks) h =
    All-cons (IsWordEntry grammar) (network_entry n) (map network_entry blocks)
    (network_is_word grammar n (All-head IsNetwork n blocks h))
    (networks_are_words grammar blocks (All-tail IsNetwork n blocks h))

in_block_range : (x : Address) (n : Network) → IsInRange (block_range n) x ↔ InBlock n x
in_block_range x n = (block_from_between n x, between_from_block n x)

networks_list : (grammar : Grammar) (InSet : Address → Type 0) (text : List ℕ)
    → ((x : Address) → InSet x → IsAddress x) → AreNetworkLines InSet text → IsListOf grammar InSet text
networks_list grammar InSet text fits h = record {
  entries = map network_entry h.blocks;
  read = subst (λ t. IsListRead grammar 0 t (map network_entry h.blocks) [])
      (sym (h.spelled ∙ networks_spelled h.blocks))
      (entries_are_read grammar 0 (map network_entry h.blocks)
      (networks_are_words grammar h.blocks
      (all_from_members IsNetwork h.blocks (λ n c. ((h.maximal.members n).0 c).inside.network))));
  addresses = λ x.
      let have = entries_have network_entry (λ n. InBlock n x) x (in_block_range x) h.blocks in (
        λ m. have.1 (member_is_covered InSet h.blocks h.maximal x (fits x m) m),
        λ e. within x (have.0 e),
      );
}
  where
    within : (x : Address) → IsCoveredBy h.blocks x → InSet x
    within x (i, n, less, is, a) = ((h.maximal.members n).0 (i, less, is)).inside.within x a

-- ---- the lines of ranges

abbrev range_entry : AddressRange → ListEntry
range_entry r = record { text = range_text r; range = r }

ranges_spelled : (ranges : List AddressRange) → text_of_ranges ranges ≡ text_of (texts_of (map range_entry ranges))
ranges_spelled [] = refl
ranges_spelled (r ∷ ranges) =
    ap (λ t. range_text r ++ 10 ∷ [] ++ t) (ranges_spelled ranges)
    ∙ append_assoc (range_text r) (10 ∷ []) (text_of (texts_of (map range_entry ranges)))

address_is_read : (grammar : Grammar) (x : Address) → IsAddress x
    → IsAddressText grammar (address_text x.family x.number) x
address_is_read grammar x fits =
    let text = address_text x.family x.number in
    let digits : decimal 32 ≡ codes "32" = decimal_digits 32 (omega arith) in
    without_length grammar text (with_32 x)
    (subst (λ t. IsNetworkText grammar t (with_32 x))
    (ap (λ d. (text ++ codes "/") ++ d) digits ∙ append_assoc text (codes "/") (codes "32"))
    (canonical_is_read grammar (with_32 x) (record { address_fits = fits; prefix_fits = long x.family })))
  where
    long : (f : Family) → 32 ≤ width f
    long IPv4 = omega arith
    long IPv6 = omega arith

-- a range of addresses
pub record HasEnds (r : AddressRange) : Type 0 where
  pub some : r.start ≤ r.end
  pub fits : r.end < 2 ^ width r.family

range_is_word : (grammar : Grammar) (r : AddressRange) → HasEnds r → IsWordEntry grammar (range_entry r)
range_is_word grammar r h =
    let first : Address = record { family = r.family; number = r.start } in
    let last : Address = record { family = r.family; number = r.end } in
    record {
      word = inr (record {
        first_text = address_text r.family r.start;
        last_text = address_text r.family r.end;
        spelled = refl;
        ends = record {
          first = first;
          last = last;
          writes_first = address_is_read grammar first (omega (arith, h.some, h.fits));
          writes_last = address_is_read grammar last h.fits;
          addresses = record { same_family = refl; ordered = h.some; is = refl };
        };
      });
      some = range_some r;
    }

ranges_are_words : (grammar : Grammar) (ranges : List AddressRange) → All HasEnds ranges
    → All (IsWordEntry grammar) (map range_entry ranges)
ranges_are_words grammar [] h = All-nil (IsWordEntry grammar)
ranges_are_words grammar (r ∷ ranges) h =
    All-cons (IsWordEntry grammar) (range_entry r) (map range_entry ranges)
    (range_is_word grammar r (All-head HasEnds r ranges h))
    (ranges_are_words grammar ranges (All-tail HasEnds r ranges h))

ranges_list : (grammar : Grammar) (InSet : Address → Type 0) (text : List ℕ)
    → ((x : Address) → InSet x → IsAddress x) → AreRangeLines InSet text → IsListOf grammar InSet text
ranges_list grammar InSet text fits h = record {
  entries = map range_entry h.ranges;
  read = subst (λ t. IsListRead grammar 0 t (map range_entry h.ranges) []) (sym (h.spelled ∙ ranges_spelled h.ranges))
      (entries_are_read grammar 0 (map range_entry h.ranges)
      (ranges_are_words grammar h.ranges (all_from_members HasEnds h.ranges ends)));
  addresses = λ x.
      let have = entries_have range_entry (λ r. IsInRange r x) x (λ r. (λ m. m, λ m. m)) h.ranges in
      let members = h.fewest.members x in
      (λ m. have.1 (members.0 m), λ e. members.1 (have.0 e));
}
  where
    ends : (r : AddressRange) → Contains h.ranges r → HasEnds r
    ends r c =
        let some = All-contains (λ z. z.start ≤ z.end) h.ranges r h.fewest.some c in
        let last : Address = record { family = r.family; number = r.end } in
        record {
          some = some;
          fits = fits last ((h.fewest.members last).1
              (any_from_contains (λ z. IsInRange z last) h.ranges r c
              (record { of_family = refl; from_start = some; to_end = omega arith })));
        }

-- an answer, read as a list, has the addresses of its set
pub answer_is_list : (form : Form) (grammar : Grammar) (InSet : Address → Type 0) (text : List ℕ)
    → ((x : Address) → InSet x → IsAddress x) → IsSetText form InSet text → IsListOf grammar InSet text
answer_is_list Networks grammar InSet text fits h = networks_list grammar InSet text fits h
answer_is_list Ranges grammar InSet text fits h = ranges_list grammar InSet text fits h
