-- The text of changes, read as a list of changes, is these changes.
use Rattle.std.proofs.Common.{◌≡◌, ◌≢◌, ℕ, ◌+◌, ◌-◌, ◌<◌, false, List, [], ◌∷◌, ◌++◌, All}
use Rattle.std.proofs.Common.{map, refl, sym, ap, ap₂, ◌∙◌, subst, arith, inl, inr, length, drop}
use Rattle.std.proofs.Common.{get_or, append_assoc, suc}
use Rattle.std.specs.Char.{is_ascii_whitespace}
use Rattle.std.specs.List.{prefix_len, suffix_len}
use Rattle.std.proofs.lemmas.List.Elements.{All-nil, All-cons, All-head, All-tail, All-weaker, All-get_or}
use Rattle.ipnet_base.specs.Network.{Network, IsNetwork, IsTruncated, HaveSameBlock}
use Rattle.ipnet_base.proofs.BlockLaws.{between_from_block, block_from_between}
use Rattle.ipnet_base.proofs.NetworkLaws.{same_from_block}
use Rattle.ipnet.specs.CanonicalTexts.{canonical_text}
use Rattle.ipnet.specs.Lines.{lines_of}
use Rattle.ipnet.specs.declared.parser.Grammar.{Grammar}
use Rattle.ipnet.specs.declared.parser.Grammar.TheVariants.{Strict}
use Rattle.ipnet.proofs.PrintedTexts.{canonical_is_read}
use Rattle.ipnet_sets.specs.SetRanges.{IsInRange}
use Rattle.netset_lib.specs.declared.change_line.ChangeCause.{ChangeCause}
use Rattle.netset_lib.specs.declared.change_line.ChangeCause.TheVariants as Causes
use Rattle.netset_lib.specs.Changes.{ListChange, Added, Removed, changed_network, change_line, text_of_changes}
use Rattle.netset_lib.specs.ChangeLists.{sign_of, IsChangeText, Fits, IsFittingChange, IsChangeCause}
use Rattle.netset_lib.specs.ChangeLists.{IsChangeLineCause, IsChangeList}
use Rattle.ipnet_lists.specs.ContentLines.{AreItems}
use Rattle.ipnet_lists.specs.Entries.{block_range}
use Rattle.ipnet_lists.specs.Lists.{IsContents, AreContents, RefusalFor, without_blanks, after_mark}
use Rattle.netset_lib.specs.NetworkEntries.{IsNetworkWord}
use Rattle.ipnet_lists.specs.Words.{leading_word, after_word}
use Rattle.ipnet_lists.proofs.AddressBytes.{IsPlainByte}
use Rattle.netset_lib.proofs.AnswerReading.{text_of, lines_of_text, no_mark, no_newline, canonical_some}
use Rattle.ipnet_lists.proofs.BlankTexts.{first_fails, last_one_fails}
use Rattle.ipnet_lists.proofs.OneReading.{all_contents, one_plain}
use Rattle.ipnet_lists.specs.Entries.{HasReturn}
use Rattle.ipnet_lists.proofs.ByteLaws.{plain_no_return}
use Rattle.ipnet_lists.proofs.PlainLines.{IsSober, plain_entry, sober_contents, untrimmed}

-- ---- a network word is one network

same_block : (n m : Network) → block_range n ≡ block_range m → HaveSameBlock n m
same_block n m e = (
  λ x a. block_from_between m x (subst (λ r. IsInRange r x) e (between_from_block n x a)),
  λ x a. block_from_between n x (subst (λ r. IsInRange r x) (sym e) (between_from_block m x a)),
)

one_network_word : (grammar : Grammar) (text : List ℕ) (n m : Network) → IsNetworkWord grammar text n
    → IsNetworkWord grammar text m → n ≡ m
one_network_word grammar text n m h k =
    same_from_block n m h.network k.network h.truncated k.truncated
    (same_block n m (one_plain grammar text (block_range n) (block_range m) h.entry k.entry))

canonical_word : (grammar : Grammar) (n : Network) → IsNetwork n → IsTruncated n
    → IsNetworkWord grammar (canonical_text n) n
canonical_word grammar n u t = record {
  network = u;
  truncated = t;
  entry = inl (record { network = n; writes = inl (canonical_is_read grammar n u); is = refl });
}

canonical_plain : (n : Network) → IsNetwork n → All IsPlainByte (canonical_text n)
canonical_plain n u =
    plain_entry Strict (canonical_text n) (block_range n)
    (inl (inl (record { network = n; writes = inl (canonical_is_read Strict n u); is = refl })))

-- ---- the line of a change

-- the byte of the sign
abbrev sign_byte : ListChange → ℕ
sign_byte (Added n) = 43
sign_byte (Removed n) = 45

-- the contents of the line: the sign, a blank and the network
abbrev change_text : ListChange → List ℕ
change_text change = sign_byte change ∷ 32 ∷ canonical_text (changed_network change)

changes_spelled : (changes : List ListChange) → text_of_changes changes ≡ text_of (map change_text changes)
changes_spelled [] = refl
changes_spelled (Added n ∷ changes) = ap (λ t. change_line (Added n) ++ t) (changes_spelled changes)
    ∙ append_assoc (change_text (Added n)) (10 ∷ []) (text_of (map change_text changes))
changes_spelled (Removed n ∷ changes) = ap (λ t. change_line (Removed n) ++ t) (changes_spelled changes)
    ∙ append_assoc (change_text (Removed n)) (10 ∷ []) (text_of (map change_text changes))

sign_is_bare : (change : ListChange) → is_ascii_whitespace (sign_byte change) ≡ false
sign_is_bare (Added n) = refl
sign_is_bare (Removed n) = refl

sign_is_sober : (change : ListChange) → IsSober (sign_byte change)
sign_is_sober (Added n) = record { no_hash = λ e. omega (arith, e); no_semicolon = λ e. omega (arith, e) }
sign_is_sober (Removed n) = record { no_hash = λ e. omega (arith, e); no_semicolon = λ e. omega (arith, e) }

sign_is_ascii : (change : ListChange) → sign_byte change < 128
sign_is_ascii (Added n) = omega arith
sign_is_ascii (Removed n) = omega arith

sign_is_no_newline : (change : ListChange) → sign_byte change ≢ 10
sign_is_no_newline (Added n) e = omega (arith, e)
sign_is_no_newline (Removed n) e = omega (arith, e)

-- a byte, a blank and a text without blanks
module _ (sign : ℕ) (text : List ℕ) (bare : is_ascii_whitespace sign ≡ false) (plain : All IsPlainByte text) where
  after_blank : prefix_len is_ascii_whitespace text ≡ 0
  after_blank =
      first_fails is_ascii_whitespace text (λ some. (All-get_or IsPlainByte text 0 0 some plain).no_blank)

  last_bare : text ≢ [] → suffix_len is_ascii_whitespace (sign ∷ 32 ∷ text) ≡ 0
  last_bare some = last_one_fails is_ascii_whitespace (sign ∷ 32 ∷ text) (λ within. at text some plain)
    where
      at : (bytes : List ℕ) → bytes ≢ [] → All IsPlainByte bytes
          → is_ascii_whitespace (get_or (sign ∷ 32 ∷ bytes) (length (sign ∷ 32 ∷ bytes) - 1 - 0) 0) ≡ false
      at [] some h = absurd (some refl)
      at (b ∷ bytes) some h =
          let place : suc (suc (length bytes)) ≡ length (sign ∷ 32 ∷ b ∷ bytes) - 1 - 0 = omega arith in
          subst (λ i. is_ascii_whitespace (get_or (sign ∷ 32 ∷ b ∷ bytes) i 0) ≡ false) place
          (All-get_or IsPlainByte (b ∷ bytes) (length bytes) 0 (omega arith) h).no_blank

  bare_line : text ≢ [] → without_blanks (sign ∷ 32 ∷ text) ≡ sign ∷ 32 ∷ text
  bare_line some =
      untrimmed is_ascii_whitespace (sign ∷ 32 ∷ text)
      (first_fails is_ascii_whitespace (sign ∷ 32 ∷ text) (λ within. bare)) (last_bare some)

sober_line : (change : ListChange) → IsNetwork (changed_network change) → All IsSober (change_text change)
sober_line change u =
    All-cons IsSober (sign_byte change) (32 ∷ canonical_text (changed_network change)) (sign_is_sober change)
    (All-cons IsSober 32 (canonical_text (changed_network change))
    (record { no_hash = λ e. omega (arith, e); no_semicolon = λ e. omega (arith, e) })
    (All-weaker IsPlainByte IsSober (λ b is. record { no_hash = is.no_hash; no_semicolon = is.no_semicolon })
    (canonical_text (changed_network change)) (canonical_plain (changed_network change) u)))

line_contents : (change : ListChange) → IsNetwork (changed_network change)
    → IsContents (change_text change) (change_text change)
line_contents change u =
    sober_contents (change_text change) (sober_line change u)
    (bare_line (sign_byte change) (canonical_text (changed_network change)) (sign_is_bare change)
    (canonical_plain (changed_network change) u) (canonical_some (changed_network change)))

first_word_is : (change : ListChange) → leading_word (change_text change) ≡ sign_of change
first_word_is (Added n) = refl
first_word_is (Removed n) = refl

rest_is : (change : ListChange) → IsNetwork (changed_network change)
    → after_word (change_text change) ≡ canonical_text (changed_network change)
rest_is (Added n) u =
    ap (λ k. drop (1 + k) (32 ∷ canonical_text n)) (after_blank 43 (canonical_text n) refl (canonical_plain n u))
rest_is (Removed n) u =
    ap (λ k. drop (1 + k) (32 ∷ canonical_text n)) (after_blank 45 (canonical_text n) refl (canonical_plain n u))

-- a network as an answer has it
pub record IsPlainNetwork (n : Network) : Type 0 where
  pub network : IsNetwork n
  pub truncated : IsTruncated n

-- its line has no carriage return
no_return_in : (change : ListChange) → IsPlainNetwork (changed_network change) → ¬ (HasReturn (change_text change))
no_return_in (Added n) h = plain_no_return (canonical_text n) (canonical_plain n h.network)
no_return_in (Removed n) h = plain_no_return (canonical_text n) (canonical_plain n h.network)

line_is_change : (grammar : Grammar) (change : ListChange) → IsPlainNetwork (changed_network change)
    → IsChangeText grammar (change_text change) change
line_is_change grammar change h = record {
  sign = first_word_is change;
  network = subst (λ z. IsNetworkWord grammar z (changed_network change)) (sym (rest_is change h.network))
      (canonical_word grammar (changed_network change) h.network h.truncated);
}

-- a text is one change
one_change : (grammar : Grammar) (text : List ℕ) (c d : ListChange) → IsChangeText grammar text c
    → IsChangeText grammar text d → c ≡ d
one_change grammar text (Added n) (Added m) h k =
    ap Added (one_network_word grammar (after_word text) n m h.network k.network)
one_change grammar text (Removed n) (Removed m) h k =
    ap Removed (one_network_word grammar (after_word text) n m h.network k.network)
one_change grammar text (Added n) (Removed m) h k =
    let signs : 43 ≡ 45 = ap (λ z. get_or z 0 0) (sym h.sign ∙ k.sign) in absurd (omega (arith, signs))
one_change grammar text (Removed n) (Added m) h k =
    let signs : 45 ≡ 43 = ap (λ z. get_or z 0 0) (sym h.sign ∙ k.sign) in absurd (omega (arith, signs))

-- ---- all lines

-- the changes of networks that fit them
pub record IsGoodChange (Has : Network → Type 0) (change : ListChange) : Type 0 where
  pub plain : IsPlainNetwork (changed_network change)
  pub fits : Fits Has change

module _ (grammar : Grammar) (Has : Network → Type 0) where
  contents_of_lines : (changes : List ListChange) → All (IsGoodChange Has) changes
      → AreContents (map change_text changes) (map change_text changes)
  contents_of_lines [] h = refl
  contents_of_lines (c ∷ changes) h = (
    change_text c,
    map change_text changes,
    refl,
    line_contents c (All-head (IsGoodChange Has) c changes h).plain.network,
    contents_of_lines changes (All-tail (IsGoodChange Has) c changes h),
  )

  unbroken_lines : (changes : List ListChange) → All (IsGoodChange Has) changes
      → All (All (λ b. b ≢ 10)) (map change_text changes)
  unbroken_lines [] h = All-nil (All (λ b. b ≢ 10))
  unbroken_lines (c ∷ changes) h =
      let n = changed_network c in
      let plain = canonical_plain n (All-head (IsGoodChange Has) c changes h).plain.network in
      All-cons (All (λ b. b ≢ 10)) (change_text c) (map change_text changes)
      (All-cons (λ b. b ≢ 10) (sign_byte c) (32 ∷ canonical_text n) (sign_is_no_newline c)
      (All-cons (λ b. b ≢ 10) 32 (canonical_text n) (λ e. omega (arith, e))
      (All-weaker IsPlainByte (λ b. b ≢ 10) no_newline (canonical_text n) plain)))
      (unbroken_lines changes (All-tail (IsGoodChange Has) c changes h))

  unmarked_lines : (changes : List ListChange)
      → after_mark (text_of (map change_text changes)) ≡ text_of (map change_text changes)
  unmarked_lines [] = refl
  unmarked_lines (c ∷ changes) =
      no_mark (sign_byte c) (32 ∷ (canonical_text (changed_network c) ++ 10 ∷ text_of (map change_text changes)))
      (sign_is_ascii c)

  -- a change that fits is not refused
  not_refused : (change : ListChange) (cause : ChangeCause) → IsGoodChange Has change
      → IsChangeCause grammar Has (change_text change) cause → ⊥
  not_refused change Causes.UnknownSign good unknown = unknown (change, first_word_is change)
  not_refused change (Causes.NoNetwork cause) good (sign, none, reported) =
      none (changed_network change) (line_is_change grammar change good.plain).network
  not_refused change Causes.Present good (n, is, has) =
      let here = line_is_change grammar change good.plain in
      let same = one_change grammar (change_text change) change (Added n) here is in
      subst (Fits Has) same good.fits has
  not_refused change Causes.Absent good (n, is, lacks) =
      let here = line_is_change grammar change good.plain in
      let same = one_change grammar (change_text change) change (Removed n) here is in
      lacks (subst (Fits Has) same good.fits)

  lines_read : (changes : List ListChange) (number : ℕ) (read : List ListChange)
      (refused : List (RefusalFor ChangeCause)) → All (IsGoodChange Has) changes
      → AreItems (λ line. IsFittingChange grammar Has line.text) (IsChangeLineCause grammar Has) number
      (map change_text changes) read refused
      → (read ≡ changes) × (refused ≡ [])
  lines_read [] number read refused good h = h
  lines_read (c ∷ changes) number read refused good (inl (items, next, k)) =
      let here = All-head (IsGoodChange Has) c changes good in
      let rest = lines_read changes (number + 1) items refused (All-tail (IsGoodChange Has) c changes good) k in
      let same = one_change grammar (change_text c) next.item c next.is.0 (line_is_change grammar c here.plain) in
      (next.next ∙ ap₂ (λ z zs. z ∷ zs) same rest.0, rest.1)
  lines_read (c ∷ changes) number read refused good (inr (items, next, k)) =
      let here = All-head (IsGoodChange Has) c changes good in
      elim next.reported [
        | inl broken ↦ absurd (no_return_in c here.plain broken.0)
        | inr cause ↦ absurd (not_refused c next.cause here cause.1)
      ]

  -- the text of changes is read as these changes
  pub changes_read : (changes read : List ListChange) (refused : List (RefusalFor ChangeCause))
      → All (IsGoodChange Has) changes → IsChangeList grammar Has (text_of_changes changes) read refused
      → (read ≡ changes) × (refused ≡ [])
  changes_read changes read refused good (texts, are, items) =
      let lines : lines_of (after_mark (text_of_changes changes)) ≡ map change_text changes =
      ap (λ t. lines_of (after_mark t)) (changes_spelled changes)
      ∙ ap lines_of (unmarked_lines changes)
      ∙ lines_of_text (map change_text changes) (unbroken_lines changes good) in
      let same : texts ≡ map change_text changes =
      all_contents (lines_of (after_mark (text_of_changes changes))) texts (map change_text changes) are
      (subst (λ ls. AreContents ls (map change_text changes)) (sym lines) (contents_of_lines changes good)) in
      lines_read changes 1 read refused good
      (subst (λ ts. AreItems (λ line. IsFittingChange grammar Has line.text) (IsChangeLineCause grammar Has) 1 ts read
      refused) same items)
