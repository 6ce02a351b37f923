-- The comments of lines, in all kinds of lists: how a comment begins, and which comments hide an entry.
use Rattle.std.specs.Prelude.{◌≡◌, ◌≢◌, ◌⊎◌, ◌<◌, ◌≤◌, ℕ, ◌-◌, ◌==◌, true, List, [], ◌++◌, length, slice_index}
use Rattle.std.specs.Prelude.{codes}
use Rattle.std.specs.Char.{is_ascii_digit, is_ascii_whitespace}
use Rattle.std.specs.List.{before_first, list_all}
use Rattle.ipnet_lists.specs.Causes.{IsSomeEntry}
use Rattle.ipnet_lists.specs.Words.{after_leading, from_word, leading, second_word, two_words}

-- The byte at this index is the first of a line, or follows a blank.
abbrev pub IsAfterBlank : List ℕ → ℕ → Type 0
IsAfterBlank line i = (i ≡ 0) ⊎ (is_ascii_whitespace (slice_index line (i - 1)) ≡ true)

-- The byte at this index of a line begins a comment: it is "#" (35), or it is ";" (59) at the start of the line or
-- after a blank.
abbrev pub Opens : List ℕ → ℕ → Type 0
Opens line i = (slice_index line i ≡ 35) ⊎ ((slice_index line i ≡ 59) × IsAfterBlank line i)

-- The comment of the line begins at this index; without a comment, that is the length of the line.
pub record IsCommentAt (line : List ℕ) (i : ℕ) : Type 0 where
  pub within : i ≤ length line
  pub opens : i < length line → Opens line i
  pub first : (k : ℕ) → k < i → ¬ (Opens line k)

-- The text of a comment: all from its first word up to a "#" (35).
-- Example: `deny 10.1.0.0/16 ` of `; deny 10.1.0.0/16 # ours`.
abbrev pub comment_text : List ℕ → List ℕ
comment_text comment = from_word (before_first (λ b. b == 35) comment)

-- The text begins with an entry of the legacy grammar, which includes the strict one. A range with a blank after its
-- "-" has two words. Example: `10.0.0.0/8, ours`; `010.0.0.0/8`; `10.0.0.1- 10.0.0.9`.
abbrev pub BeginsWithEntry : List ℕ → Type 0
BeginsWithEntry text = IsSomeEntry (leading text) ⊎ IsSomeEntry (two_words text)

-- The word is the first of a rule or of a change, or comes before an address of a rule.
abbrev pub IsRuleStart : List ℕ → Type 0
IsRuleStart word = (word ≡ codes "permit") ⊎ ((word ≡ codes "deny") ⊎ ((word ≡ codes "+")
    ⊎ ((word ≡ codes "-") ⊎ (word ≡ codes "host"))))

-- The word names addresses in the rules of a router, or is the protocol `ip` before them.
abbrev pub IsAddressesWord : List ℕ → Type 0
IsAddressesWord word = (word ≡ codes "any") ⊎ ((word ≡ codes "all") ⊎ ((word ≡ codes "default")
    ⊎ ((word ≡ codes "host") ⊎ (word ≡ codes "ip"))))

-- The text begins with a rule or a change. Example: `deny 10.1.0.0/16`, `permit any`, `+ 10.1.0.0/16`; not
-- `deny list of May`.
pub record BeginsWithAction (text : List ℕ) : Type 0 where
  pub start : IsRuleStart (leading text)
  pub named : BeginsWithEntry (after_leading text) ⊎ IsAddressesWord (leading (after_leading text))

-- The text begins with the words of a router's prefix list. Example: `ip prefix-list A permit 10.1.0.0/16`.
abbrev pub BeginsWithPrefixList : List ℕ → Type 0
BeginsWithPrefixList text = ((leading text ≡ codes "ip") ⊎ (leading text ≡ codes "ipv6"))
    × (leading (after_leading text) ≡ codes "prefix-list")

-- The text is decimal digits. Example: `64496`.
abbrev pub IsDigits : List ℕ → Type 0
IsDigits text = (text ≢ []) × (list_all is_ascii_digit text ≡ true)

-- The text begins with a bound or a number of a rule in a prefix list. Example: `le 24`, `seq 10 permit 10.1.0.0/16`.
abbrev pub BeginsWithBound : List ℕ → Type 0
BeginsWithBound text = ((leading text ≡ codes "le") ⊎ ((leading text ≡ codes "ge") ⊎ (leading text ≡ codes "seq")))
    × IsDigits (second_word text)

-- The text begins with words of a router's prefix list.
abbrev pub BeginsWithPrefixWords : List ℕ → Type 0
BeginsWithPrefixWords text = BeginsWithPrefixList text ⊎ BeginsWithBound text

-- The word is the number of an AS, with the letters `AS` before it or without. Example: `AS64496`, `64496`.
pub record IsAsWord (word : List ℕ) : Type 0 where
  pub number : IsDigits word ⊎ ((digits : List ℕ) × (word ≡ codes "AS" ++ digits) × IsDigits digits)

-- The text begins with the number of an AS and an entry, as a VRP does. Example: `AS64496,10.1.0.0/16,16`.
abbrev pub BeginsWithVrp : List ℕ → Type 0
BeginsWithVrp text = IsAsWord (leading text) × BeginsWithEntry (after_leading text)

-- The text begins with words of a router's prefix list, or with a VRP.
abbrev pub BeginsWithRouting : List ℕ → Type 0
BeginsWithRouting text = BeginsWithPrefixWords text ⊎ BeginsWithVrp text

-- The text begins with a rule, a change, words of a router's prefix list, or a VRP.
abbrev pub BeginsWithRule : List ℕ → Type 0
BeginsWithRule text = BeginsWithAction text ⊎ BeginsWithRouting text

-- The comment begins with ";" (59), and its text begins with an entry, a rule, a change, words of a router's prefix
-- list, or a VRP.
-- Example: `; 10.1.0.0/16 # ours`, `; deny 10.1.0.0/16`; not `; office`, `# 10.1.0.0/16`.
pub record HidesEntry (comment : List ℕ) : Type 0 where
  pub some : comment ≢ []
  pub semicolon : slice_index comment 0 ≡ 59
  pub begins : BeginsWithEntry (comment_text comment) ⊎ BeginsWithRule (comment_text comment)
