-- The lines of prefix lists as routers write them, and the rules of one list in the order of their sequence numbers.
use Rattle.std.specs.Prelude.{◌≡◌, ◌≢◌, ◌⊎◌, ◌<◌, ℕ, ◌+◌, ◌*◌, ◌^◌, Bool, false, List, [], codes, length, map}
use Rattle.std.specs.Prelude.{Option, Some, None, All, Contains, nat_eq, slice_index, slice_index_or}
use Rattle.std.specs.Cmp.Lexicographic.{pointwise}
use Rattle.std.specs.List.{filter}
use Rattle.std.specs.List.Sorted.{IsPermutation, IsStrictlyIncreasing}
use Rattle.ipnet_base.specs.Address.{Family, IPv4, IPv6, family_index}
use Rattle.ipnet.specs.NetworkOf.{ip_network}
use Rattle.ipnet.specs.Numerals.{IsDecimal}
use Rattle.ipnet.specs.declared.parser.Grammar.{Grammar}
use Rattle.ipnet.specs.declared.parser.Grammar.TheVariants.{Strict}
use Rattle.ipnet_rules.specs.declared.prefix_list.PrefixRule.{PrefixRule}
use Rattle.ipnet_lists.specs.declared.cause.Cause.TheVariants.{CarriageReturn}
use Rattle.ipnet_lists.specs.ContentLines.{IsItemList, OrBroken}
use Rattle.ipnet_lists.specs.Lists.{RefusalFor}
use Rattle.ipnet_lists.specs.Words.{leading_word, after_word}
use Rattle.netset_lib.specs.declared.network_entry.NetworkCause.TheVariants.{NoEntry}
use Rattle.netset_lib.specs.declared.prefix_choice.ChoiceFault.{ChoiceFault}
use Rattle.netset_lib.specs.declared.prefix_choice.ChoiceFault.TheVariants as Faults
use Rattle.netset_lib.specs.declared.prefix_line.PrefixCause.{PrefixCause}
use Rattle.netset_lib.specs.declared.prefix_line.PrefixCause.TheVariants as Causes
use Rattle.netset_lib.specs.PrefixLines.{IsPrefixText, IsPrefixCause}

-- A line of a prefix list: the name of its list and its sequence number, if it has them, and its rule.
pub record PrefixEntry : Type 0 where
  pub name : Option (List ℕ)
  pub number : Option ℕ
  pub rule : PrefixRule

-- The first word of a router's line for this family: `ip` or `ipv6`.
abbrev pub family_word : Family → List ℕ
family_word IPv4 = codes "ip"
family_word IPv6 = codes "ipv6"

-- The text begins with the family's word, `prefix-list` and this name, and the rest follows. The name may be missing.
-- Example: `ip prefix-list ours seq 5 permit 10.0.0.0/8` has the name `ours`, and the rest begins with `seq`.
pub record HasHeading (family : Family) (text name rest : List ℕ) : Type 0 where
  pub first : leading_word text ≡ family_word family
  pub second : leading_word (after_word text) ≡ codes "prefix-list"
  pub named : name ≡ leading_word (after_word (after_word text))
  pub after : rest ≡ after_word (after_word (after_word text))

-- The text begins with such words. Example: `ip prefix-list ours`, `ipv6 prefix-list`; not `ip route`.
abbrev pub IsHeaded : List ℕ → Type 0
IsHeaded text = (family : Family) × (leading_word text ≡ family_word family)
    × (leading_word (after_word text) ≡ codes "prefix-list")

-- The text is `seq`, a number without leading zeros, and the rest; or it does not begin with `seq`, and is the rest.
-- Example: `seq 5 permit 10.0.0.0/8` has the number 5.
abbrev pub IsSequence : List ℕ → Option ℕ → List ℕ → Type 0
IsSequence text (Some number) rest = (leading_word text ≡ codes "seq")
    × IsDecimal Strict 10 4294967295 (leading_word (after_word text)) number × (rest ≡ after_word (after_word text))
IsSequence text None rest = (leading_word text ≢ codes "seq") × (rest ≡ text)

-- The text begins with `seq`, and no number follows it. Example: `seq x`, `seq 05`, `seq 4294967296`.
abbrev pub HasNoNumber : List ℕ → Type 0
HasNoNumber text = (leading_word text ≡ codes "seq")
    × ((number : ℕ) → ¬ (IsDecimal Strict 10 4294967295 (leading_word (after_word text)) number))

-- The text after a heading with this family and name is the rest of an entry: a sequence number or none, and a rule
-- for networks of the family. Example: `seq 5 permit 10.0.0.0/8 le 24` for IPv4; not `permit fd00::/8`.
pub record IsHeadedEntry (grammar : Grammar) (family : Family) (name numbered : List ℕ) (entry : PrefixEntry) : Type
    0 where
  pub rest : List ℕ
  pub some_name : name ≢ []
  pub of_name : entry.name ≡ Some name
  pub sequence : IsSequence numbered entry.number rest
  pub rule : IsPrefixText grammar rest entry.rule
  pub of_family : (ip_network entry.rule.network).family ≡ family

-- The line of a router. Example: `ip prefix-list ours seq 5 permit 10.0.0.0/8 le 24`.
pub record IsRouterLine (grammar : Grammar) (text : List ℕ) (entry : PrefixEntry) : Type 0 where
  pub family : Family
  pub name : List ℕ
  pub numbered : List ℕ
  pub heading : HasHeading family text name numbered
  pub follows : IsHeadedEntry grammar family name numbered entry

-- The text is only a rule, without a name and a sequence number. Example: `permit 10.0.0.0/8 le 24`.
pub record IsPlainRule (grammar : Grammar) (text : List ℕ) (entry : PrefixEntry) : Type 0 where
  pub no_name : entry.name ≡ None
  pub no_number : entry.number ≡ None
  pub rule : IsPrefixText grammar text entry.rule

-- The text is an entry of a prefix list.
abbrev pub IsPrefixEntry : Grammar → List ℕ → PrefixEntry → Type 0
IsPrefixEntry grammar text entry = IsPlainRule grammar text entry ⊎ IsRouterLine grammar text entry

-- Why a text with this heading is not an entry: no name follows; `seq` is there without a number; the network is of the
-- other family; or the rest is not a rule.
abbrev pub IsHeadedCause : Grammar → Family → (name numbered : List ℕ) → PrefixCause → Type 0
IsHeadedCause grammar family name numbered Causes.NoName = name ≡ []
IsHeadedCause grammar family name numbered Causes.NoNumber = HasNoNumber numbered
IsHeadedCause grammar family name numbered Causes.OtherFamily =
    (number : Option ℕ) × (rest : List ℕ) × (rule : PrefixRule) × IsSequence numbered number rest
    × IsPrefixText grammar rest rule × ((ip_network rule.network).family ≢ family)
IsHeadedCause grammar family name numbered cause =
    (number : Option ℕ) × (rest : List ℕ) × IsSequence numbered number rest × IsPrefixCause grammar rest cause

-- Why a text is not an entry.
-- Example: `ip prefix-list ours seq x permit 10.0.0.0/8`, because no number follows `seq`.
abbrev pub IsEntryCause : Grammar → List ℕ → PrefixCause → Type 0
IsEntryCause grammar text cause = (¬ (IsHeaded text) × IsPrefixCause grammar text cause)
    ⊎ ((family : Family) × (name : List ℕ) × (numbered : List ℕ) × HasHeading family text name numbered
    × IsHeadedCause grammar family name numbered cause)

-- Why a line of a prefix list is refused: it has a carriage return in it, or it is not an entry.
-- Example: `permit 10.0.0.0/8 # ours\rdeny ::/0`; `permit any`.
abbrev pub IsEntryLineCause : Grammar → List ℕ → PrefixCause → Type 0
IsEntryLineCause grammar = OrBroken (Causes.NoNetwork (NoEntry (Some CarriageReturn))) (IsEntryCause grammar)

-- The bytes are entries of prefix lists: each line is an entry or is refused. Blanks, comments and a byte order mark
-- are as in lists of entries.
-- Example: `ip prefix-list ours permit 10.0.0.0/8 # 2\n\nno ip prefix-list ours\n` has an entry on line 1, and line 3
-- is refused.
abbrev pub ArePrefixEntries : Grammar → List ℕ → List PrefixEntry → List (RefusalFor PrefixCause) → Type 0
ArePrefixEntries grammar = IsItemList (λ line. IsPrefixEntry grammar line.text) (IsEntryLineCause grammar)

-- The text, if there is one, is this one.
abbrev pub has_text : List ℕ → Option (List ℕ) → Bool
has_text text None = false
has_text text (Some own) = pointwise nat_eq own text

-- The entry has this name.
abbrev pub is_named : List ℕ → PrefixEntry → Bool
is_named name entry = has_text name entry.name

-- The entries have one name, or none has a name.
abbrev pub HaveOneName : List PrefixEntry → Type 0
HaveOneName entries = (a b : PrefixEntry) → Contains entries a → Contains entries b → a.name ≡ b.name

-- Each entry has a name.
abbrev pub HaveNames : List PrefixEntry → Type 0
HaveNames = All (λ e. e.name ≢ None)

-- The entries of one list. With a name: all that have it, of which there are some, and each entry has a name. Without
-- a name: all entries, which have one name or none.
-- Example: of entries with the names `a`, `b` and `a`, the first and the last for the name `a`. None are chosen if one
-- more entry has no name.
abbrev pub AreChosen : Option (List ℕ) → List PrefixEntry → List PrefixEntry → Type 0
AreChosen (Some name) entries chosen = HaveNames entries × (chosen ≡ filter (is_named name) entries) × (chosen ≢ [])
AreChosen None entries chosen = (chosen ≡ entries) × HaveOneName entries

-- The number, or 0 if there is none.
abbrev pub number_or_zero : Option ℕ → ℕ
number_or_zero None = 0
number_or_zero (Some number) = number

-- The place of an entry among entries with sequence numbers: by the number, and IPv4 before IPv6, because a router has
-- a list for each family. Example: number 5 of IPv4 comes before number 10 of IPv4, and both before number 1 of IPv6.
abbrev pub place_of : PrefixEntry → ℕ
place_of entry = family_index (ip_network entry.rule.network).family * 2 ^ 32 + number_or_zero entry.number

-- The entries in the order in which they are asked: as they are, if none has a sequence number; by their places, if
-- each has one and no two have the same.
-- Example: numbers 10 and 5 are asked as 5 and 10; numbers 5 and 5 of one family have no order.
abbrev pub AreOrdered : List PrefixEntry → List PrefixEntry → Type 0
AreOrdered chosen ordered = (All (λ e. e.number ≡ None) chosen × (ordered ≡ chosen))
    ⊎ (All (λ e. e.number ≢ None) chosen × IsPermutation chosen ordered
    × IsStrictlyIncreasing (map place_of ordered))

-- The rules of the list with this name, or of the only list, in the order in which they are asked.
pub record AreRulesOf (name : Option (List ℕ)) (entries : List PrefixEntry) (rules : List PrefixRule) : Type 0 where
  pub chosen : List PrefixEntry
  pub ordered : List PrefixEntry
  pub of_name : AreChosen name entries chosen
  pub in_order : AreOrdered chosen ordered
  pub are : rules ≡ map (λ e. e.rule) ordered

-- Two entries side by side have the same place, and this is their number.
abbrev pub AreSideBySide : List PrefixEntry → ℕ → Type 0
AreSideBySide entries number = (i : ℕ) × (a : PrefixEntry) × (i + 1 < length entries)
    × (slice_index_or entries i a ≡ a) × (a.number ≡ Some number)
    × (slice_index (map place_of entries) i ≡ slice_index (map place_of entries) (i + 1))

-- Why the entries have no order: some have a sequence number and others have none; or each has one, and in some order,
-- two side by side have the same place. Example: `permit ::/0` beside `seq 5`; `seq 5` twice for IPv4.
abbrev pub IsOrderFault : List PrefixEntry → ChoiceFault → Type 0
IsOrderFault chosen Faults.MissingName = ⊥
IsOrderFault chosen Faults.SeveralNames = ⊥
IsOrderFault chosen Faults.OtherNames = ⊥
IsOrderFault chosen Faults.SomeNumbers =
    ¬ (All (λ e. e.number ≡ None) chosen) × ¬ (All (λ e. e.number ≢ None) chosen)
IsOrderFault chosen (Faults.SameNumber number) = All (λ e. e.number ≢ None) chosen
    × ((ordered : List PrefixEntry) × IsPermutation chosen ordered × AreSideBySide ordered number)

-- Why no list is chosen: an entry has no name, and a name is given, or another entry has one. If each entry has a name:
-- without a given name, two entries have different names; or no entry has the given name.
-- Example: `permit ::/0` beside `ipv6 prefix-list a permit ::/1`, with the name `a`, `b` or none, is the first fault.
abbrev pub IsNameFault : Option (List ℕ) → List PrefixEntry → ChoiceFault → Type 0
IsNameFault name entries Faults.MissingName = ¬ (HaveNames entries) × ((name ≢ None) ⊎ ¬ (HaveOneName entries))
IsNameFault name entries Faults.SeveralNames = (name ≡ None) × HaveNames entries × ¬ (HaveOneName entries)
IsNameFault name entries Faults.OtherNames = (own : List ℕ) × (name ≡ Some own) × HaveNames entries
    × (filter (is_named own) entries ≡ [])
IsNameFault name entries Faults.SomeNumbers = ⊥
IsNameFault name entries (Faults.SameNumber number) = ⊥

-- Why the entries have no list with rules: no list is chosen, or the chosen entries have no order.
abbrev pub IsChoiceFault : Option (List ℕ) → List PrefixEntry → ChoiceFault → Type 0
IsChoiceFault name entries fault = IsNameFault name entries fault
    ⊎ ((chosen : List PrefixEntry) × AreChosen name entries chosen × IsOrderFault chosen fault)
