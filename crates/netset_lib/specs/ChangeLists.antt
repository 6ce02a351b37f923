-- Lists of changes, one change a line, and the networks that they make of the networks of a set.
use Rattle.std.specs.Prelude.{◌≡◌, ◌≢◌, ◌⊎◌, ℕ, List, [], codes, Contains, Some}
use Rattle.ipnet_base.specs.Address.{Address}
use Rattle.ipnet_base.specs.Network.{Network, InBlock}
use Rattle.ipnet_base.specs.Blocks.{IsMaximal}
use Rattle.ipnet.specs.declared.parser.Grammar.{Grammar}
use Rattle.netset_lib.specs.declared.answer.Form.{Form}
use Rattle.netset_lib.specs.declared.change_line.ChangeCause.{ChangeCause}
use Rattle.netset_lib.specs.declared.change_line.ChangeCause.TheVariants.{UnknownSign, NoNetwork, Present, Absent}
use Rattle.netset_lib.specs.Answers.{IsSetText}
use Rattle.netset_lib.specs.Changes.{ListChange, Added, Removed, changed_network}
use Rattle.netset_lib.specs.declared.network_entry.NetworkCause.TheVariants.{NoEntry}
use Rattle.ipnet_lists.specs.declared.cause.Cause.TheVariants.{CarriageReturn}
use Rattle.ipnet_lists.specs.ContentLines.{IsItemList, OrBroken}
use Rattle.ipnet_lists.specs.Lists.{RefusalFor}
use Rattle.netset_lib.specs.NetworkEntries.{IsNetworkWord, IsNoNetworkWord, IsNetworkCause}
use Rattle.ipnet_lists.specs.Words.{leading_word, after_word}

-- The sign of a change at the start of its line: `+` adds a network, `-` removes one.
abbrev pub sign_of : ListChange → List ℕ
sign_of (Added n) = codes "+"
sign_of (Removed n) = codes "-"

-- The text begins with a sign, and a blank or nothing follows it.
abbrev pub HasSign : List ℕ → Type 0
HasSign text = (change : ListChange) × (leading_word text ≡ sign_of change)

-- The text is a change: its sign, blanks, and a network or an address.
-- Example: `+ 10.0.0.0/9` adds 10.0.0.0/9, and `- 10.0.0.1` removes 10.0.0.1/32.
pub record IsChangeText (grammar : Grammar) (text : List ℕ) (change : ListChange) : Type 0 where
  pub sign : leading_word text ≡ sign_of change
  pub network : IsNetworkWord grammar (after_word text) (changed_network change)

-- The network is one of the fewest networks of the set: one line of the answer that is the set.
-- Example: for 10.0.0.0 to 10.0.0.2, the networks 10.0.0.0/31 and 10.0.0.2/32.
abbrev pub IsAnswerNetwork : (Address → Type 0) → Network → Type 0
IsAnswerNetwork InSet = IsMaximal InSet 0

-- The networks can be changed so: an added network is not among them, and a removed one is.
abbrev pub Fits : (Network → Type 0) → ListChange → Type 0
Fits Has (Added n) = ¬ (Has n)
Fits Has (Removed n) = Has n

-- The text is a change, and the networks can be changed so.
abbrev pub IsFittingChange : Grammar → (Network → Type 0) → List ℕ → ListChange → Type 0
IsFittingChange grammar Has text change = IsChangeText grammar text change × Fits Has change

-- Why the networks cannot be changed by a text: its first word is not a sign; what follows is not a network; it adds a
-- network that is among them; it removes a network that is not.
-- Example: for the networks 10.0.0.0/8, `10.0.0.0/9`; `+ 10.0.0.0/33`; `+ 10.0.0.0/8`; `- 10.0.0.0/9`.
abbrev pub IsChangeCause : Grammar → (Network → Type 0) → List ℕ → ChangeCause → Type 0
IsChangeCause grammar Has text UnknownSign = ¬ (HasSign text)
IsChangeCause grammar Has text (NoNetwork cause) = HasSign text × IsNoNetworkWord grammar (after_word text)
    × IsNetworkCause grammar (after_word text) cause
IsChangeCause grammar Has text Present = (n : Network) × IsChangeText grammar text (Added n) × Has n
IsChangeCause grammar Has text Absent = (n : Network) × IsChangeText grammar text (Removed n) × ¬ (Has n)

-- Why a line of a list of changes is refused: it has a carriage return in it, or the networks cannot be changed by it.
-- Example: for the networks 10.0.0.0/8, `- 10.0.0.0/8 # ours\r+ ::1`; `+ 10.0.0.0/8`.
abbrev pub IsChangeLineCause : Grammar → (Network → Type 0) → List ℕ → ChangeCause → Type 0
IsChangeLineCause grammar Has = OrBroken (NoNetwork (NoEntry (Some CarriageReturn))) (IsChangeCause grammar Has)

-- The bytes are a list of changes of these networks: each line is a change that fits, or is refused. Blanks, comments
-- and a byte order mark are as in lists of entries. The order of the lines does not matter, nor does a repeated line.
-- Example: for the networks 10.0.0.0/8, `- 10.0.0.0/8\n+ 10.0.0.0/9 # half\n- ::1\n` has two changes, and line 3 is
-- refused.
abbrev pub IsChangeList : Grammar → (Network → Type 0) → List ℕ → List ListChange → List (RefusalFor ChangeCause)
    → Type 0
IsChangeList grammar Has = IsItemList (λ line. IsFittingChange grammar Has line.text)
    (IsChangeLineCause grammar Has)

-- The networks after the changes: those that no change removes, and those that are added.
abbrev pub IsKeptOrAdded : (Network → Type 0) → List ListChange → Network → Type 0
IsKeptOrAdded Has changes n = (Has n × ¬ (Contains changes (Removed n))) ⊎ Contains changes (Added n)

-- The address lies in one of the networks after the changes.
-- Example: 10.0.0.1 and ::1 for the networks 10.0.0.0/8, with 10.0.0.0/8 removed and 10.0.0.0/9 and ::1/128 added.
abbrev pub IsInChanged : (Network → Type 0) → List ListChange → Address → Type 0
IsInChanged Has changes x = (n : Network) × IsKeptOrAdded Has changes n × InBlock n x

-- No change of the set's networks is refused, and the text has the addresses of the networks after the changes.
-- Example: `10.0.0.0/9` for the set 10.0.0.0/8 and the changes `- 10.0.0.0/8`, `+ 10.0.0.0/9`.
pub record IsChangedText (form : Form) (grammar : Grammar) (InSet : Address → Type 0) (bytes text : List ℕ) : Type
    0 where
  pub changes : List ListChange
  pub read : IsChangeList grammar (IsAnswerNetwork InSet) bytes changes []
  pub right : IsSetText form (IsInChanged (IsAnswerNetwork InSet) changes) text

-- Some changes of the set's networks are refused, and these are all of them.
pub record HasRefusedChanges (grammar : Grammar) (InSet : Address → Type 0) (bytes : List ℕ)
    (refused : List (RefusalFor ChangeCause)) : Type 0 where
  pub changes : List ListChange
  pub read : IsChangeList grammar (IsAnswerNetwork InSet) bytes changes refused
  pub some : refused ≢ []
