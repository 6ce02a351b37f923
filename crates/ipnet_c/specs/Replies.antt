-- The result of each C function: its status, and what it leaves in the caller's memory. `old` and `new` are a buffer
-- before and after the call; `count_old` and `count` are a number that the call may write.
use Rattle.std.specs.Prelude.{◌≡◌, ◌≢◌, ℕ, ◌↔◌, ◌⊎◌, List, [], All, IsUtf8}
use Rattle.ipnet.specs.Address.{Address}
use Rattle.ipnet.specs.Network.{Network, IsNetwork, InBlock}
use Rattle.ipnet.specs.Blocks.{IsCoveredBy, HaveSameCover, AreMaximalBlocks}
use Rattle.ipnet.specs.Bytes.{tagged_network_bytes, HasWrongTaggedLen, HasUnknownVariant, HasLongTaggedPrefix}
use Rattle.ipnet.specs.CanonicalTexts.{canonical_text}
use Rattle.ipnet.specs.declared.parser.Grammar.{Grammar}
use Rattle.ipnet.specs.declared.parser.Grammar.TheVariants.{Strict}
use Rattle.ipnet.specs.Lines.{lines_of, AreNetworksOf, IsGoodLine, IsFirstBadLine}
use Rattle.ipnet.specs.NetworkTexts.{IsNetworkText, WritesNone}
use Rattle.ipnet_text.specs.LineTexts.{text_of_lines}
use Rattle.ipnet_text.specs.BadLines.{StartsWithBadLine}
use Rattle.ipnet_tool.specs.Answers.{IsAnswerTo}
use Rattle.ipnet_c.specs.Statuses as statuses
use Rattle.ipnet_c.specs.Buffers.{IsWritten, IsTooLong}
use Rattle.ipnet_sets.specs.Members.{IsCombined}
use Rattle.ipnet_sets.specs.declared.operation.Operation.{Operation}

-- ---- lists

-- Aggregating a text: `count` is the length of the answer, or the number of the first bad line.
-- Example: `"10.0.1.0/24\n\n10.0.0.0/24"` with a buffer of 12 bytes or more gives `ok`, `"10.0.0.0/23\n"` and 12, and
-- with a smaller buffer `buffer_too_short` and 12; `"10.0.0.0/24\n\nx\n"` gives `bad_line` and 3. Each may be
-- `out_of_memory`.
pub record IsAggregateReply (grammar : Grammar) (text old new : List ℕ) (count_old count status : ℕ) : Type 0 where
  pub known : (status ≡ statuses.ok) ⊎ ((status ≡ statuses.buffer_too_short) ⊎ ((status ≡ statuses.bad_line)
      ⊎ ((status ≡ statuses.not_utf8) ⊎ (status ≡ statuses.out_of_memory))))
  -- The whole answer of the text tool.
  pub ok : status ≡ statuses.ok → (answer : List ℕ) × IsAnswerTo grammar text answer × IsWritten answer old new count
  pub too_short : status ≡ statuses.buffer_too_short
      → (answer : List ℕ) × IsAnswerTo grammar text answer × IsTooLong answer old new count
  pub bad_line : status ≡ statuses.bad_line → IsFirstBadLine grammar (lines_of text) count
  pub not_utf8 : (status ≡ statuses.not_utf8) ↔ ¬ (IsUtf8 text)
  -- The buffer is unchanged unless the status is `ok`, and the count unless there is one to report.
  pub buffer_kept : status ≢ statuses.ok → new ≡ old
  pub count_kept : (status ≡ statuses.not_utf8) ⊎ (status ≡ statuses.out_of_memory) → count ≡ count_old
  -- Two cases need no memory: all lines are empty; or the first line that is not empty is bad.
  pub empty : All (λ line. line ≡ []) (lines_of text) → status ≢ statuses.out_of_memory
  pub bad_at_once : (number : ℕ) → IsUtf8 text → StartsWithBadLine grammar (lines_of text) number
      → status ≡ statuses.bad_line

-- 1 if the property is true, and 0 if it is false.
abbrev pub IsYesExactlyAt : Type 0 → ℕ → Type 0
IsYesExactlyAt P answer = ((answer ≡ 1) × P) ⊎ ((answer ≡ 0) × ¬ P)

-- Comparing the addresses of two texts: `same` is 1 or 0.
-- Example: `"10.0.0.0/25\n10.0.0.128/25"` and `"10.0.0.7/24"` give 1; `"10.0.0.0/25"` and `"10.0.0.0/24"` give 0.
pub record IsSameAddressesReply (text other : List ℕ) (same_old same line_old line status : ℕ) : Type 0 where
  pub known : (status ≡ statuses.ok) ⊎ ((status ≡ statuses.bad_line) ⊎ ((status ≡ statuses.bad_line_in_other)
      ⊎ ((status ≡ statuses.not_utf8) ⊎ ((status ≡ statuses.other_not_utf8) ⊎ (status ≡ statuses.out_of_memory)))))
  pub ok : status ≡ statuses.ok → (networks others : List Network) × AreNetworksOf Strict (lines_of text) networks
      × AreNetworksOf Strict (lines_of other) others × IsYesExactlyAt (HaveSameCover networks others) same
  pub bad_line : status ≡ statuses.bad_line → IsFirstBadLine Strict (lines_of text) line
  -- A bad line of the second text is reported only if the first text has none.
  pub bad_line_in_other : status ≡ statuses.bad_line_in_other
      → IsFirstBadLine Strict (lines_of other) line × All (IsGoodLine Strict) (lines_of text)
  pub not_utf8 : (status ≡ statuses.not_utf8) ↔ ¬ (IsUtf8 text)
  pub other_not_utf8 : (status ≡ statuses.other_not_utf8) ↔ (IsUtf8 text × ¬ (IsUtf8 other))
  pub same_kept : status ≢ statuses.ok → same ≡ same_old
  pub line_kept : status ≢ statuses.bad_line → status ≢ statuses.bad_line_in_other → line ≡ line_old
  -- Three cases need no memory: all lines of both texts are empty; the first line of the first text that is not empty
  -- is bad; or all lines of the first text are empty, and the first line of the second that is not empty is bad.
  pub empty : All (λ line. line ≡ []) (lines_of text) → All (λ line. line ≡ []) (lines_of other)
      → status ≡ statuses.ok
  pub bad_at_once : (number : ℕ) → IsUtf8 text → IsUtf8 other → StartsWithBadLine Strict (lines_of text) number
      → status ≡ statuses.bad_line
  pub bad_at_once_in_other : (number : ℕ) → All (λ line. line ≡ []) (lines_of text) → IsUtf8 other
      → StartsWithBadLine Strict (lines_of other) number → status ≡ statuses.bad_line_in_other

-- ---- sets made of two lists

-- The maximal blocks of the result of the operation on the addresses of the two lists.
abbrev pub AreBlocksOfBoth : Operation → List Network → List Network → List Network → Type 0
AreBlocksOfBoth operation networks others =
    AreMaximalBlocks (λ x. IsCombined operation (IsCoveredBy networks x) (IsCoveredBy others x)) 0

-- The lines of both texts are networks or empty, and the answer is the text of the operation's result.
-- Example: for `"10.0.0.0/24"` and `"10.0.0.128/25\n10.0.1.0/25"`, `"10.0.0.0/24\n10.0.1.0/25\n"` for the union,
-- `"10.0.0.128/25\n"` for the intersection, and `"10.0.0.0/25\n"` for the difference.
pub record IsSetText (operation : Operation) (text other answer : List ℕ) : Type 0 where
  pub networks : List Network
  pub others : List Network
  pub written : AreNetworksOf Strict (lines_of text) networks
  pub written_other : AreNetworksOf Strict (lines_of other) others
  pub blocks : List Network
  pub combined : AreBlocksOfBoth operation networks others blocks
  pub spelled : answer ≡ text_of_lines blocks

-- An operation on two texts: `count` is the length of the answer, or the number of the first bad line.
pub record IsSetReply (operation : Operation) (text other old new : List ℕ) (count_old count status : ℕ) : Type 0 where
  pub known : (status ≡ statuses.ok) ⊎ ((status ≡ statuses.buffer_too_short) ⊎ ((status ≡ statuses.bad_line)
      ⊎ ((status ≡ statuses.bad_line_in_other) ⊎ ((status ≡ statuses.not_utf8)
      ⊎ ((status ≡ statuses.other_not_utf8) ⊎ (status ≡ statuses.out_of_memory))))))
  pub ok : status ≡ statuses.ok
      → (answer : List ℕ) × IsSetText operation text other answer × IsWritten answer old new count
  pub too_short : status ≡ statuses.buffer_too_short
      → (answer : List ℕ) × IsSetText operation text other answer × IsTooLong answer old new count
  pub bad_line : status ≡ statuses.bad_line → IsFirstBadLine Strict (lines_of text) count
  pub bad_line_in_other : status ≡ statuses.bad_line_in_other
      → IsFirstBadLine Strict (lines_of other) count × All (IsGoodLine Strict) (lines_of text)
  pub not_utf8 : (status ≡ statuses.not_utf8) ↔ ¬ (IsUtf8 text)
  pub other_not_utf8 : (status ≡ statuses.other_not_utf8) ↔ (IsUtf8 text × ¬ (IsUtf8 other))
  pub buffer_kept : status ≢ statuses.ok → new ≡ old
  pub count_kept : (status ≡ statuses.not_utf8) ⊎ ((status ≡ statuses.other_not_utf8)
      ⊎ (status ≡ statuses.out_of_memory)) → count ≡ count_old
  -- Three cases need no memory: all lines of both texts are empty; the first line of the first text that is not empty
  -- is bad; or all lines of the first text are empty, and the first line of the second that is not empty is bad.
  pub empty : All (λ line. line ≡ []) (lines_of text) → All (λ line. line ≡ []) (lines_of other)
      → status ≢ statuses.out_of_memory
  pub bad_at_once : (number : ℕ) → IsUtf8 text → IsUtf8 other → StartsWithBadLine Strict (lines_of text) number
      → status ≡ statuses.bad_line
  pub bad_at_once_in_other : (number : ℕ) → All (λ line. line ≡ []) (lines_of text) → IsUtf8 other
      → StartsWithBadLine Strict (lines_of other) number → status ≡ statuses.bad_line_in_other

-- ---- lists asked for a network

-- The bytes are the tagged compact form of this network. Example: 0, 10, 1, 1, 0, 24 for 10.1.1.0/24.
pub record AreBytesOf (bytes : List ℕ) (n : Network) : Type 0 where
  pub network : IsNetwork n
  pub bytes_are : bytes ≡ tagged_network_bytes n

-- Every address of the network's block is covered.
abbrev pub IsBlockCoveredBy : List Network → Network → Type 0
IsBlockCoveredBy networks n = (x : Address) → InBlock n x → IsCoveredBy networks x

-- Whether a text covers a network, given as bytes: `covered` is 1 or 0.
-- Example: `"10.0.0.0/25\n10.0.0.128/25"` covers 0, 10, 0, 0, 0, 24; the reply is 1. With 23 as the last byte it is 0.
pub record IsCoveredReply (text bytes : List ℕ) (covered_old covered line_old line status : ℕ) : Type 0 where
  pub known : (status ≡ statuses.ok) ⊎ ((status ≡ statuses.bad_line) ⊎ ((status ≡ statuses.not_utf8)
      ⊎ ((status ≡ statuses.wrong_length) ⊎ ((status ≡ statuses.unknown_family)
      ⊎ ((status ≡ statuses.prefix_too_long) ⊎ (status ≡ statuses.out_of_memory))))))
  pub ok : status ≡ statuses.ok → (networks : List Network) × (n : Network)
      × AreNetworksOf Strict (lines_of text) networks × AreBytesOf bytes n
      × IsYesExactlyAt (IsBlockCoveredBy networks n) covered
  pub bad_line : status ≡ statuses.bad_line → IsFirstBadLine Strict (lines_of text) line
  -- The bytes are checked before the text.
  pub not_utf8 : (status ≡ statuses.not_utf8) ↔ (((n : Network) × AreBytesOf bytes n) × ¬ (IsUtf8 text))
  pub wrong_length : (status ≡ statuses.wrong_length) ↔ HasWrongTaggedLen bytes
  pub unknown_family : (status ≡ statuses.unknown_family) ↔ HasUnknownVariant bytes
  pub prefix_too_long : (status ≡ statuses.prefix_too_long) ↔ HasLongTaggedPrefix bytes
  pub covered_kept : status ≢ statuses.ok → covered ≡ covered_old
  pub line_kept : status ≢ statuses.bad_line → line ≡ line_old
  -- Two cases need no memory: all lines are empty; or the first line that is not empty is bad.
  pub empty : All (λ line. line ≡ []) (lines_of text) → status ≢ statuses.out_of_memory
  pub bad_at_once : (number : ℕ) (n : Network) → AreBytesOf bytes n → IsUtf8 text
      → StartsWithBadLine Strict (lines_of text) number → status ≡ statuses.bad_line

-- ---- single networks

-- Parsing a network into bytes: `count` is the number of bytes.
-- Example: `"10.1.1.0/24"` gives 0, 10, 1, 1, 0, 24; `"10.1.1.0"` gives `not_a_network`.
pub record IsParseReply (grammar : Grammar) (text old new : List ℕ) (count_old count status : ℕ) : Type 0 where
  pub known : (status ≡ statuses.ok) ⊎ ((status ≡ statuses.buffer_too_short) ⊎ ((status ≡ statuses.not_a_network)
      ⊎ (status ≡ statuses.not_utf8)))
  pub ok : status ≡ statuses.ok
      → (n : Network) × IsNetworkText grammar text n × IsWritten (tagged_network_bytes n) old new count
  pub too_short : status ≡ statuses.buffer_too_short
      → (n : Network) × IsNetworkText grammar text n × IsTooLong (tagged_network_bytes n) old new count
  pub not_a_network : (status ≡ statuses.not_a_network) ↔ (IsUtf8 text × WritesNone (IsNetworkText grammar) text)
  pub not_utf8 : (status ≡ statuses.not_utf8) ↔ ¬ (IsUtf8 text)
  pub buffer_kept : status ≢ statuses.ok → new ≡ old
  pub count_kept : (status ≡ statuses.not_utf8) ⊎ (status ≡ statuses.not_a_network) → count ≡ count_old

-- Printing bytes as the canonical text of a network: `count` is the length of the text.
-- Example: 0, 10, 1, 1, 0, 24 gives `"10.1.1.0/24"`; the byte 2 gives `unknown_family`.
pub record IsPrintReply (bytes old new : List ℕ) (count_old count status : ℕ) : Type 0 where
  pub known : (status ≡ statuses.ok) ⊎ ((status ≡ statuses.buffer_too_short) ⊎ ((status ≡ statuses.wrong_length)
      ⊎ ((status ≡ statuses.unknown_family) ⊎ (status ≡ statuses.prefix_too_long))))
  pub ok : status ≡ statuses.ok → (n : Network) × AreBytesOf bytes n × IsWritten (canonical_text n) old new count
  pub too_short : status ≡ statuses.buffer_too_short
      → (n : Network) × AreBytesOf bytes n × IsTooLong (canonical_text n) old new count
  pub wrong_length : (status ≡ statuses.wrong_length) ↔ HasWrongTaggedLen bytes
  pub unknown_family : (status ≡ statuses.unknown_family) ↔ HasUnknownVariant bytes
  pub prefix_too_long : (status ≡ statuses.prefix_too_long) ↔ HasLongTaggedPrefix bytes
  pub buffer_kept : status ≢ statuses.ok → new ≡ old
  pub count_kept : status ≢ statuses.ok → status ≢ statuses.buffer_too_short → count ≡ count_old
