-- Replies to lists of networks.
use Rattle.std.proofs.Common.{◌≡◌, ℕ, ◌⊎◌, ◌↔◌, List, [], ◌∷◌, Result, Ok, Err, String, Global, string_bytes}
use Rattle.std.proofs.Common.{inl, inr, refl, subst, IsUtf8, Bool, true, false, IsTrue, All, ◌==◌, if◌then◌else◌, arith}
use Rattle.std.proofs.Common.{eqb-true}
use Rattle.std.proofs.lemmas.List.Elements.{All-head, All-tail}
use Rattle.std.proofs.lemmas.Str.{IsUtf8-from_ascii}
use Rattle.std.proofs.lemmas.Str.Ascii.{IsAscii-nil, IsAscii-cons}
use Rattle.std.specs.Int.{from_bool}
use Rattle.std.specs.Str.{IsAscii}
use Rattle.ipnet.specs.Network.{Network}
use Rattle.ipnet.specs.Blocks.{HaveSameCover}
use Rattle.ipnet.specs.Bytes.{HasWrongTaggedLen, HasUnknownVariant, HasLongTaggedPrefix}
use Rattle.ipnet.specs.NetworkOf.{ip_network}
use Rattle.ipnet.specs.Lines.{lines_of, onto_first_line, AreNetworksOf}
use Rattle.ipnet.specs.declared.compact.CompactError.{CompactError}
use Rattle.ipnet.specs.declared.compact.CompactError.TheVariants.{Length, Variant, Prefix}
use Rattle.ipnet.specs.declared.net.IpNet.{IpNet}
use Rattle.ipnet.specs.declared.parser.Grammar.{Grammar}
use Rattle.ipnet.specs.declared.parser.Grammar.TheVariants.{Strict}
use Rattle.ipnet.proofs.LineLaws.{none_bad}
use Rattle.ipnet_tool.specs.Answers.{IsTextAnswer}
use Rattle.ipnet_text.specs.BadLines.{StartsWithBadLine}
use Rattle.ipnet_text.specs.declared.networks.ToolError.TheVariants as ToolErrors
use Rattle.ipnet_c.specs.Buffers.{IsWritten, IsTooLong}
use Rattle.ipnet_c.specs.Replies.{IsAggregateReply, IsSameAddressesReply, IsCoveredReply, AreBytesOf, IsBlockCoveredBy}
use Rattle.ipnet_c.specs.BadTexts.{IsBadText, AreBadTexts}
use Rattle.ipnet_c.proofs.StatusLaws.{differ, not_other, none_of, no_answer, yes_exactly}

-- no line is bad before memory is needed
abbrev pub IsGoodAtOnce : Grammar → List ℕ → Type 0
IsGoodAtOnce grammar text = (number : ℕ) → ¬ (StartsWithBadLine grammar (lines_of text) number)

pub good_at_once : (grammar : Grammar) (text : List ℕ) (networks : List Network)
    → AreNetworksOf grammar (lines_of text) networks → IsGoodAtOnce grammar text
good_at_once grammar text networks written number h = none_bad grammar (lines_of text) networks number written h.first

-- all lines of the text are empty
abbrev pub IsBlank : List ℕ → Type 0
IsBlank text = All (λ line. line ≡ []) (lines_of text)

-- a text with only empty lines is ASCII, and so UTF-8
not_blank : (b : ℕ) (lines : List (List ℕ)) → ¬ (All (λ line. line ≡ []) (onto_first_line b lines))
not_blank b [] h =
    let none : b ∷ [] ≡ [] = All-head (λ line. line ≡ []) (b ∷ []) [] h in
    absurd cc
not_blank b (line ∷ lines) h =
    let none : b ∷ line ≡ [] = All-head (λ line. line ≡ []) (b ∷ line) lines h in
    absurd cc

ascii_first : (b : ℕ) (text : List ℕ) (ends : Bool) → (b == 10) ≡ ends → (IsBlank text → IsAscii text)
    → All (λ line. line ≡ []) (if ends then [] ∷ lines_of text else onto_first_line b (lines_of text))
    → IsAscii (b ∷ text)
ascii_first b text true is later h =
    IsAscii-cons b text (omega (arith, eqb-true b 10 is))
    (later (All-tail (λ line. line ≡ []) [] (lines_of text) h))
ascii_first b text false is later h = absurd (not_blank b (lines_of text) h)

blank_is_ascii : (text : List ℕ) → IsBlank text → IsAscii text
blank_is_ascii [] h = IsAscii-nil
blank_is_ascii (b ∷ text) h = ascii_first b text (b == 10) refl (λ rest. blank_is_ascii text rest) h

pub blank_is_utf8 : (text : List ℕ) → IsBlank text → IsUtf8 text
blank_is_utf8 text h = IsUtf8-from_ascii text (blank_is_ascii text h)

-- ---- a list aggregated

-- the tool's result is written if the buffer is long enough
pub aggregated : (grammar : Grammar) (text bytes old new : List ℕ) (count_old count status : ℕ) (answer : String Global)
    → IsUtf8 text → IsTextAnswer grammar text (Ok answer) → bytes ≡ string_bytes answer
    → (status ≡ 0) ⊎ (status ≡ 4)
    → (status ≡ 0 → IsWritten bytes old new count) → (status ≡ 4 → IsTooLong bytes old new count)
    → IsAggregateReply grammar text old new count_old count status
aggregated grammar text bytes old new count_old count status answer utf8 shown bytes_are known ok short = record {
  known = elim known [ inl e ↦ inl e | inr e ↦ inr (inl e) ];
  ok = λ e. (string_bytes answer, shown.answer, subst (λ b. IsWritten b old new count) bytes_are (ok e));
  too_short = λ e. (string_bytes answer, shown.answer, subst (λ b. IsTooLong b old new count) bytes_are (short e));
  bad_line = λ e. absurd (not_other status 1 known refl refl e);
  not_utf8 = (λ e. absurd (not_other status 2 known refl refl e), λ invalid. absurd (invalid utf8));
  buffer_kept = λ not_ok. elim known [ inl e ↦ absurd (not_ok e) | inr e ↦ (short e).kept ];
  count_kept = λ e. elim e [
    | inl e ↦ absurd (not_other status 2 known refl refl e)
    | inr e ↦ absurd (not_other status 3 known refl refl e)
  ];
  empty = λ none e. not_other status 3 known refl refl e;
  bad_at_once = λ number u h. let clash = shown.bad_at_once number h in absurd cc;
}

-- memory ran out in the tool
pub not_aggregated : (grammar : Grammar) (text buffer : List ℕ) (count : ℕ) → IsUtf8 text
    → IsTextAnswer grammar text (Err ToolErrors.Memory) → IsAggregateReply grammar text buffer buffer count count 3
not_aggregated grammar text buffer count utf8 shown = record {
  known = inr (inr (inr (inr refl)));
  ok = λ e. absurd (differ 3 0 refl e);
  too_short = λ e. absurd (differ 3 4 refl e);
  bad_line = λ e. absurd (differ 3 1 refl e);
  not_utf8 = (λ e. absurd (differ 3 2 refl e), λ invalid. absurd (invalid utf8));
  buffer_kept = λ e. refl;
  count_kept = λ e. refl;
  empty = λ none e. shown.empty none;
  bad_at_once = λ number u h. let clash = shown.bad_at_once number h in absurd cc;
}

-- ---- two lists compared

pub compared : (text other : List ℕ) (same_old same line : ℕ) (networks others : List Network) (answer : Bool)
    → IsUtf8 text → IsUtf8 other → AreNetworksOf Strict (lines_of text) networks
    → AreNetworksOf Strict (lines_of other) others → IsTrue answer ↔ HaveSameCover networks others
    → same ≡ from_bool answer → IsSameAddressesReply text other same_old same line line 0
compared text other same_old same line networks others answer utf8 utf8_other written written_other h shown = record {
  known = inl refl;
  ok = λ e. (networks, others, written, written_other, yes_exactly (HaveSameCover networks others) answer same h shown);
  bad_line = λ e. absurd (differ 0 1 refl e);
  bad_line_in_other = λ e. absurd (differ 0 9 refl e);
  not_utf8 = (λ e. absurd (differ 0 2 refl e), λ invalid. absurd (invalid utf8));
  other_not_utf8 = (λ e. absurd (differ 0 10 refl e), λ invalid. absurd (invalid.1 utf8_other));
  same_kept = λ not_ok. absurd (not_ok refl);
  line_kept = λ a b. refl;
  empty = λ a b. refl;
  bad_at_once = λ number a b h. absurd (good_at_once Strict text networks written number h);
  bad_at_once_in_other = λ number none b h. absurd (good_at_once Strict other others written_other number h);
}

pub not_read : (text other : List ℕ) (same line_old line status : ℕ) → AreBadTexts text other line_old line status
    → IsSameAddressesReply text other same same line_old line status
not_read text other same line_old line status h = record {
  known = inr h.known;
  ok = λ e. absurd ((no_answer status h.known).0 e);
  bad_line = h.bad_line;
  bad_line_in_other = h.bad_line_in_other;
  not_utf8 = h.not_utf8;
  other_not_utf8 = h.other_not_utf8;
  same_kept = λ e. refl;
  line_kept = h.line_kept;
  empty = λ none none_other. absurd (h.some none none_other);
  bad_at_once = h.bad_at_once;
  bad_at_once_in_other = h.bad_at_once_in_other;
}

-- ---- a list asked for a network

-- the errors of reading bytes
pub record TellsFaults (bytes : List ℕ) (result : Result IpNet CompactError) : Type 0 where
  pub length : (result ≡ Err Length) ↔ HasWrongTaggedLen bytes
  pub variant : (result ≡ Err Variant) ↔ HasUnknownVariant bytes
  pub prefix : (result ≡ Err Prefix) ↔ HasLongTaggedPrefix bytes

pub shows_whether_covered : (text bytes : List ℕ) (covered_old covered line : ℕ) (networks : List Network) (net : IpNet)
    (answer : Bool) → TellsFaults bytes (Ok net) → AreBytesOf bytes (ip_network net) → IsUtf8 text
    → AreNetworksOf Strict (lines_of text) networks → IsTrue answer ↔ IsBlockCoveredBy networks (ip_network net)
    → covered ≡ from_bool answer → IsCoveredReply text bytes covered_old covered line line 0
shows_whether_covered text bytes covered_old covered line networks net answer faults is utf8 written h shown = record {
  known = inl refl;
  ok = λ e. (
    networks,
    ip_network net,
    written,
    is,
    yes_exactly (IsBlockCoveredBy networks (ip_network net)) answer covered h shown,
  );
  bad_line = λ e. absurd (differ 0 1 refl e);
  not_utf8 = (λ e. absurd (differ 0 2 refl e), λ invalid. absurd (invalid.1 utf8));
  wrong_length = (λ e. absurd (differ 0 6 refl e), λ wrong. let clash = faults.length.1 wrong in absurd cc);
  unknown_family = (λ e. absurd (differ 0 7 refl e), λ wrong. let clash = faults.variant.1 wrong in absurd cc);
  prefix_too_long = (λ e. absurd (differ 0 8 refl e), λ wrong. let clash = faults.prefix.1 wrong in absurd cc);
  covered_kept = λ not_ok. absurd (not_ok refl);
  line_kept = λ e. refl;
  empty = λ none e. differ 0 3 refl e;
  bad_at_once = λ number n a b first. absurd (good_at_once Strict text networks written number first);
}

pub shows_no_list : (text bytes : List ℕ) (covered line_old line status : ℕ) (net : IpNet) → TellsFaults bytes (Ok net)
    → AreBytesOf bytes (ip_network net) → IsBadText Strict text line_old line status
    → IsCoveredReply text bytes covered covered line_old line status
shows_no_list text bytes covered line_old line status net faults is h = record {
  known = elim h.known [
    | inl e ↦ inr (inl e)
    | inr e ↦ elim e [ inl e ↦ inr (inr (inl e)) | inr e ↦ inr (inr (inr (inr (inr (inr e))))) ]
  ];
  ok = λ e. absurd (none_of status 0 h.known refl refl refl e);
  bad_line = h.bad_line;
  not_utf8 = (λ e. ((ip_network net, is), h.not_utf8.0 e), λ invalid. h.not_utf8.1 invalid.1);
  wrong_length = (
    λ e. absurd (none_of status 6 h.known refl refl refl e),
    λ wrong. let clash = faults.length.1 wrong in absurd cc,
  );
  unknown_family = (
    λ e. absurd (none_of status 7 h.known refl refl refl e),
    λ wrong. let clash = faults.variant.1 wrong in absurd cc,
  );
  prefix_too_long = (
    λ e. absurd (none_of status 8 h.known refl refl refl e),
    λ wrong. let clash = faults.prefix.1 wrong in absurd cc,
  );
  covered_kept = λ e. refl;
  line_kept = h.line_kept;
  empty = λ none. absurd (h.some none);
  bad_at_once = λ number n a utf8 at. h.bad_at_once number utf8 at;
}
