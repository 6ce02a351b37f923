-- The answers of a filter or a route that are written while the second list is read.
use Rattle.std.specs.Prelude.{◌≡◌, Bool, ℕ, List, [], ◌∷◌, ◌++◌, length, Option, IfSome}
use Rattle.std.specs.Io.KnownBytes.{Appends, Keeps}
use Rattle.ipnet.specs.declared.parser.Grammar.{Grammar}
use Rattle.ipnet.specs.Lines.{lines_of}
use Rattle.ipnet_text.specs.Inputs.{GaveWhole}
use Rattle.ipnet_text.specs.Outputs.{IsFrontWritten}
use Rattle.netset_lib.specs.declared.answerer.Answerer.{Answerer}
use Rattle.netset_lib.specs.declared.query.Query.{Query}
use Rattle.netset_lib.specs.declared.stream.Stream.{Stream}
use Rattle.netset_lib.specs.declared.stream.StreamFailure.{StreamFailure}
use Rattle.netset_lib.specs.declared.stream.StreamFailure.TheVariants as StreamFailures
use Rattle.netset_lib.specs.declared.stream.Streamed.{Streamed}
use Rattle.netset_lib.specs.Answering.{IsAnswererFor, IsAnswerBy, IsFoundBy}
use Rattle.netset_lib.specs.Answers.{AreListsRead, HasRefused}
use Rattle.netset_lib.specs.EntryAnswers.{AreAnswers, IsFoundIn}
use Rattle.ipnet_lists.specs.Lists.{ListEntry, Refusal, AreContents, AreRead, after_mark}
use Rattle.netset_lib.specs.Replies.{AreReplies, IsFoundFor, found_for}
use Rattle.netset_lib.specs.SetReaders.{WereRead}

-- The stream has read one list, of which its answerer was made for the query.
pub record WasAsked (query : Query) (grammar : Grammar) (lists : List (List ℕ)) (stream : Stream) : Type 0 where
  pub first : List ListEntry
  pub read : WereRead grammar lists (first ∷ []) stream.lists
  pub for : IsAnswererFor query stream.answerer first

-- After the first list the reader gave the bytes of the second one, up to their end. Exactly the answers to the entries
-- of the second list were written, in order. Refused lines are left out and counted; the first list has none.
-- Example: a filter with `10.0.0.0/8` first, and then `10.0.0.1`, `x`, `::1`, writes `10.0.0.1`; one line is refused,
-- and the filter succeeded.
pub record IsStreamed (query : Query) (grammar : Grammar) (lists : List (List ℕ)) (left left_after : Option (List ℕ))
    (held held_after : Option (List ℕ)) (streamed : Streamed) : Type 0 where
  pub bytes : List ℕ
  pub given : GaveWhole left left_after bytes
  pub first : List ListEntry
  pub first_read : AreListsRead grammar 0 lists (first ∷ []) []
  pub entries : List ListEntry
  pub refusals : List Refusal
  pub read : AreListsRead grammar 0 (lists ++ bytes ∷ []) (first ∷ entries ∷ []) refusals
  pub text : List ℕ
  pub right : AreReplies query first entries text
  pub written : Appends held held_after text
  pub count : streamed.refused ≡ length refusals
  pub is_found : IsFoundIn (IsFoundFor query first) (found_for query streamed.succeeded) entries

-- The first lines of a list have these entries and refused lines. `left` has the bytes of the list.
-- Example: `10.0.0.1` is the entry of the first line of `10.0.0.1\n::1\n`.
pub record IsFrontRead (grammar : Grammar) (list : ℕ) (left : Option (List ℕ)) (entries : List ListEntry)
    (refusals : List Refusal) : Type 0 where
  pub lines : List (List ℕ)
  pub others : List (List ℕ)
  pub front : IfSome left (λ bytes. lines_of (after_mark bytes) ≡ lines ++ others)
  pub texts : List (List ℕ)
  pub contents : AreContents lines texts
  pub read : AreRead grammar list 1 texts entries refusals

-- The reader had the bytes `left` of the second list. A first part of the answers to the entries of its first lines was
-- written; the first list has no refused line.
-- Example: the reader of `10.0.0.1`, `::1`, `10.0.0.2` fails after two lines. A filter with `10.0.0.0/8` first has
-- written `10.0.0.1`, and may have written less.
pub record IsStreamedInPart (query : Query) (grammar : Grammar) (lists : List (List ℕ)) (left : Option (List ℕ))
    (held held_after : Option (List ℕ)) : Type 0 where
  pub first : List ListEntry
  pub first_read : AreListsRead grammar 0 lists (first ∷ []) []
  pub entries : List ListEntry
  pub refusals : List Refusal
  pub read : IsFrontRead grammar (length lists) left entries refusals
  pub written : IsFrontWritten (AreReplies query first entries) held held_after

-- Why a stream ended, and what was written then: the first list has refused lines, or it ended in the second. When a
-- read, a write or memory fails is not specified.
abbrev pub IsStreamFailure : Query → Grammar → List (List ℕ) → Option (List ℕ) → Option (List ℕ) → Option (List ℕ)
    → StreamFailure → Type 0
IsStreamFailure query grammar lists left held held_after (StreamFailures.Start lines) =
    HasRefused grammar lists lines × Keeps held held_after
IsStreamFailure query grammar lists left held held_after (StreamFailures.Read failure) =
    IsStreamedInPart query grammar lists left held held_after
IsStreamFailure query grammar lists left held held_after StreamFailures.Unwritable =
    IsStreamedInPart query grammar lists left held held_after

-- The stream had begun when it failed.
-- Only private contracts use this.
abbrev pub IsBroken : StreamFailure → Type 0
IsBroken (StreamFailures.Start lines) = ⊥
IsBroken (StreamFailures.Read failure) = Unit {0}
IsBroken StreamFailures.Unwritable = Unit {0}

-- A first part of the answers to the entries was written.
-- Only private contracts use this.
abbrev pub IsPartWritten : Answerer → Option (List ℕ) → Option (List ℕ) → List ListEntry → Type 0
IsPartWritten answerer held held_after entries =
    IsFrontWritten (AreAnswers (IsAnswerBy answerer) entries) held held_after

-- A first part of the answers to the entries of the first lines of the list was written.
-- Only private contracts use this.
pub record IsWrittenInPart (answerer : Answerer) (grammar : Grammar) (list : ℕ)
    (left held held_after : Option (List ℕ)) : Type 0 where
  pub entries : List ListEntry
  pub refusals : List Refusal
  pub read : IsFrontRead grammar list left entries refusals
  pub written : IsPartWritten answerer held held_after entries

-- The answers to the entries were written, and `found` says whether one was found.
-- Only private contracts use this.
pub record IsWritten (answerer : Answerer) (held held_after : Option (List ℕ)) (found : Bool)
    (entries : List ListEntry) : Type 0 where
  pub text : List ℕ
  pub answers : AreAnswers (IsAnswerBy answerer) entries text
  pub written : Appends held held_after text
  pub is_found : IsFoundIn (IsFoundBy answerer) found entries
