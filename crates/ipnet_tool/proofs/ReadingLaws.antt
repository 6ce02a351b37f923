-- The bytes that a reader returned; the window holds the last of them.
use Rattle.std.proofs.Common.{◌≡◌, ℕ, ◌+◌, ◌<◌, List, [], ◌++◌, length, take, drop, refl, sym, ap, ◌∙◌, subst}
use Rattle.std.proofs.Common.{IsUtf8, Option, All, Contains, Bool, true, false}
use Rattle.std.proofs.Common.{append_assoc, append-nil, take-append-drop, get_or, ◌≢◌, ◌≤◌, arith, length-drop}
use Rattle.std.specs.Io.KnownBytes.{Consumes, IsAtEnd}
use Rattle.std.proofs.KnownBytes.{Consumes-nil, Consumes-trans}
use Rattle.std.proofs.lemmas.Str.{IsUtf8-append, IsUtf8-nil}
use Rattle.std.proofs.lemmas.Grind.{get_or_default_zero}
use Rattle.std.proofs.lemmas.List.{get_or-drop}
use Rattle.ipnet.specs.Network.{Network}
use Rattle.ipnet.specs.Blocks.{HaveSameCover}
use Rattle.ipnet.specs.declared.parser.Grammar.{Grammar}
use Rattle.ipnet.specs.Lines.{lines_of, AreNetworksOf, IsFirstBadLine}
use Rattle.ipnet_text.specs.Inputs.{GaveWhole}
use Rattle.ipnet_text.specs.BadLines.{StartsWithBadLine}
use Rattle.ipnet_tool.specs.Reading.{IsTextLeft, IsTaken, AreReadFrom, IsBadLineFrom, IsNoTextLeft, IsNoTextFrom}
use Rattle.ipnet_tool.specs.Reading.{TakesMemoryFrom}
use Rattle.ipnet_text.proofs.ClosedLines.{IsClosed, closed_append}
use Rattle.ipnet_tool.proofs.PieceLaws.{taken_none, taken_more, networks_more, bad_in_piece}
use Rattle.ipnet_tool.proofs.PieceLaws.{bad_before_more, long_is_bad, not_at_once_after, some_after}
use Rattle.ipnet_tool.proofs.TextCuts.{text_after, closed_text}

-- the bytes of two pieces, cut behind the first bytes of the second
regrouped : (front held given : List ℕ) (count : ℕ)
    → (front ++ held) ++ given ≡ (front ++ take count held) ++ (drop count held ++ given)
regrouped front held given count =
    ap (λ z. (front ++ z) ++ given) (sym (take-append-drop count held))
    ∙ ap (λ z. z ++ given) (sym (append_assoc front (take count held) (drop count held)))
    ∙ append_assoc (front ++ take count held) (drop count held) given

-- ---- the rest of a text, which has to be UTF-8

-- what was held first, and what was read since, is a text that was judged and what is held now
abbrev pub IsJudged : List ℕ → Option (List ℕ) → Option (List ℕ) → List ℕ → Type 0
IsJudged first left now_left held = (judged : List ℕ) × (more : List ℕ) × IsUtf8 judged
    × (first ++ more ≡ judged ++ held) × Consumes left now_left more

pub judged_none : (first : List ℕ) (left : Option (List ℕ)) → IsJudged first left left first
judged_none first left = ([], [], IsUtf8-nil, append-nil first, Consumes-nil left)

pub judged_more : (first : List ℕ) (a b c : Option (List ℕ)) (held given now : List ℕ) (count : ℕ)
    → IsJudged first a b held → IsUtf8 (take count held) → now ≡ drop count held ++ given → Consumes b c given
    → IsJudged first a c now
judged_more first a b c held given now count (judged, more, is_text, is, read) front held_now given_now = (
  judged ++ take count held,
  more ++ given,
  IsUtf8-append judged (take count held) is_text front,
  sym (append_assoc first more given) ∙ ap (λ z. z ++ given) is ∙ regrouped judged held given count
      ∙ ap (λ z. (judged ++ take count held) ++ z) (sym held_now),
  Consumes-trans a b c more given read given_now,
)

-- at the end, what is held decides
pub judged_whole : (first : List ℕ) (a b : Option (List ℕ)) (held : List ℕ) → IsJudged first a b held → IsUtf8 held
    → IsAtEnd b → IsTextLeft first a b
judged_whole first a b held (judged, more, is_text, is, read) ends end = record {
  more = more;
  is_text = subst IsUtf8 (sym is) (IsUtf8-append judged held is_text ends);
  read = record { given = read; whole = end };
}

pub judged_no_text : (first : List ℕ) (a b : Option (List ℕ)) (held : List ℕ) → IsJudged first a b held
    → ¬ (IsUtf8 held) → IsAtEnd b → IsNoTextLeft first a b
judged_no_text first a b held (judged, more, is_text, is, read) bad end = record {
  more = more;
  read = record { given = read; whole = end };
  no_text = λ all. bad (text_after judged held is_text (subst IsUtf8 is all));
}

-- before the end, if nothing makes what is held a text
pub judged_bad : (first : List ℕ) (a b c : Option (List ℕ)) (held later : List ℕ) (count : ℕ) → IsJudged first a b held
    → IsUtf8 (take count held) → ¬ (IsUtf8 (drop count held ++ later)) → GaveWhole b c later → IsNoTextLeft first a c
judged_bad first a b c held later count (judged, more, is_text, is, read) front bad last =
    let text = judged ++ take count held in
    let whole : first ++ (more ++ later) ≡ text ++ (drop count held ++ later) =
    sym (append_assoc first more later) ∙ ap (λ z. z ++ later) is ∙ regrouped judged held later count in
    record {
      more = more ++ later;
      read = record { given = Consumes-trans a b c more later read last.given; whole = last.whole };
      no_text = λ all. bad (text_after text (drop count held ++ later)
          (IsUtf8-append judged (take count held) is_text front) (subst IsUtf8 whole all));
    }

-- ---- what was taken of a text, and what is held of it

-- what the reader gave is what was taken, and what is held
pub record IsReadUpTo (grammar : Grammar) (left now_left : Option (List ℕ)) (held : List ℕ) (networks : List Network)
    (number : ℕ) : Type 0 where
  pub front : List ℕ
  pub taken : IsTaken grammar front networks number
  pub read : Consumes left now_left (front ++ held)

pub read_none : (grammar : Grammar) (left : Option (List ℕ)) (held : List ℕ) (networks : List Network) → held ≡ []
    → networks ≡ [] → IsReadUpTo grammar left left held networks 0
read_none grammar left held networks nothing none = record {
  front = [];
  taken = taken_none grammar networks none;
  read = subst (Consumes left left) (sym nothing) (Consumes-nil left);
}

pub read_more : (grammar : Grammar) (a b c : Option (List ℕ)) (held given now : List ℕ) (networks : List Network)
    (number : ℕ) → IsReadUpTo grammar a b held networks number → now ≡ held ++ given → Consumes b c given
    → IsReadUpTo grammar a c now networks number
read_more grammar a b c held given now networks number h is more = record {
  front = h.front;
  taken = h.taken;
  read = subst (Consumes a c) (append_assoc h.front held given ∙ ap (λ z. h.front ++ z) (sym is))
      (Consumes-trans a b c (h.front ++ held) given h.read more);
}

-- what a call that takes the lines of a piece makes of the networks so far
abbrev pub AddsNetworksOf : Grammar → List ℕ → List Network → List Network → Type 0
AddsNetworksOf grammar piece old new = (networks : List Network) × AreNetworksOf grammar (lines_of piece) networks
    × ((before : List Network) → HaveSameCover before old → HaveSameCover (before ++ networks) new)

-- whole lines are taken
pub piece_taken : (grammar : Grammar) (a b : Option (List ℕ)) (held after : List ℕ) (old new : List Network)
    (number lines count : ℕ) → IsReadUpTo grammar a b held old number → IsUtf8 (take count held)
    → IsClosed (take count held) → AddsNetworksOf grammar (take count held) old new
    → lines ≡ number + length (lines_of (take count held)) → after ≡ drop count held
    → IsReadUpTo grammar a b after new lines
piece_taken grammar a b held after old new number lines count h is_text closed adds is rest = record {
  front = h.front ++ take count held;
  taken = taken_more grammar h.front (take count held) old new number lines h.taken is_text closed adds is;
  read = subst (Consumes a b) (ap (λ z. h.front ++ z) (sym (take-append-drop count held))
      ∙ sym (append_assoc h.front (take count held) (drop count held))
      ∙ ap (λ z. (h.front ++ take count held) ++ z) (sym rest)) h.read;
}

-- the last lines are taken
pub last_taken : (grammar : Grammar) (a b : Option (List ℕ)) (held : List ℕ) (old new : List Network) (number : ℕ)
    → IsReadUpTo grammar a b held old number → AddsNetworksOf grammar held old new → IsAtEnd b
    → AreReadFrom grammar a b new
last_taken grammar a b held old new number h adds end =
    let (networks, are, same) = networks_more grammar h.front held old new number h.taken adds in
    record {
      text = h.front ++ held;
      read = record { given = h.read; whole = end };
      written = networks;
      are = are;
      same = same;
    }

-- one of the last lines is bad
pub last_bad : (grammar : Grammar) (a b : Option (List ℕ)) (held : List ℕ) (old : List Network) (number later bad : ℕ)
    → IsReadUpTo grammar a b held old number → IsUtf8 held → IsFirstBadLine grammar (lines_of held) later
    → bad ≡ number + later → IsAtEnd b → IsBadLineFrom grammar a b bad
last_bad grammar a b held old number later bad h is_text first is end = record {
  text = h.front ++ held;
  is_text = IsUtf8-append h.front held h.taken.is_text is_text;
  read = record { given = h.read; whole = end };
  bad = subst (IsFirstBadLine grammar (lines_of (h.front ++ held))) (sym is)
      (bad_in_piece grammar h.front held old number later h.taken first);
}

-- one of the whole lines is bad, and the rest is a text
pub bad_then_text : (grammar : Grammar) (a b c : Option (List ℕ)) (held after : List ℕ) (old : List Network)
    (number later bad count : ℕ) → IsReadUpTo grammar a b held old number → IsUtf8 (take count held)
    → IsClosed (take count held) → IsFirstBadLine grammar (lines_of (take count held)) later
    → after ≡ drop count held → bad ≡ number + later → IsTextLeft after b c → IsBadLineFrom grammar a c bad
bad_then_text grammar a b c held after old number later bad count h is_text closed first rest is left =
    let piece = take count held in
    let text = h.front ++ piece in
    record {
      text = text ++ (after ++ left.more);
      is_text = IsUtf8-append text (after ++ left.more)
          (IsUtf8-append h.front piece h.taken.is_text is_text) left.is_text;
      read = record {
        given = subst (Consumes a c) (regrouped h.front held left.more count
            ∙ ap (λ z. text ++ (z ++ left.more)) (sym rest))
            (Consumes-trans a b c (h.front ++ held) left.more h.read left.read.given);
        whole = left.read.whole;
      };
      bad = subst (IsFirstBadLine grammar (lines_of (text ++ (after ++ left.more)))) (sym is)
          (bad_before_more grammar text (after ++ left.more) (number + later)
          (closed_append h.front piece h.taken.closed closed)
          (bad_in_piece grammar h.front piece old number later h.taken first));
    }

-- no line ends in what is held, which is longer than any network's text
pub long_then_text : (grammar : Grammar) (a b c : Option (List ℕ)) (held : List ℕ) (networks : List Network)
    (number : ℕ) → IsReadUpTo grammar a b held networks number → 200 < length held
    → ((k : ℕ) → k < length held → get_or held k 0 ≢ 10) → IsTextLeft held b c
    → IsBadLineFrom grammar a c (number + 1)
long_then_text grammar a b c held networks number h long none left = record {
  text = h.front ++ (held ++ left.more);
  is_text = IsUtf8-append h.front (held ++ left.more) h.taken.is_text left.is_text;
  read = record {
    given = subst (Consumes a c) (append_assoc h.front held left.more)
        (Consumes-trans a b c (h.front ++ held) left.more h.read left.read.given);
    whole = left.read.whole;
  };
  bad = bad_in_piece grammar h.front (held ++ left.more) networks number 1 h.taken
      (long_is_bad grammar held left.more long none);
}

-- no line ends after the last one that does
pub none_after : (held after : List ℕ) (count : ℕ) → after ≡ drop count held
    → ((k : ℕ) → count ≤ k → k < length held → get_or held k 0 ≢ 10)
    → (k : ℕ) → k < length after → get_or after k 0 ≢ 10
none_after held after count is none k less e =
    none (count + k) (omega arith) (omega (arith, less, ap length is, length-drop count held))
    (sym (ap (λ z. get_or z k 0) is ∙ get_or-drop count held k 0) ∙ e)

-- ---- inputs that are not UTF-8

-- if the whole lines that are held are not UTF-8, the input is not UTF-8
pub lines_no_text : (grammar : Grammar) (a b c : Option (List ℕ)) (held later : List ℕ) (networks : List Network)
    (number count : ℕ) → IsReadUpTo grammar a b held networks number → IsClosed (take count held)
    → ¬ (IsUtf8 (take count held)) → GaveWhole b c later → IsNoTextFrom a c
lines_no_text grammar a b c held later networks number count h closed bad last =
    let piece = take count held in
    let text = h.front ++ (piece ++ (drop count held ++ later)) in
    let whole : (h.front ++ held) ++ later ≡ text =
    regrouped h.front held later count ∙ append_assoc h.front piece (drop count held ++ later) in
    record {
      bytes = text;
      read = record {
        given = subst (Consumes a c) whole (Consumes-trans a b c (h.front ++ held) later h.read last.given);
        whole = last.whole;
      };
      no_text = λ all. bad (closed_text piece (drop count held ++ later) closed
          (text_after h.front (piece ++ (drop count held ++ later)) h.taken.is_text all));
    }

-- if the last bytes are not UTF-8, the input is not UTF-8
pub last_no_text : (grammar : Grammar) (a b : Option (List ℕ)) (held : List ℕ) (networks : List Network) (number : ℕ)
    → IsReadUpTo grammar a b held networks number → ¬ (IsUtf8 held) → IsAtEnd b → IsNoTextFrom a b
last_no_text grammar a b held networks number h bad end = record {
  bytes = h.front ++ held;
  read = record { given = h.read; whole = end };
  no_text = λ all. bad (text_after h.front held h.taken.is_text all);
}

-- if what is read after a refused line is not UTF-8, the input is not UTF-8
pub rest_no_text : (grammar : Grammar) (a b c : Option (List ℕ)) (held after : List ℕ) (networks : List Network)
    (number count : ℕ) → IsReadUpTo grammar a b held networks number → IsUtf8 (take count held)
    → after ≡ drop count held → IsNoTextLeft after b c → IsNoTextFrom a c
rest_no_text grammar a b c held after networks number count h is_text rest left =
    let text = h.front ++ take count held in
    record {
      bytes = text ++ (after ++ left.more);
      read = record {
        given = subst (Consumes a c) (regrouped h.front held left.more count
            ∙ ap (λ z. text ++ (z ++ left.more)) (sym rest))
            (Consumes-trans a b c (h.front ++ held) left.more h.read left.read.given);
        whole = left.read.whole;
      };
      no_text = λ all. left.no_text (text_after text (after ++ left.more)
          (IsUtf8-append h.front (take count held) h.taken.is_text is_text) all);
    }

-- ---- memory

-- memory ran out at the whole lines that are held
pub memory_taken : (grammar : Grammar) (a b : Option (List ℕ)) (held : List ℕ) (networks : List Network)
    (number count : ℕ) → IsReadUpTo grammar a b held networks number → IsUtf8 (take count held)
    → ¬ (Contains (drop count held) 10) → ¬ (All (λ line. line ≡ []) (lines_of (take count held)))
    → ((later : ℕ) → ¬ (StartsWithBadLine grammar (lines_of (take count held)) later)) → TakesMemoryFrom grammar a b
memory_taken grammar a b held networks number count h is_text none some not_at_once =
    let piece = take count held in
    record {
      text = h.front ++ piece;
      rest = drop count held;
      read = subst (Consumes a b) (ap (λ z. h.front ++ z) (sym (take-append-drop count held))
          ∙ sym (append_assoc h.front piece (drop count held))) h.read;
      is_text = IsUtf8-append h.front piece h.taken.is_text is_text;
      no_more_lines = none;
      some = some_after grammar h.front piece networks number h.taken some;
      not_at_once = not_at_once_after grammar h.front piece networks number h.taken not_at_once;
    }

-- no line ends in what is held after the last line
none_held : (held : List ℕ) (count : ℕ)
    → ((k : ℕ) → count ≤ k → k < length held → get_or held k 0 ≢ 10) → ¬ (Contains (drop count held) 10)
none_held held count none (k, less, e) =
    none_after held (drop count held) count refl none k less
    (sym (get_or_default_zero (drop count held) k 10 less) ∙ e)

none_at_all : (held : List ℕ) (count : ℕ) → length held ≤ count → ¬ (Contains (drop count held) 10)
none_at_all held count all (k, less, e) = absurd (omega (arith, less, length-drop count held))

pub none_behind : (more : Bool) (held : List ℕ) (count : ℕ) → (more ≡ false → count ≡ length held)
    → (more ≡ true → (k : ℕ) → count ≤ k → k < length held → get_or held k 0 ≢ 10) → ¬ (Contains (drop count held) 10)
none_behind true held count all last = none_held held count (last refl)
none_behind false held count all last = none_at_all held count (omega (arith, all refl))
