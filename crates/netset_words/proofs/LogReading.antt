-- A log that is read through a window, and the lines that are written.
use Rattle.std.proofs.Common.{◌≡◌, ◌≤◌, ℕ, Bool, true, false, List, [], ◌++◌, Option, sym, ap, ◌∙◌, subst}
use Rattle.std.proofs.Common.{append-nil, arith}
use Rattle.std.specs.Io.KnownBytes.{Appends, Consumes, IsAtEnd, Keeps}
use Rattle.std.proofs.KnownBytes.{Appends-trans, Appends-nil, Keeps-trans}
use Rattle.ipnet.specs.Lines.{lines_of}
use Rattle.ipnet_sets.specs.declared.set.IpSet.{IpSet}
use Rattle.ipnet_text.specs.declared.window.Window.{Window}
use Rattle.ipnet_text.specs.Window.{held}
use Rattle.ipnet_lists.specs.Marks.{IsPastMark}
use Rattle.netset_words.specs.declared.line_filter.LineFilter.{LineFilter}
use Rattle.netset_words.specs.declared.lines_request.LinesRequest.{LinesRequest}
use Rattle.netset_words.specs.FilterSteps.{IsFilterUpTo, IsLogUpTo, IsTaken, IsStreamed}
use Rattle.netset_words.proofs.InputReading.{IsInputUpTo, input_begins, input_moves, input_grows, input_ends}

-- the same filter without the text that was written
pub record IsPut (old new : LineFilter) : Type 0 where
  pub request : new.request ≡ old.request
  pub set : new.set ≡ old.set
  pub line : new.line ≡ old.line
  pub rest : new.rest ≡ old.rest
  pub front : new.front.items ≡ old.front.items
  pub printed : new.answers.printed ≡ old.answers.printed
  pub nones : new.answers.nones ≡ old.answers.nones
  pub undecided : new.undecided ≡ old.undecided
  pub text : new.answers.text.items ≡ []

put_lines : (how : LinesRequest) (set : IpSet) (written : List ℕ) (least : ℕ) (old new : LineFilter)
    (p : IsPut old new) (lines : List (List ℕ)) (cur : List ℕ) → IsFilterUpTo how set written least lines cur old
    → IsFilterUpTo how set (written ++ old.answers.text.items) least lines cur new
put_lines how set written least old new p lines cur h = record {
  same_request = p.request ∙ h.same_request;
  same_set = p.set ∙ h.same_set;
  line = p.line ∙ h.line;
  result = h.result;
  are = h.are;
  partial = h.partial;
  current = rw (p.rest, p.front) h.current;
  text = rw p.text (append-nil (written ++ old.answers.text.items) ∙ h.text);
  printed = p.printed ∙ h.printed;
  nones = p.nones ∙ h.nones;
  undecided = rw p.undecided h.undecided;
  least_count = rw p.undecided h.least_count;
}

put_taken : (how : LinesRequest) (set : IpSet) (written : List ℕ) (least : ℕ) (old new : LineFilter)
    (p : IsPut old new) (more : Bool) (bytes : List ℕ) → IsTaken more how set written least bytes old
    → IsTaken more how set (written ++ old.answers.text.items) least bytes new
put_taken how set written least old new p true bytes h = record {
  closed = h.closed;
  cur = h.cur;
  cut = h.cut;
  is_closed = h.is_closed;
  no_end = h.no_end;
  up_to = put_lines how set written least old new p (lines_of h.closed) h.cur h.up_to;
}
put_taken how set written least old new p false bytes h =
    put_lines how set written least old new p (lines_of bytes) [] h

-- a log was read up to what is in the window, and its lines were written
pub record IsLogReading (more : Bool) (left left_now to to_now : Option (List ℕ)) (start now : LineFilter)
    (window : Window) : Type 0 where
  pub bytes : List ℕ
  pub input : IsInputUpTo more left left_now bytes (held window)
  pub written : List ℕ
  pub out : Appends to to_now written
  pub log : (how : LinesRequest) → (set : IpSet) → IsLogUpTo how set [] 0 [] start
      → IsLogUpTo how set written 0 bytes now

pub reading_begins : (more : Bool) (left left_now to : Option (List ℕ)) (f : LineFilter) (window : Window)
    → IsPastMark more left left_now window → IsLogReading more left left_now to to f f window
reading_begins more left left_now to f window h = record {
  bytes = [];
  input = input_begins more left left_now window h;
  written = [];
  out = Appends-nil to;
  log = λ how set begun. begun;
}

-- more of it
pub reading_goes : (left left_now to to_now to_next : Option (List ℕ)) (start now taken next : LineFilter)
    (window : Window) (shown : List ℕ) → shown ≡ held window → IsPut taken next
    → Appends to_now to_next taken.answers.text.items → (more : Bool) (left_next : Option (List ℕ))
    (empty filled : Window) (given : List ℕ) → IsLogReading true left left_now to to_now start now window
    → ((how : LinesRequest) → (set : IpSet) → (written : List ℕ) → (least : ℕ) → (before : List ℕ)
    → IsLogUpTo how set written least before now → IsTaken true how set written least (before ++ shown) taken)
    → held empty ≡ [] → held filled ≡ held empty ++ given → Consumes left_now left_next given
    → (more ≡ false → IsAtEnd left_next) → IsLogReading more left left_next to to_next start next filled
reading_goes left left_now to to_now to_next start now taken next window shown is p put more left_next empty filled
    given h reads none window_is read end = record {
      bytes = h.bytes ++ shown;
      input = subst (IsInputUpTo more left left_next (h.bytes ++ shown)) (sym (window_is ∙ ap (λ z. z ++ given) none))
          (input_grows more left left_now left_next (h.bytes ++ shown) [] given
          (input_moves true left left_now h.bytes (held window) shown []
          (sym is ∙ sym (append-nil shown)) h.input) read end);
      written = h.written ++ taken.answers.text.items;
      out = Appends-trans to to_now to_next h.written taken.answers.text.items h.out put;
      log = λ how set begun. put_taken how set h.written 0 taken next p true (h.bytes ++ shown)
          (reads how set h.written 0 h.bytes (h.log how set begun));
    }

-- all of it
pub reading_ends : (left left_now to to_now to_next : Option (List ℕ)) (start now taken next : LineFilter)
    (window : Window) (shown : List ℕ) → shown ≡ held window → IsPut taken next
    → Appends to_now to_next taken.answers.text.items → IsLogReading false left left_now to to_now start now window
    → ((how : LinesRequest) → (set : IpSet) → (written : List ℕ) → (least : ℕ) → (before : List ℕ)
    → IsLogUpTo how set written least before now → IsTaken false how set written least (before ++ shown) taken)
    → (how : LinesRequest) → (set : IpSet) → IsLogUpTo how set [] 0 [] start
    → IsStreamed how set left left_now to to_next next
reading_ends left left_now to to_now to_next start now taken next window shown is p put h reads how set begun =
    let (bytes, given, body) = input_ends left left_now h.bytes (held window) h.input in
    record {
      bytes = bytes;
      given = given;
      written = h.written ++ taken.answers.text.items;
      out = Appends-trans to to_now to_next h.written taken.answers.text.items h.out put;
      none = p.text;
      all = subst (λ z. IsFilterUpTo how set (h.written ++ taken.answers.text.items) 0 (lines_of z) [] next)
          (ap (λ z. h.bytes ++ z) is ∙ sym body)
          (put_taken how set h.written 0 taken next p false (h.bytes ++ shown)
          (reads how set h.written 0 h.bytes (h.log how set begun)));
    }

-- ---- the lines that are not decided

-- at least as many as there are
as_many : (how : LinesRequest) (set : IpSet) (written bytes : List ℕ) (f : LineFilter)
    → IsLogUpTo how set written 0 bytes f → IsLogUpTo how set written f.undecided.count bytes f
as_many how set written bytes f h = record {
  closed = h.closed;
  cur = h.cur;
  cut = h.cut;
  is_closed = h.is_closed;
  no_end = h.no_end;
  up_to = record {
    same_request = h.up_to.same_request;
    same_set = h.up_to.same_set;
    line = h.up_to.line;
    result = h.up_to.result;
    are = h.up_to.are;
    partial = h.up_to.partial;
    current = h.up_to.current;
    text = h.up_to.text;
    printed = h.up_to.printed;
    nones = h.up_to.nones;
    undecided = h.up_to.undecided;
    least_count = omega arith;
  };
}

taken_count : (more : Bool) (how : LinesRequest) (set : IpSet) (written : List ℕ) (least : ℕ) (bytes : List ℕ)
    (f : LineFilter) → IsTaken more how set written least bytes f → least ≤ f.undecided.count
taken_count true how set written least bytes f h = h.up_to.least_count
taken_count false how set written least bytes f h = h.least_count

-- each line is decided, so nothing was reported
pub still_quiet : (more : Bool) (left left_now to to_now faults then after : Option (List ℕ))
    (start now taken : LineFilter) (window : Window) (shown : List ℕ)
    → IsLogReading more left left_now to to_now start now window
    → ((how : LinesRequest) → (set : IpSet) → (written : List ℕ) → (least : ℕ) → (before : List ℕ)
    → IsLogUpTo how set written least before now → IsTaken more how set written least (before ++ shown) taken)
    → ((how : LinesRequest) → (set : IpSet) → IsLogUpTo how set [] 0 [] start → now.undecided.count ≡ 0
    → Keeps faults then)
    → (taken.undecided.count ≡ now.undecided.count → Keeps then after) → (how : LinesRequest) → (set : IpSet)
    → IsLogUpTo how set [] 0 [] start → taken.undecided.count ≡ 0 → Keeps faults after
still_quiet more left left_now to to_now faults then after start now taken window shown h takes quiet report how set
    begun none =
    let count = now.undecided.count in
    let log = as_many how set h.written h.bytes now (h.log how set begun) in
    let more_are : count ≤ taken.undecided.count =
    taken_count more how set h.written count (h.bytes ++ shown) taken (takes how set h.written count h.bytes log) in
    let zero : count ≡ 0 = omega (arith, more_are, none) in
    Keeps-trans faults then after (quiet how set begun zero) (report (none ∙ sym zero))
