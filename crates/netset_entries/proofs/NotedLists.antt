-- Lists that are read in pieces: lines that end, and the start of one that does not.
use Rattle.std.proofs.Common.{◌≡◌, ◌≢◌, ℕ, ◌+◌, ◌-◌, ◌<◌, Bool, true, false, List, [], ◌∷◌, ◌++◌, All}
use Rattle.std.proofs.Common.{length, take, drop, refl, sym, ap, ◌∙◌, subst, arith, append_assoc, append-nil}
use Rattle.std.proofs.Common.{Option, None, Some}
use Rattle.std.proofs.lemmas.Grind.{flat_map-append}
use Rattle.std.proofs.lemmas.List.Elements.{All-nil, All-append}
use Rattle.memchr.specs.Find.{NoneBefore, Nowhere, Passes, IsFirstByte, is_byte}
use Rattle.ipnet.specs.Lines.{lines_of}
use Rattle.ipnet.specs.declared.net.IpNet.{IpNet}
use Rattle.ipnet.specs.declared.parser.Grammar.{Grammar}
use Rattle.ipnet_text.proofs.ClosedLines.{closed_append}
use Rattle.ipnet_lists.proofs.LineEnds.{ended, ended_closed, only, before_end, no_end, to_end}
use Rattle.netset_entries.specs.NotedEntries.{without_mark, list_lines, lines_of_all}
use Rattle.netset_entries.specs.NoteSteps.{AreKept, ReadsLine, ReadsBegun, IsStart, first_text, HaveNoted, ReadsUpTo}
use Rattle.netset_entries.specs.NoteSteps.{IsAtEnd, EndsLine}
use Rattle.netset_entries.specs.declared.noted.EntryNotes.{EntryNotes}

-- ---- the lines of a list

-- one line more
more_line : (is_start : Bool) (lines : List (List ℕ)) (line : List ℕ) → IsStart is_start lines
    → without_mark (lines ++ line ∷ []) ≡ without_mark lines ++ first_text is_start line ∷ []
more_line true [] line start = refl
more_line true (x ∷ lines) line start = absurd (omega (arith, ap length start))
more_line false [] line start = absurd (start refl)
more_line false (x ∷ lines) line start = refl

some_line : (lines : List (List ℕ)) (line : List ℕ) → lines ++ line ∷ [] ≢ []
some_line [] line none = omega (arith, ap length none)
some_line (x ∷ lines) line none = omega (arith, ap length none)

-- the lines of one list more
more_lists : (lists : List (List ℕ)) (list : List ℕ)
    → lines_of_all (lists ++ list ∷ []) ≡ lines_of_all lists ++ list_lines list
more_lists lists list =
    flat_map-append list_lines lists (list ∷ [])
    ∙ ap (λ z. lines_of_all lists ++ z) (append-nil (list_lines list))

-- ---- steps

module _ (grammar : Grammar) (frame : Option IpNet) (lists : List (List ℕ)) (begun : List ℕ) (old : EntryNotes)
    (h : HaveNoted grammar frame lists begun old)
  where
    -- a line ends
    pub line_ends : (piece line : List ℕ) (new : EntryNotes) → All (λ b. b ≢ 10) piece
        → line ≡ old.line.items ++ piece → ReadsLine old.blocks new.blocks (first_text old.is_start line)
        → new.is_start ≡ false → new.line.items ≡ [] → HaveNoted grammar frame lists (begun ++ (piece ++ 10 ∷ [])) new
    line_ends piece line new none is reads started no_line =
        let all = All-append (λ b. b ≢ 10) old.line.items piece h.no_end none in
        let whole = subst (All (λ b. b ≢ 10)) (sym is) all in
        let closed = h.closed ++ (line ++ 10 ∷ []) in
        let lines : lines_of closed ≡ lines_of h.closed ++ line ∷ [] =
        h.is_closed (line ++ 10 ∷ []) ∙ ap (λ z. lines_of h.closed ++ z) (ended line [] whole) in
        let read : list_lines closed ≡ list_lines h.closed ++ first_text old.is_start line ∷ [] =
        ap without_mark lines ∙ more_line old.is_start (lines_of h.closed) line h.start in
        record {
          closed = closed;
          cut = ap (λ z. z ++ (piece ++ 10 ∷ [])) h.cut ∙ append_assoc h.closed old.line.items (piece ++ 10 ∷ [])
              ∙ ap (λ z. h.closed ++ z) (sym (append_assoc old.line.items piece (10 ∷ [])))
              ∙ ap (λ z. h.closed ++ (z ++ 10 ∷ [])) (sym is)
              ∙ sym (append-nil closed) ∙ ap (λ z. closed ++ z) (sym no_line);
          is_closed = closed_append h.closed (line ++ 10 ∷ []) h.is_closed (ended_closed line whole);
          no_end = subst (All (λ b. b ≢ 10)) (sym no_line) (All-nil (λ b. b ≢ 10));
          start = subst (λ z. IsStart z (lines_of closed)) (sym started)
              (λ e. some_line (lines_of h.closed) line (sym lines ∙ e));
          kept = subst (λ z. AreKept grammar frame z new.blocks)
              (append_assoc (lines_of_all lists) (list_lines h.closed) (first_text old.is_start line ∷ [])
              ∙ ap (λ z. lines_of_all lists ++ z) (sym read))
              (reads grammar frame (lines_of_all lists ++ list_lines h.closed) h.kept);
        }

    -- the start of a line grows
    pub line_grows : (piece : List ℕ) (new : EntryNotes) → All (λ b. b ≢ 10) piece
        → new.line.items ≡ old.line.items ++ piece → new.is_start ≡ old.is_start → new.blocks ≡ old.blocks
        → HaveNoted grammar frame lists (begun ++ piece) new
    line_grows piece new none items same_start same_blocks = record {
      closed = h.closed;
      cut = ap (λ z. z ++ piece) h.cut ∙ append_assoc h.closed old.line.items piece
          ∙ ap (λ z. h.closed ++ z) (sym items);
      is_closed = h.is_closed;
      no_end = subst (All (λ b. b ≢ 10)) (sym items)
          (All-append (λ b. b ≢ 10) old.line.items piece h.no_end none);
      start = subst (λ z. IsStart z (lines_of h.closed)) (sym same_start) h.start;
      kept = subst (AreKept grammar frame (lines_of_all lists ++ list_lines h.closed)) (sym same_blocks) h.kept;
    }

    -- the list ends at the end of a line
    pub ends_closed : old.line.items ≡ [] → IsAtEnd grammar frame lists begun old
    ends_closed none = record {
      no_line = none;
      kept = subst (λ z. AreKept grammar frame (lines_of_all lists ++ list_lines z) old.blocks)
          (sym (h.cut ∙ ap (λ z. h.closed ++ z) none ∙ append-nil h.closed)) h.kept;
    }

    -- the list ends within a line
    pub ends_begun : (new : EntryNotes) → 0 < length old.line.items → ReadsBegun old new
        → IsAtEnd grammar frame lists begun new
    ends_begun new some reads =
        let line = old.line.items in
        let lines : lines_of begun ≡ lines_of h.closed ++ line ∷ [] =
        ap lines_of h.cut ∙ h.is_closed line ∙ ap (λ z. lines_of h.closed ++ z) (only line some h.no_end) in
        let read : list_lines begun ≡ list_lines h.closed ++ first_text old.is_start line ∷ [] =
        ap without_mark lines ∙ more_line old.is_start (lines_of h.closed) line h.start in
        record {
          no_line = reads.no_line;
          kept = subst (λ z. AreKept grammar frame z new.blocks)
              (append_assoc (lines_of_all lists) (list_lines h.closed) (first_text old.is_start line ∷ [])
              ∙ ap (λ z. lines_of_all lists ++ z) (sym read))
              (reads.blocks grammar frame (lines_of_all lists ++ list_lines h.closed) h.kept);
        }

-- the next list
pub next_list : (grammar : Grammar) (frame : Option IpNet) (lists : List (List ℕ)) (bytes : List ℕ)
    (old new : EntryNotes) → IsAtEnd grammar frame lists bytes old → new.is_start ≡ true
    → new.line.items ≡ old.line.items → new.blocks ≡ old.blocks
    → HaveNoted grammar frame (lists ++ bytes ∷ []) [] new
next_list grammar frame lists bytes old new h start same_line same_blocks =
    let none : new.line.items ≡ [] = same_line ∙ h.no_line in
    record {
      closed = [];
      cut = sym none;
      is_closed = λ more. refl;
      no_end = subst (All (λ b. b ≢ 10)) (sym none) (All-nil (λ b. b ≢ 10));
      start = subst (λ z. IsStart z []) (sym start) refl;
      kept = subst (λ z. AreKept grammar frame z new.blocks)
          (sym (more_lists lists bytes) ∙ sym (append-nil (lines_of_all (lists ++ bytes ∷ []))))
          (subst (AreKept grammar frame (lines_of_all lists ++ list_lines bytes)) (sym same_blocks) h.kept);
    }

-- the first list
pub first_list : (grammar : Grammar) (frame : Option IpNet) (new : EntryNotes) → AreKept grammar frame [] new.blocks
    → new.line.items ≡ [] → new.is_start ≡ true → HaveNoted grammar frame [] [] new
first_list grammar frame new kept none start = record {
  closed = [];
  cut = sym none;
  is_closed = λ more. refl;
  no_end = subst (All (λ b. b ≢ 10)) (sym none) (All-nil (λ b. b ≢ 10));
  start = subst (λ z. IsStart z []) (sym start) refl;
  kept = kept;
}

-- what was noted of whole lists
pub of_lists : (grammar : Grammar) (frame : Option IpNet) (lists : List (List ℕ)) (notes : EntryNotes)
    → HaveNoted grammar frame lists [] notes → AreKept grammar frame (lines_of_all lists) notes.blocks
of_lists grammar frame lists notes h =
    let none : h.closed ≡ [] = front_none h.closed notes.line.items (sym h.cut) in
    subst (λ z. AreKept grammar frame z notes.blocks)
    (ap (λ z. lines_of_all lists ++ list_lines z) none ∙ append-nil (lines_of_all lists)) h.kept
  where
    front_none : (front back : List ℕ) → front ++ back ≡ [] → front ≡ []
    front_none [] back e = refl
    front_none (b ∷ front) back e = absurd (omega (arith, ap length e))

-- ---- bytes of which a rest is not read

pub none_read : (start : EntryNotes) (bytes : List ℕ) → ReadsUpTo start start bytes bytes
none_read start bytes = record {
  taken = [];
  cut = refl;
  notes = λ grammar frame lists begun h.
      subst (λ z. HaveNoted grammar frame lists z start) (sym (append-nil begun)) h;
}

-- up to the end of a line
pub line_read : (start now next : EntryNotes) (bytes rest : List ℕ) (i : ℕ) → ReadsUpTo start now bytes rest
    → NoneBefore (Passes (is_byte 10) rest) 0 (length rest) i → Passes (is_byte 10) rest i
    → EndsLine now next (take i rest)
    → ReadsUpTo start next bytes (take (length rest - (i + 1)) (drop (i + 1) rest))
line_read start now next bytes rest i h before found ends =
    let after = take (length rest - (i + 1)) (drop (i + 1) rest) in
    let line = take i rest ++ 10 ∷ [] in
    record {
      taken = h.taken ++ line;
      cut = h.cut ∙ ap (λ z. h.taken ++ z) (to_end rest i before.high found) ∙ sym (append_assoc h.taken line after);
      notes = λ grammar frame lists begun had.
          subst (λ z. HaveNoted grammar frame lists z next) (append_assoc begun h.taken line)
          (ends grammar frame lists (begun ++ h.taken) (before_end rest i (omega (arith, before.high)) before)
          (h.notes grammar frame lists begun had));
    }

-- all of them
pub all_read : (start now next : EntryNotes) (bytes rest : List ℕ) → ReadsUpTo start now bytes rest
    → Nowhere (Passes (is_byte 10) rest) 0 (length rest) → next.line.items ≡ now.line.items ++ rest
    → next.is_start ≡ now.is_start → next.blocks ≡ now.blocks → (grammar : Grammar) → (frame : Option IpNet)
    → (lists : List (List ℕ)) → (begun : List ℕ) → HaveNoted grammar frame lists begun start
    → HaveNoted grammar frame lists (begun ++ bytes) next
all_read start now next bytes rest h none items same_start same_blocks = λ grammar frame lists begun had.
    subst (λ z. HaveNoted grammar frame lists z next)
    (append_assoc begun h.taken rest ∙ ap (λ z. begun ++ z) (sym h.cut))
    (line_grows grammar frame lists (begun ++ h.taken) now (h.notes grammar frame lists begun had) rest next
    (no_end rest none) items same_start same_blocks)

-- no end of a line is in the bytes
pub none_found : (bytes : List ℕ) (found : Option ℕ) → IsFirstByte (is_byte 10) bytes found
    → ((i : ℕ) → found ≢ Some i) → Nowhere (Passes (is_byte 10) bytes) 0 (length bytes)
none_found bytes None h not = h
none_found bytes (Some i) h not = absurd (not i refl)
