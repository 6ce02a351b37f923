-- A list that is read through a window.
use Rattle.std.proofs.Common.{◌≡◌, ◌≢◌, ℕ, zero, suc, ◌+◌, ◌<◌, ◌≤◌, ◌⊎◌, Bool, true, false, List, []}
use Rattle.std.proofs.Common.{◌++◌, length, take}
use Rattle.std.proofs.Common.{drop, refl, sym, ap, ◌∙◌, arith, inl, inr, subst, append_assoc, append-nil, Option}
use Rattle.std.proofs.Math.ListN.{drop_of_length-le}
use Rattle.std.specs.Io.KnownBytes.{Consumes, IsAtEnd}
use Rattle.std.proofs.KnownBytes.{Consumes-trans}
use Rattle.std.proofs.lemmas.List.{take-append-drop, length-take}
use Rattle.ipnet.specs.Lines.{lines_of}
use Rattle.ipnet_text.specs.Window.{held}
use Rattle.ipnet_text.proofs.ClosedLines.{IsClosed, closed_append}
use Rattle.ipnet_lists.specs.declared.reader.LineReader.{LineReader}
use Rattle.ipnet_lists.specs.declared.reading.Reading.{Reading}
use Rattle.ipnet_lists.specs.Lists.{after_mark, ListEntry, AreRead, AreContents}
use Rattle.ipnet_lists.specs.Reading.{Adds, ReadsLines, pending, IsBegun, TakesLines, WasMadeOf, at_first_line}
use Rattle.ipnet_lists.specs.RefusedLines.{HasMore}
use Rattle.ipnet_lists.proofs.ListReading.{reads_none, reads_more}

-- ---- what is pending

pub spilled : (carry held new_carry new_held : List ℕ) (n : ℕ) → new_carry ≡ carry ++ held → length held ≡ n
    → new_held ≡ drop n held → new_carry ++ new_held ≡ carry ++ held
spilled carry held new_carry new_held n is full rest =
    ap (λ z. new_carry ++ z) (rest ∙ drop_of_length-le held (omega (arith, full))) ∙ append-nil new_carry ∙ is

-- what was carried and the front of what is held was taken
pub both_taken : (carry held front new_carry new_held : List ℕ) (n : ℕ) → front ≡ carry ++ take n held
    → new_carry ≡ [] → new_held ≡ drop n held → carry ++ held ≡ front ++ (new_carry ++ new_held)
both_taken carry held front new_carry new_held n is none rest =
    rw (none, is) (ap (λ z. carry ++ z) (sym (take-append-drop n held) ∙ ap (λ z. take n held ++ z) (sym rest))
    ∙ sym (append_assoc carry (take n held) new_held))

-- complete lines that were taken while more may come are some bytes
pub some_taken : (bytes shown : List ℕ) (count : ℕ) (more : Bool) → shown ≡ bytes → count ≤ length shown
    → ((count ≡ 0) × (more ≡ false)) ⊎ (count ≢ 0) → more ≡ true → 0 < length (take count bytes)
some_taken bytes shown count more is most (inl (none, over)) e = let clash : true ≡ false = sym e ∙ over in absurd cc
some_taken bytes shown zero more is most (inr some) e = absurd (some refl)
some_taken bytes shown (suc n) more is most (inr some) e =
    omega (arith, most, ap length is, length-take (suc n) bytes)

-- if no more may come, all bytes were taken
pub nothing_left : (bytes shown new_carry new_held : List ℕ) (count : ℕ) → shown ≡ bytes → count ≡ length shown
    → new_carry ≡ [] → new_held ≡ drop count bytes → new_carry ++ new_held ≡ []
nothing_left bytes shown new_carry new_held count is all none rest =
    rw (none, rest) (drop_of_length-le bytes (omega (arith, all, ap length is)))

-- ---- a list up to what is pending

-- the lines of the front of a list were read, behind a byte order mark if it has one
pub record IsListUpTo (more : Bool) (left left_now : Option (List ℕ)) (start : LineReader) (now : Reading)
    (IsMade IsMadeNow : List ListEntry → Type 0) : Type 0 where
  pub mark : List ℕ
  pub front : List ℕ
  pub read : Consumes left left_now (mark ++ (front ++ pending now))
  pub closed : IsClosed front
  pub past : (rest : List ℕ) → (more ≡ false → rest ≡ []) → after_mark (mark ++ ((front ++ pending now) ++ rest))
      ≡ (front ++ pending now) ++ rest
  pub end : more ≡ false → IsAtEnd left_now
  pub lines : ReadsLines start now.lines (lines_of front) IsMade IsMadeNow

-- a list that was begun
pub up_to_begin : (more : Bool) (left left_now : Option (List ℕ)) (old now : Reading)
    (IsMade : List ListEntry → Type 0) → IsBegun more left left_now old now
    → IsListUpTo more left left_now (at_first_line old.lines) now IsMade IsMade
up_to_begin more left left_now old now IsMade h =
    let is : pending now ≡ held now.window = ap (λ z. z ++ held now.window) h.none in
    record {
      mark = h.past.mark;
      front = [];
      read = rw is h.past.read;
      closed = λ rest. refl;
      past = λ rest over. rw is (h.past.past rest over);
      end = h.past.end;
      lines = rw h.lines (reads_none (at_first_line old.lines) IsMade);
    }

-- and more lines, while more bytes may come
pub up_to_lines : (left left_now : Option (List ℕ)) (start : LineReader) (now next : Reading)
    (IsMade IsMadeThen IsMadeNow : List ListEntry → Type 0)
    → IsListUpTo true left left_now start now IsMade IsMadeThen → TakesLines true now next IsMadeThen IsMadeNow
    → IsListUpTo true left left_now start next IsMade IsMadeNow
up_to_lines left left_now start now next IsMade IsMadeThen IsMadeNow h t =
    let is : h.front ++ pending now ≡ (h.front ++ t.front) ++ pending next =
    ap (λ z. h.front ++ z) t.is ∙ sym (append_assoc h.front t.front (pending next)) in
    record {
      mark = h.mark;
      front = h.front ++ t.front;
      read = subst (λ z. Consumes left left_now (h.mark ++ z)) is h.read;
      closed = closed_append h.front t.front h.closed (t.closed refl);
      past = λ rest over. subst (λ z. after_mark (h.mark ++ (z ++ rest)) ≡ z ++ rest) is (h.past rest over);
      end = h.end;
      lines = subst (λ ls. ReadsLines start next.lines ls IsMade IsMadeNow) (sym (h.closed t.front))
          (reads_more start now.lines next.lines (lines_of h.front) (lines_of t.front) IsMade IsMadeThen IsMadeNow
          h.lines t.lines);
    }

-- and more bytes, none of whose lines were read
pub up_to_bytes : (more : Bool) (a b c : Option (List ℕ)) (start : LineReader) (now next : Reading) (given : List ℕ)
    (IsMade IsMadeNow : List ListEntry → Type 0) → IsListUpTo true a b start now IsMade IsMadeNow
    → pending next ≡ pending now ++ given → next.lines ≡ now.lines → Consumes b c given → (more ≡ false → IsAtEnd c)
    → IsListUpTo more a c start next IsMade IsMadeNow
up_to_bytes more a b c start now next given IsMade IsMadeNow h is same more_read end =
    let all : (h.front ++ pending now) ++ given ≡ h.front ++ pending next =
    append_assoc h.front (pending now) given ∙ ap (λ z. h.front ++ z) (sym is) in
    record {
      mark = h.mark;
      front = h.front;
      read = subst (Consumes a c)
          (append_assoc h.mark (h.front ++ pending now) given ∙ ap (λ z. h.mark ++ z) all)
          (Consumes-trans a b c (h.mark ++ (h.front ++ pending now)) given h.read more_read);
      closed = h.closed;
      past = λ rest over. subst (λ z. after_mark (h.mark ++ z) ≡ z)
          (sym (append_assoc (h.front ++ pending now) given rest) ∙ ap (λ z. z ++ rest) all)
          (h.past (given ++ rest) (λ e. let clash : true ≡ false = e in absurd cc));
      end = end;
      lines = rw same h.lines;
    }

-- the last lines were read, and with them the whole list
pub up_to_whole : (left left_now : Option (List ℕ)) (start : LineReader) (old now next end : Reading)
    (IsMade IsMadeThen IsMadeNow : List ListEntry → Type 0) → start.grammar ≡ old.lines.grammar
    → start.list ≡ old.lines.list → start.line ≡ 0 → start.refused ≡ old.lines.refused
    → IsListUpTo false left left_now start now IsMade IsMadeThen → TakesLines false now next IsMadeThen IsMadeNow
    → end.lines.list ≡ next.lines.list + 1 → end.lines.grammar ≡ next.lines.grammar
    → end.lines.refused ≡ next.lines.refused → start.has_entry ≡ false → end.lines.has_entry ≡ next.lines.has_entry
    → WasMadeOf left left_now old end (Adds IsMade IsMadeNow)
up_to_whole left left_now start old now next end IsMade IsMadeThen IsMadeNow grammar list line refused h t place
    same_grammar same_refused none same_entry =
    let all : pending now ≡ t.front = t.is ∙ ap (λ z. t.front ++ z) (t.all refl) ∙ append-nil t.front in
    let both = reads_more start now.lines next.lines (lines_of h.front) (lines_of t.front) IsMade IsMadeThen IsMadeNow
    h.lines t.lines in
    let (texts, are, lines) = both in
    let bytes = h.mark ++ (h.front ++ pending now) in
    let body : after_mark bytes ≡ h.front ++ pending now =
    subst (λ z. after_mark (h.mark ++ z) ≡ z) (append-nil (h.front ++ pending now)) (h.past [] (λ e. refl)) in
    let cut : lines_of (after_mark bytes) ≡ lines_of h.front ++ lines_of t.front =
    ap lines_of (body ∙ ap (λ z. h.front ++ z) all) ∙ h.closed t.front in
    let whole : AreRead start.grammar start.list (start.line + 1) (texts ++ []) (lines.entries ++ [])
    (lines.refusals ++ []) = lines.read [] [] [] (refl, refl) in
    record {
      bytes = bytes;
      given = record { given = h.read; whole = h.end refl };
      entries = lines.entries;
      refusals = lines.refusals;
      read = (
        texts,
        subst (λ ls. AreContents ls texts) (sym cut) are,
        subst (λ g. AreRead g old.lines.list 1 texts lines.entries lines.refusals) grammar
            (subst (λ n. AreRead start.grammar n 1 texts lines.entries lines.refusals) list
            (subst (λ n. AreRead start.grammar start.list (n + 1) texts lines.entries lines.refusals) line
            (subst (λ rs. AreRead start.grammar start.list (start.line + 1) texts lines.entries rs)
            (append-nil lines.refusals)
            (subst (λ es. AreRead start.grammar start.list (start.line + 1) texts es (lines.refusals ++ []))
            (append-nil lines.entries)
            (subst (λ ts. AreRead start.grammar start.list (start.line + 1) ts (lines.entries ++ [])
            (lines.refusals ++ [])) (append-nil texts) whole))))),
      );
      added = subst (λ r. HasMore r end.lines.refused lines.refusals) refused
          (subst (λ r. HasMore start.refused r lines.refusals) (sym same_refused) lines.added);
      same_grammar = same_grammar ∙ lines.same_grammar ∙ grammar;
      next = place ∙ ap (λ n. n + 1) (lines.same_list ∙ list);
      made = lines.made;
      noted = (
        λ t. elim (lines.notes.found (sym same_entry ∙ t)) [
          | inl before ↦ let clash : true ≡ false = sym before ∙ none in absurd cc
          | inr some ↦ some
        ],
        λ some. same_entry ∙ lines.notes.noted some,
      );
    }
