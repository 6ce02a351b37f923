-- Reports that are written part by part: what is written after some parts, and what after a front of the next.
use Rattle.std.proofs.Common.{◌≡◌, ◌≢◌, ◌+◌, ◌-◌, ℕ, List, [], ◌∷◌, ◌++◌, length, take, drop, map, refl, sym, ap, ◌∙◌}
use Rattle.std.proofs.Common.{subst, arith, codes, decimal, zero, suc}
use Rattle.std.proofs.Common.{append_assoc, append-nil, take-append-drop, take_all, flat_map, ap₂, Option, inl, inr}
use Rattle.std.specs.Io.{StartsWith}
use Rattle.std.specs.Io.KnownBytes.{Appends}
use Rattle.std.proofs.KnownBytes.{Appends-trans, Appends-nil, starts_with_rest}
use Rattle.std.proofs.lemmas.Grind.{flat_map-append}
use Rattle.std.proofs.lemmas.List.{drop-map, take_at, length-map}
use Rattle.ipnet_text.specs.Outputs.{IsWritten, IsFrontWritten}
use Rattle.ipnet_text.proofs.WritingLaws.{front_written, whole_front}
use Rattle.ipnet_lists.specs.declared.refused.Refused.{Refused}
use Rattle.ipnet_lists.specs.declared.refused.Refusals.{Refusals}
use Rattle.ipnet_lists.specs.Lists.{RefusalFor}
use Rattle.ipnet_lists.specs.Names.{Names, name_at}
use Rattle.ipnet_lists.specs.RefusedLines.{refusal_of}
use Rattle.ipnet_lists.specs.Reports.{IsReportOf, AreReported, AreFirstReported, IsReport, IsReportBegun}
use Rattle.ipnet_lists.specs.Reports.{OfNew, new_refusals, more_refusals, count_line, more_line}
use Rattle.ipnet_lists.specs.Reports.{report_line, escaped, dots_after, reason_text, most_text}

-- a front of the text was written
abbrev pub IsFrontOf : List ℕ → Option (List ℕ) → Option (List ℕ) → Type 0
IsFrontOf text a b = (front : List ℕ) × StartsWith text front × Appends a b front

-- a front of the second text, after the first text
pub front_after : (done text front : List ℕ) → StartsWith text front → StartsWith (done ++ text) (done ++ front)
front_after done text front begins =
    let rest = drop (length front) text in
    let cut : done ++ text ≡ (done ++ front) ++ rest =
    ap (λ z. done ++ z) (starts_with_rest text front begins) ∙ sym (append_assoc done front rest) in
    ap (take (length (done ++ front))) cut ∙ take_at (done ++ front) rest _ refl

-- a front of the next piece, after what is done
pub front_more : (done piece more whole : List ℕ) (a b c : Option (List ℕ)) → whole ≡ (done ++ piece) ++ more
    → Appends a b done → IsFrontOf piece b c → IsFrontOf whole a c
front_more done piece more whole a b c is written front =
    front_written a b c piece (done ++ piece) more whole (record { done = done; written = written; is = refl }) is front

-- ---- lines

-- the text of the parts of a line
abbrev pub parts_of_line : ℕ → List ℕ → List ℕ → List ℕ → List ℕ → List ℕ → List ℕ
parts_of_line number what name shown dots tail = escaped name ++ (codes ":" ++ (decimal number ++ (codes ": "
    ++ (what ++ (codes ": " ++ (escaped shown ++ (dots ++ tail)))))))

-- the parts of a line are the line
pub line_of_parts : (name named : List ℕ) (number : ℕ) (what text shown dots left because right : List ℕ)
    (why : Option (List ℕ)) → named ≡ name → shown ≡ take most_text text → dots ≡ dots_after text
    → left ++ because ++ right ≡ reason_text why
    → parts_of_line number what named shown dots (left ++ (because ++ (right ++ ((10 ∷ []) ++ []))))
    ≡ report_line name number text what why
line_of_parts name named number what text shown dots left because right why n s d r =
    let end = (10 ∷ []) ++ [] in
    let tail = left ++ (because ++ (right ++ end)) in
    let front = take most_text text in
    let last : tail ≡ reason_text why ++ end =
    sym (append_assoc left because (right ++ end)) ∙ sym (append_assoc (left ++ because) right end)
    ∙ ap (λ z. z ++ end) r in
    ap (λ z. parts_of_line number what z shown dots tail) n
    ∙ ap (λ z. parts_of_line number what name z dots tail) s
    ∙ ap (λ z. parts_of_line number what name front z tail) d
    ∙ ap (parts_of_line number what name front (dots_after text)) last

-- if there are other lines, their number is reported
pub more_is_line : (more : ℕ) → more ≢ 0 → count_line more ≡ more_line more
more_is_line zero ne = absurd (ne refl)
more_is_line (suc more) ne = refl

-- ---- the texts of the elements of a list, one after another

module _ {X : Type 0} (f : X → List ℕ) (xs : List X) (i : ℕ) (x : X) (a b c : Option (List ℕ)) where
  next_text : take (i + 1) xs ≡ take i xs ++ x ∷ [] → flat_map f (take (i + 1) xs) ≡ flat_map f (take i xs) ++ f x
  next_text more = ap (flat_map f) more ∙ flat_map-append f (take i xs) (x ∷ [])
      ∙ ap (λ z. flat_map f (take i xs) ++ z) (append-nil (f x))

  pub some_written : take (i + 1) xs ≡ take i xs ++ x ∷ [] → Appends a b (flat_map f (take i xs)) → Appends b c (f x)
      → Appends a c (flat_map f (take (i + 1) xs))
  some_written more h k =
      subst (Appends a c) (sym (next_text more)) (Appends-trans a b c (flat_map f (take i xs)) (f x) h k)

  pub some_front : take (i + 1) xs ≡ take i xs ++ x ∷ [] → Appends a b (flat_map f (take i xs)) → IsFrontOf (f x) b c
      → IsFrontOf (flat_map f xs) a c
  some_front more h front =
      front_more (flat_map f (take i xs)) (f x) (flat_map f (drop (i + 1) xs)) (flat_map f xs) a b c
      (ap (flat_map f) (sym (take-append-drop (i + 1) xs))
      ∙ flat_map-append f (take (i + 1) xs) (drop (i + 1) xs)
      ∙ ap (λ z. z ++ flat_map f (drop (i + 1) xs)) (next_text more))
      h front

-- ---- refused lines, one after another

module _ {C : Type 0} (Explains : C → List ℕ → List ℕ → Option (List ℕ) → Type 0) (names : Names) where
  module _ (r : RefusalFor C) (name text what : List ℕ) (why : Option (List ℕ)) (a b : Option (List ℕ))
      (named : name ≡ name_at names r.list) (same : text ≡ r.text) (explains : Explains r.cause text what why) where
    abbrev pub line : List ℕ
    line = report_line name r.number text what why

    reports : IsReportOf Explains names r line
    reports = record {
      what = what;
      why = why;
      explains = subst (λ z. Explains r.cause z what why) same explains;
      is = ap₂ (λ n t. report_line n r.number t what why) named same;
    }

    pub one_written : Appends a b line → IsWritten (IsReportOf Explains names r) a b
    one_written written = record { text = line; right = reports; written = written }

    pub one_begun : IsFrontOf line a b → IsFrontWritten (IsReportOf Explains names r) a b
    one_begun (front, begins, written) = record {
      text = line;
      right = reports;
      front = front;
      begins = begins;
      written = written;
    }

  reported_push : (refusals : List (RefusalFor C)) (r : RefusalFor C) (text line : List ℕ)
      → AreReported Explains names refusals text → IsReportOf Explains names r line
      → AreReported Explains names (refusals ++ r ∷ []) (text ++ line)
  reported_push [] r text line is of = (line, [], ap (λ z. z ++ line) is ∙ sym (append-nil line), of, refl)
  reported_push (q ∷ refusals) r text line (first, rest, is, one, others) of = (
    first,
    rest ++ line,
    ap (λ z. z ++ line) is ∙ append_assoc first rest line,
    one,
    reported_push refusals r rest line others of,
  )

  pub lines_written : (refusals : List (RefusalFor C)) (r : RefusalFor C) (a b c : Option (List ℕ))
      → IsWritten (AreReported Explains names refusals) a b → IsWritten (IsReportOf Explains names r) b c
      → IsWritten (AreReported Explains names (refusals ++ r ∷ [])) a c
  lines_written refusals r a b c h k = record {
    text = h.text ++ k.text;
    right = reported_push refusals r h.text k.text h.right k.right;
    written = Appends-trans a b c h.text k.text h.written k.written;
  }

  pub lines_front : (all refusals : List (RefusalFor C)) (r : RefusalFor C) (n : ℕ) (a b c : Option (List ℕ))
      → take n all ≡ refusals ++ r ∷ [] → IsWritten (AreReported Explains names refusals) a b
      → IsFrontWritten (IsReportOf Explains names r) b c → IsFrontWritten (AreFirstReported Explains names all) a c
  lines_front all refusals r n a b c is h k = record {
    text = h.text ++ k.text;
    right = (
      n,
      subst (λ z. AreReported Explains names z (h.text ++ k.text)) (sym is)
          (reported_push refusals r h.text k.text h.right k.right),
    );
    front = h.text ++ k.front;
    begins = front_after h.text k.text k.front k.begins;
    written = Appends-trans a b c h.text k.front h.written k.written;
  }

  pub lines_begun : (all : List (RefusalFor C)) (a b : Option (List ℕ))
      → IsWritten (AreReported Explains names all) a b → IsFrontWritten (AreFirstReported Explains names all) a b
  lines_begun all a b h = record {
    text = h.text;
    right = (
      length all,
      subst (λ z. AreReported Explains names z h.text)
          (sym (take_all (length all) all (omega arith))) h.right,
    );
    front = h.text;
    begins = whole_front h.text;
    written = h.written;
  }

  -- ---- the lines that were not reported before

  module _ (lines : Refusals C) (shown count : ℕ) where
    pub none_written : (Is : List (RefusalFor C) → ℕ → List ℕ → Type 0) (a : Option (List ℕ)) → lines.count ≡ count
        → IsWritten (OfNew Is lines shown count) a a
    none_written Is a same = record { text = []; right = inl (same, refl); written = Appends-nil a }

    pub none_begun : (Is : List (RefusalFor C) → ℕ → List ℕ → Type 0) (a : Option (List ℕ)) → lines.count ≡ count
        → IsFrontWritten (OfNew Is lines shown count) a a
    none_begun Is a same = record {
      text = [];
      right = inl (same, refl);
      front = [];
      begins = refl;
      written = Appends-nil a;
    }

    module _ (new : List (Refused C)) (is : new ≡ drop shown lines.shown.items) (ne : lines.count ≢ count) where
      new_is : map refusal_of new ≡ new_refusals lines shown
      new_is = ap (map refusal_of) is ∙ sym (drop-map refusal_of shown lines.shown.items)

      more_is : (more : ℕ) → more ≡ (lines.count - count) - length new → more ≡ more_refusals lines shown count
      more_is more same = same ∙ ap (λ n. (lines.count - count) - n)
          (sym (length-map new refusal_of) ∙ ap length new_is)

      report_of : (more : ℕ) (text : List ℕ) → more ≡ (lines.count - count) - length new
          → AreReported Explains names (map refusal_of new) text
          → IsReport Explains names (new_refusals lines shown) (more_refusals lines shown count)
          (text ++ more_line more)
      report_of more text same h = record {
        lines = text;
        each = subst (λ z. AreReported Explains names z text) new_is h;
        whole = ap (λ n. text ++ more_line n) (more_is more same);
      }

      pub new_written : (more : ℕ) (a b c : Option (List ℕ)) → more ≡ (lines.count - count) - length new
          → IsWritten (AreReported Explains names (map refusal_of new)) a b → Appends b c (more_line more)
          → IsWritten (OfNew (IsReport Explains names) lines shown count) a c
      new_written more a b c same h k = record {
        text = h.text ++ more_line more;
        right = inr (ne, report_of more h.text same h.right);
        written = Appends-trans a b c h.text (more_line more) h.written k;
      }

      pub new_begun : (a b : Option (List ℕ))
          → IsFrontWritten (AreFirstReported Explains names (map refusal_of new)) a b
          → IsFrontWritten (OfNew (IsReportBegun Explains names) lines shown count) a b
      new_begun a b h = record {
        text = h.text;
        right = inr (ne, inl (subst (λ z. AreFirstReported Explains names z h.text) new_is h.right));
        front = h.front;
        begins = h.begins;
        written = h.written;
      }

      pub more_begun : (more : ℕ) (a b c : Option (List ℕ)) → more ≡ (lines.count - count) - length new
          → IsWritten (AreReported Explains names (map refusal_of new)) a b → IsFrontOf (more_line more) b c
          → IsFrontWritten (OfNew (IsReportBegun Explains names) lines shown count) a c
      more_begun more a b c same h (front, begins, written) = record {
        text = h.text ++ more_line more;
        right = inr (ne, inr (report_of more h.text same h.right));
        front = h.text ++ front;
        begins = front_after h.text (more_line more) front begins;
        written = Appends-trans a b c h.text front h.written written;
      }
