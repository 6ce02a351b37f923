-- The lines of a list that are not empty, as they are taken one after another, and what is read of each.
use Rattle.std.proofs.Common.{◌≡◌, ◌↔◌, ℕ, ◌+◌, ◌<◌, List, [], ◌∷◌, ◌++◌, length, All, Any}
use Rattle.std.proofs.Common.{refl, sym, ap, ◌∙◌, subst, arith, inl, inr, append_assoc, append-nil}
use Rattle.std.proofs.lemmas.List.Elements.{All-nil, All-cons}
use Rattle.ipnet.specs.Lines.{lines_of}
use Rattle.ipnet_sets.proofs.SetRangeLaws.{any_cases, any_there}
use Rattle.ipnet_lists.specs.declared.refused.Refusals.{Refusals}
use Rattle.ipnet_lists.specs.ContentLines.{ContentLine, IsSomeLine, AreItems, IsItemList, AreTaken}
use Rattle.ipnet_lists.specs.ContentLines.{IsTakenList, AddsTaken, TakesUnbroken, refused_line}
use Rattle.ipnet_lists.specs.Lists.{IsContents, AreContents, RefusalFor}
use Rattle.ipnet_lists.specs.RefusedLines.{AreRefused, HasMore}
use Rattle.ipnet_lists.proofs.OneReading.{one_contents}
use Rattle.ipnet_lists.proofs.RefusalLaws.{HasMore-nil, more_refused}

-- an empty line has no contents
pub skip_empty : (line text : List ℕ) (lines : List (List ℕ)) → IsContents line text → text ≡ []
    → Any IsSomeLine (line ∷ lines) ↔ Any IsSomeLine lines
skip_empty line text lines is none = (
  λ any. elim (any_cases IsSomeLine line lines any) [
    | inl (other, also, some) ↦ absurd (some (one_contents line other text also is ∙ none))
    | inr later ↦ later
  ],
  any_there IsSomeLine line lines,
)

-- ---- one line is taken

module _ {M C : Type 0} (Takes : ContentLine → M → M → Type 0) (IsCause : List ℕ → C → Type 0) where
  some_taken : (number : ℕ) (text : List ℕ) (old new : M) → 0 < length text
      → TakesUnbroken Takes (record { number = number; text = text }) old new
      → AreTaken Takes IsCause number (text ∷ []) old new []
  some_taken number [] old new some takes = absurd (omega (arith, some))
  some_taken number (b ∷ text) old new some takes = inl (new, takes, (refl, refl))

  pub adds_none : (line : ContentLine) (made : M) (refused : Refusals C) → line.text ≡ []
      → AddsTaken Takes IsCause line made made refused refused
  adds_none line made refused none = (
    [],
    subst (λ text. AreTaken Takes IsCause line.number (text ∷ []) made made []) (sym none) (refl, refl),
    HasMore-nil refused refused.few,
  )

  pub adds_taken : (line : ContentLine) (old new : M) (refused : Refusals C) → 0 < length line.text
      → TakesUnbroken Takes line old new → AddsTaken Takes IsCause line old new refused refused
  adds_taken line old new refused some takes =
      ([], some_taken line.number line.text old new some takes, HasMore-nil refused refused.few)

  some_refused : (number : ℕ) (text : List ℕ) (made : M) (cause : C) → 0 < length text → IsCause text cause
      → AreTaken Takes IsCause number (text ∷ []) made made
      (refused_line (record { number = number; text = text }) cause ∷ [])
  some_refused number [] made cause some is = absurd (omega (arith, some))
  some_refused number (b ∷ text) made cause some is =
      inr ([], record { cause = cause; reported = is; next = refl }, (refl, refl))

  pub adds_refused : (line : ContentLine) (old new : M) (cause : C) (refused refused_after : Refusals C)
      → 0 < length line.text → IsCause line.text cause → new ≡ old
      → HasMore refused refused_after (refused_line line cause ∷ [])
      → AddsTaken Takes IsCause line old new refused refused_after
  adds_refused line old new cause refused refused_after some is same more = (
    refused_line line cause ∷ [],
    subst (λ z. AreTaken Takes IsCause line.number (line.text ∷ []) old z (refused_line line cause ∷ [])) (sym same)
        (some_refused line.number line.text old cause some is),
    more,
  )

  -- the line and those after it
  taken_cons : (number : ℕ) (text : List ℕ) (texts : List (List ℕ)) (old mid new : M)
      (refused more : List (RefusalFor C))
      → AreTaken Takes IsCause number (text ∷ []) old mid refused
      → AreTaken Takes IsCause (number + 1) texts mid new more
      → AreTaken Takes IsCause number (text ∷ texts) old new (refused ++ more)
  taken_cons number [] texts old mid new refused more (same, none) h =
      subst (λ z. AreTaken Takes IsCause (number + 1) texts old new (z ++ more)) (sym none)
      (subst (λ z. AreTaken Takes IsCause (number + 1) texts z new more) same h)
  taken_cons number (b ∷ text) texts old mid new refused more (inl (made, takes, (same, none))) h =
      inl (
        mid,
        subst (TakesUnbroken Takes (record { number = number; text = b ∷ text }) old) (sym same) takes,
        subst (λ z. AreTaken Takes IsCause (number + 1) texts mid new (z ++ more)) (sym none) h,
      )
  taken_cons number (b ∷ text) texts old mid new refused more (inr (rest, next, (same, none))) h =
      inr (
        rest ++ more,
        record { cause = next.cause; reported = next.reported; next = ap (λ z. z ++ more) next.next },
        subst (λ z. AreTaken Takes IsCause (number + 1) texts old new (z ++ more)) (sym none)
            (subst (λ z. AreTaken Takes IsCause (number + 1) texts z new more) same h),
      )

  -- the lines of these bytes, which follow `number` lines, are taken
  abbrev pub AreTakenAfter : ℕ → List ℕ → M → M → List (RefusalFor C) → Type 0
  AreTakenAfter number bytes old new refused = (texts : List (List ℕ)) × AreContents (lines_of bytes) texts
      × AreTaken Takes IsCause (number + 1) texts old new refused

-- the lines before the rest of the bytes are taken, whatever the rest is
pub record AreTakenBefore {M C : Type 0} (Takes : ContentLine → M → M → Type 0) (IsCause : List ℕ → C → Type 0)
    (bytes : List ℕ) (old : M) (number : ℕ) (rest : List ℕ) (made : M) (refused : Refusals C) : Type 0 where
  pub refusals : List (RefusalFor C)
  pub kept : AreRefused refused refusals
  pub whole : (new : M) (more : List (RefusalFor C)) → AreTakenAfter Takes IsCause number rest made new more
      → AreTakenAfter Takes IsCause 0 bytes old new (refusals ++ more)

module _ {M C : Type 0} (Takes : ContentLine → M → M → Type 0) (IsCause : List ℕ → C → Type 0) (bytes : List ℕ)
    (old : M) where
  pub before_start : (refused : Refusals C) → AreRefused refused []
      → AreTakenBefore Takes IsCause bytes old 0 bytes old refused
  before_start refused none = record { refusals = []; kept = none; whole = λ new more h. h }

  pub before_more : (number next : ℕ) (rest line text after : List ℕ) (made mid : M)
      (refused refused_after : Refusals C)
      → AreTakenBefore Takes IsCause bytes old number rest made refused → lines_of rest ≡ line ∷ lines_of after
      → next ≡ number + 1 → IsContents line text
      → AddsTaken Takes IsCause (record { number = next; text = text }) made mid refused refused_after
      → AreTakenBefore Takes IsCause bytes old next after mid refused_after
  before_more number next rest line text after made mid refused refused_after h cut is contents (one, taken, has) =
      record {
        refusals = h.refusals ++ one;
        kept = more_refused refused refused_after h.refusals one h.kept has;
        whole = λ new more (texts, are, later).
            subst (AreTakenAfter Takes IsCause 0 bytes old new) (sym (append_assoc h.refusals one more))
            (h.whole new (one ++ more) (
              text ∷ texts,
              subst (λ ls. AreContents ls (text ∷ texts)) (sym cut) (text, texts, refl, contents, are),
              taken_cons Takes IsCause (number + 1) text texts made mid new one more
                  (subst (λ n. AreTaken Takes IsCause n (text ∷ []) made mid one) is taken)
                  (subst (λ n. AreTaken Takes IsCause (n + 1) texts mid new more) is later),
            ));
      }

  pub before_end : (number : ℕ) (made : M) (refused : Refusals C)
      → (h : AreTakenBefore Takes IsCause bytes old number [] made refused)
      → AreTakenAfter Takes IsCause 0 bytes old made h.refusals
  before_end number made refused h =
      subst (AreTakenAfter Takes IsCause 0 bytes old made) (append-nil h.refusals)
      (h.whole made [] ([], refl, (refl, refl)))

-- ---- what the lines are

module _ {T C : Type 0} (Is : ContentLine → T → Type 0) (IsCause : List ℕ → C → Type 0) where
  -- if each line that is taken adds an item to those that a value has, the lines are these items
  pub items_taken : {M : Type 0} (Takes : ContentLine → M → M → Type 0) (Has : M → List T → Type 0)
      → ((line : ContentLine) (old new : M) → Takes line old new
      → (item : T) × Is line item × ((items : List T) → Has old items → Has new (items ++ item ∷ [])))
      → (number : ℕ) (texts : List (List ℕ)) (old new : M) (refused : List (RefusalFor C)) (before : List T)
      → AreTaken Takes IsCause number texts old new refused → Has old before
      → (items : List T) × AreItems Is IsCause number texts items refused × Has new (before ++ items)
  items_taken Takes Has each number [] old new refused before (same, none) h =
      ([], (refl, none), subst (Has new) (sym (append-nil before)) (subst (λ z. Has z before) (sym same) h))
  items_taken Takes Has each number ([] ∷ texts) old new refused before taken h =
      items_taken Takes Has each (number + 1) texts old new refused before taken h
  items_taken Takes Has each number ((b ∷ text) ∷ texts) old new refused before (inl (mid, takes, taken)) h =
      let (item, is, adds) = each (record { number = number; text = b ∷ text }) old mid takes.1 in
      let (items, are, has) = items_taken Takes Has each (number + 1) texts mid new refused (before ++ item ∷ []) taken
      (adds before h) in (
        item ∷ items,
        inl (items, record { unbroken = takes.0; item = item; is = is; next = refl }, are),
        subst (Has new) (append_assoc before (item ∷ []) items) has,
      )
  items_taken Takes Has each number ((b ∷ text) ∷ texts) old new refused before (inr (more, next, taken)) h =
      let (items, are, has) = items_taken Takes Has each (number + 1) texts old new more before taken h in
      (items, inr (more, next, are), has)

  pub list_taken : {M : Type 0} (Takes : ContentLine → M → M → Type 0) (Has : M → List T → Type 0)
      → ((line : ContentLine) (old new : M) → Takes line old new
      → (item : T) × Is line item × ((items : List T) → Has old items → Has new (items ++ item ∷ [])))
      → (bytes : List ℕ) (old new : M) (refused : List (RefusalFor C)) → Has old []
      → IsTakenList Takes IsCause bytes old new refused
      → (items : List T) × IsItemList Is IsCause bytes items refused × Has new items
  list_taken Takes Has each bytes old new refused none (texts, contents, taken) =
      let (items, are, has) = items_taken Takes Has each 1 texts old new refused [] taken none in
      (items, (texts, contents, are), has)

  -- each item is what some line is
  pub items_all : (P : T → Type 0) → ((line : ContentLine) (item : T) → Is line item → P item)
      → (number : ℕ) (texts : List (List ℕ)) (items : List T) (refused : List (RefusalFor C))
      → AreItems Is IsCause number texts items refused → All P items
  items_all P each number [] items refused h = subst (All P) (sym h.0) (All-nil P)
  items_all P each number ([] ∷ texts) items refused h = items_all P each (number + 1) texts items refused h
  items_all P each number ((b ∷ text) ∷ texts) items refused (inl (more, next, h)) =
      subst (All P) (sym next.next)
      (All-cons P next.item more (each (record { number = number; text = b ∷ text }) next.item next.is)
      (items_all P each (number + 1) texts more refused h))
  items_all P each number ((b ∷ text) ∷ texts) items refused (inr (more, next, h)) =
      items_all P each (number + 1) texts items more h

  -- by relations that say the same
  pub items_same : (Other : ContentLine → T → Type 0) (OtherCause : List ℕ → C → Type 0)
      → ((line : ContentLine) (item : T) → Is line item → Other line item)
      → ((text : List ℕ) (cause : C) → IsCause text cause → OtherCause text cause)
      → (number : ℕ) (texts : List (List ℕ)) (items : List T) (refused : List (RefusalFor C))
      → AreItems Is IsCause number texts items refused → AreItems Other OtherCause number texts items refused
  items_same Other OtherCause f g number [] items refused h = h
  items_same Other OtherCause f g number ([] ∷ texts) items refused h =
      items_same Other OtherCause f g (number + 1) texts items refused h
  items_same Other OtherCause f g number ((b ∷ text) ∷ texts) items refused (inl (more, next, h)) =
      inl (
        more,
        record {
          unbroken = next.unbroken;
          item = next.item;
          is = f (record { number = number; text = b ∷ text }) next.item next.is;
          next = next.next;
        },
        items_same Other OtherCause f g (number + 1) texts more refused h,
      )
  items_same Other OtherCause f g number ((b ∷ text) ∷ texts) items refused (inr (more, next, h)) =
      inr (
        more,
        record { cause = next.cause; reported = g (b ∷ text) next.cause next.reported; next = next.next },
        items_same Other OtherCause f g (number + 1) texts items more h,
      )
