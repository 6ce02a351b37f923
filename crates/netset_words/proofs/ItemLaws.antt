-- The items of a line, one after another.
use Rattle.std.proofs.Common.{◌≡◌, ℕ, Bool, true, false, List, [], ◌∷◌, ◌++◌, refl, sym}
use Rattle.std.proofs.Common.{ap, ◌∙◌, subst, append_assoc, append-nil, Some, None, ◌⊎◌, inl, inr}
use Rattle.std.proofs.Common.{Bor}
use Rattle.netset_words.specs.declared.item.ExtractRequest.{ExtractRequest}
use Rattle.netset_words.specs.declared.item.Kind.TheVariants as Kinds
use Rattle.netset_words.specs.declared.line_items.LineState.{LineState}
use Rattle.netset_words.specs.Extracts.{text_of_texts}
use Rattle.netset_words.specs.ExtractSteps.{IsLineUpTo, is_some}
use Rattle.netset_words.specs.Items.{Item, AreItems, IsNextItem, entry_texts, mask_texts, if_entry, if_mask, wanted}
use Rattle.netset_words.specs.Words.{words_of}

-- ---- texts of several items

pub text_append : (a b : List (List ℕ)) → text_of_texts (a ++ b) ≡ text_of_texts a ++ text_of_texts b
text_append [] b = refl
text_append (t ∷ a) b =
    ap (λ z. t ++ 10 ∷ z) (text_append a b) ∙ sym (append_assoc t (10 ∷ text_of_texts a) (text_of_texts b))

entries_append : (a b : List Item) → entry_texts (a ++ b) ≡ entry_texts a ++ entry_texts b
entries_append [] b = refl
entries_append (i ∷ a) b =
    ap (λ z. if_entry i.kind i.text ++ z) (entries_append a b)
    ∙ sym (append_assoc (if_entry i.kind i.text) (entry_texts a) (entry_texts b))

masks_append : (a b : List Item) → mask_texts (a ++ b) ≡ mask_texts a ++ mask_texts b
masks_append [] b = refl
masks_append (i ∷ a) b =
    ap (λ z. if_mask i.kind i.text ++ z) (masks_append a b)
    ∙ sym (append_assoc (if_mask i.kind i.text) (mask_texts a) (mask_texts b))

-- one item more
entries_more : (items : List Item) (i : Item)
    → entry_texts (items ++ i ∷ []) ≡ entry_texts items ++ if_entry i.kind i.text
entries_more items i =
    entries_append items (i ∷ []) ∙ ap (λ z. entry_texts items ++ z) (append-nil (if_entry i.kind i.text))

masks_more : (items : List Item) (i : Item)
    → mask_texts (items ++ i ∷ []) ≡ mask_texts items ++ if_mask i.kind i.text
masks_more items i =
    masks_append items (i ∷ []) ∙ ap (λ z. mask_texts items ++ z) (append-nil (if_mask i.kind i.text))

-- ---- the entries that are wanted

wanted_more : (first : Bool) (es : List (List ℕ)) (t : List ℕ) → (first ≡ false) ⊎ (is_some es ≡ false)
    → wanted first (es ++ t ∷ []) ≡ wanted first es ++ t ∷ []
wanted_more false es t one = refl
wanted_more true [] t one = refl
wanted_more true (e ∷ es) t (inl other) = absurd cc
wanted_more true (e ∷ es) t (inr other) = absurd cc

wanted_full : (first : Bool) (es : List (List ℕ)) (t : List ℕ) → first ≡ true → is_some es ≡ true
    → wanted first (es ++ t ∷ []) ≡ wanted first es
wanted_full true [] t is some = absurd cc
wanted_full true (e ∷ es) t is some = refl
wanted_full false es t is some = absurd cc

some_more : (es : List (List ℕ)) (t : List ℕ) → is_some (es ++ t ∷ []) ≡ true
some_more [] t = refl
some_more (e ∷ es) t = refl

-- ---- one item more

module _ (how : ExtractRequest) (base answer : List ℕ) (items : List Item) (state : LineState) (i : Item)
    (h : IsLineUpTo how base items answer state) where
  -- an entry that is wanted
  pub entry_wanted : (new : List ℕ) (after : LineState) → i.kind ≡ Kinds.Entry
      → (how.first ≡ false) ⊎ (state.has_entry ≡ false) → new ≡ (answer ++ i.text) ++ 10 ∷ []
      → after.has_entry ≡ true → after.mask ≡ state.mask → IsLineUpTo how base (items ++ i ∷ []) new after
  entry_wanted new after kind room is noted same =
      let es = entry_texts items in
      let all : entry_texts (items ++ i ∷ []) ≡ es ++ i.text ∷ [] =
      entries_more items i ∙ ap (λ k. es ++ if_entry k i.text) kind in
      let room_left : (how.first ≡ false) ⊎ (is_some es ≡ false) =
      elim room [ inl all ↦ inl all | inr none ↦ inr (sym h.entry ∙ none) ] in
      let masks : mask_texts (items ++ i ∷ []) ≡ mask_texts items =
      masks_more items i ∙ ap (λ k. mask_texts items ++ if_mask k i.text) kind ∙ append-nil (mask_texts items) in
      record {
        text = is ∙ append_assoc answer i.text (10 ∷ []) ∙ ap (λ z. z ++ (i.text ++ 10 ∷ [])) h.text
            ∙ append_assoc base (text_of_texts (wanted how.first es)) (i.text ++ 10 ∷ [])
            ∙ ap (λ z. base ++ z) (sym (text_append (wanted how.first es) (i.text ∷ []))
            ∙ ap text_of_texts (sym (wanted_more how.first es i.text room_left) ∙ ap (wanted how.first) (sym all)));
        entry = noted ∙ sym (some_more es i.text) ∙ ap is_some (sym all);
        mask = rw (masks, same) h.mask;
      }

  -- an entry after the only one that is wanted
  pub entry_unwanted : (after : LineState) → i.kind ≡ Kinds.Entry → how.first ≡ true → state.has_entry ≡ true
      → after.has_entry ≡ true → after.mask ≡ state.mask → IsLineUpTo how base (items ++ i ∷ []) answer after
  entry_unwanted after kind only some noted same =
      let es = entry_texts items in
      let all : entry_texts (items ++ i ∷ []) ≡ es ++ i.text ∷ [] =
      entries_more items i ∙ ap (λ k. es ++ if_entry k i.text) kind in
      let masks : mask_texts (items ++ i ∷ []) ≡ mask_texts items =
      masks_more items i ∙ ap (λ k. mask_texts items ++ if_mask k i.text) kind ∙ append-nil (mask_texts items) in
      record {
        text = h.text ∙ ap (λ z. base ++ text_of_texts z) (sym (wanted_full how.first es i.text only
            (sym h.entry ∙ some))
            ∙ ap (wanted how.first) (sym all));
        entry = noted ∙ sym (some_more es i.text) ∙ ap is_some (sym all);
        mask = rw (masks, same) h.mask;
      }

  -- something else
  same_entries : (if_entry i.kind i.text ≡ []) → entry_texts (items ++ i ∷ []) ≡ entry_texts items
  same_entries none = entries_more items i ∙ ap (λ z. entry_texts items ++ z) none ∙ append-nil (entry_texts items)

  pub other_item : i.kind ≡ Kinds.Other → IsLineUpTo how base (items ++ i ∷ []) answer state
  other_item kind =
      let entries = same_entries (ap (λ k. if_entry k i.text) kind) in
      let masks : mask_texts (items ++ i ∷ []) ≡ mask_texts items =
      masks_more items i ∙ ap (λ k. mask_texts items ++ if_mask k i.text) kind ∙ append-nil (mask_texts items) in
      record { text = rw entries h.text; entry = rw entries h.entry; mask = rw masks h.mask }

  -- a netmask after another
  pub later_mask : (m : Bor (List ℕ)) → i.kind ≡ Kinds.Mask → state.mask ≡ Some m
      → IsLineUpTo how base (items ++ i ∷ []) answer state
  later_mask m kind is =
      let entries = same_entries (ap (λ k. if_entry k i.text) kind) in
      let masks : mask_texts (items ++ i ∷ []) ≡ mask_texts items ++ i.text ∷ [] =
      masks_more items i ∙ ap (λ k. mask_texts items ++ if_mask k i.text) kind in
      let (more, first) = rw is at h.mask in
      record {
        text = rw entries h.text;
        entry = rw entries h.entry;
        mask = rw (masks, is) (more ++ i.text ∷ [], ap (λ z. z ++ i.text ∷ []) first);
      }

  -- the first netmask
  pub first_mask : (after : LineState) (m : Bor (List ℕ)) → i.kind ≡ Kinds.Mask → state.mask ≡ None
      → m.now ≡ i.text → after.has_entry ≡ state.has_entry → after.mask ≡ Some m
      → IsLineUpTo how base (items ++ i ∷ []) answer after
  first_mask after m kind none is noted found =
      let entries = same_entries (ap (λ k. if_entry k i.text) kind) in
      let masks : mask_texts (items ++ i ∷ []) ≡ mask_texts items ++ i.text ∷ [] =
      masks_more items i ∙ ap (λ k. mask_texts items ++ if_mask k i.text) kind in
      let no_mask : mask_texts items ≡ [] = rw none at h.mask in
      record {
        text = rw entries h.text;
        entry = noted ∙ rw entries h.entry;
        mask = rw (masks, found) ([], ap (λ z. z ++ i.text ∷ []) no_mask ∙ ap (λ z. z ∷ []) (sym is));
      }

-- ---- the items of a line up to a rest of it

pub record IsItemsUpTo (how : ExtractRequest) (line rest base answer : List ℕ) (state : LineState) : Type 0 where
  pub items : List Item
  pub are : (later : List Item) → AreItems how (words_of rest) later → AreItems how (words_of line) (items ++ later)
  pub up_to : IsLineUpTo how base items answer state

pub item_more : (how : ExtractRequest) (line rest after base answer new : List ℕ) (state next : LineState) (i : Item)
    → (h : IsItemsUpTo how line rest base answer state) → IsNextItem how (words_of rest) i (words_of after)
    → IsLineUpTo how base (h.items ++ i ∷ []) new next → IsItemsUpTo how line after base new next
item_more how line rest after base answer new state next i h is up_to = record {
  items = h.items ++ i ∷ [];
  are = λ later k. subst (AreItems how (words_of line)) (sym (append_assoc h.items (i ∷ []) later))
      (h.are (i ∷ later) (words_of after, is, k));
  up_to = up_to;
}

pub all_items : (how : ExtractRequest) (line rest base answer : List ℕ) (state : LineState)
    → IsItemsUpTo how line rest base answer state → words_of rest ≡ []
    → (items : List Item) × AreItems how (words_of line) items × IsLineUpTo how base items answer state
all_items how line rest base answer state h none =
    (h.items, subst (AreItems how (words_of line)) (append-nil h.items) (h.are [] none), h.up_to)
