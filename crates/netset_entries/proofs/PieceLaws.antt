-- Lines about entries that are written in pieces.
use Rattle.std.proofs.Common.{◌≡◌, ℕ, ◌+◌, ◌-◌, ◌<◌, List, [], ◌∷◌, ◌++◌, length, map, take, drop, get_or, codes}
use Rattle.std.proofs.Common.{refl, sym, ap, ◌∙◌, Option}
use Rattle.std.proofs.Common.{append_assoc, append-nil, take-append-drop, subst, ◌≤◌}
use Rattle.std.specs.Io.KnownBytes.{Appends, Keeps}
use Rattle.std.proofs.KnownBytes.{Appends-nil, Appends-trans, Appends-kept}
use Rattle.std.proofs.lemmas.List.{map-append, take_all, take_more}
use Rattle.ipnet_text.specs.Pieces.{IsInPieces}
use Rattle.ipnet_text.proofs.WritingLaws.{front_written, all_written, whole_front}
use Rattle.netset_entries.specs.NumberedEntries.{NumberedEntry}
use Rattle.netset_entries.specs.declared.redundancy.Covered.{Covered}
use Rattle.netset_entries.specs.declared.span.Span.{Span}
use Rattle.netset_entries.specs.Covers.{dropped_of}
use Rattle.netset_entries.specs.Spans.{for_family}
use Rattle.netset_entries.specs.EntryTexts.{entry_line_at, IsFront}
use Rattle.netset_entries.specs.Redundancy.{Dropped, witness_lines, dropped_lines}

-- nothing is written yet
pub no_piece : (a : Option (List ℕ)) (piece text : List ℕ) → piece ≡ text → IsInPieces a a piece text
no_piece a piece text same = record { done = []; written = Appends-nil a; is = same }

-- more is put to the piece, and the piece may be written
pub piece_more : (a b c : Option (List ℕ)) (piece mid new text chunk : List ℕ) → IsInPieces a b piece text
    → mid ≡ piece ++ chunk → IsInPieces b c new mid → IsInPieces a c new (text ++ chunk)
piece_more a b c piece mid new text chunk h put k = record {
  done = h.done ++ k.done;
  written = Appends-trans a b c h.done k.done h.written k.written;
  is = append_assoc h.done k.done new ∙ ap (λ z. h.done ++ z) (k.is ∙ put)
      ∙ sym (append_assoc h.done piece chunk) ∙ ap (λ z. z ++ chunk) h.is;
}

-- more is put to the piece
pub piece_put : (a b : Option (List ℕ)) (piece mid text chunk : List ℕ) → IsInPieces a b piece text
    → mid ≡ piece ++ chunk → IsInPieces a b mid (text ++ chunk)
piece_put a b piece mid text chunk h put = record {
  done = h.done;
  written = h.written;
  is = ap (λ z. h.done ++ z) put ∙ sym (append_assoc h.done piece chunk) ∙ ap (λ z. z ++ chunk) h.is;
}

-- a front of the piece is written after it
pub front_after : (a b c : Option (List ℕ)) (piece text more whole : List ℕ) → IsInPieces a b piece text
    → whole ≡ text ++ more → IsFront b c piece → IsFront a c whole
front_after a b c piece text more whole h is front = front_written a b c piece text more whole h is front

-- ---- the lines of a witness

witness_push : (entries : List NumberedEntry) (indexes : List ℕ) (index : ℕ)
    → witness_lines entries (indexes ++ index ∷ [])
    ≡ witness_lines entries indexes ++ (codes "  " ++ entry_line_at entries index)
witness_push entries [] index = ap (λ z. codes "  " ++ z) (append-nil (entry_line_at entries index))
witness_push entries (i ∷ indexes) index =
    ap (λ z. codes "  " ++ (entry_line_at entries i ++ z)) (witness_push entries indexes index)
    ∙ ap (λ z. codes "  " ++ z) (sym (append_assoc (entry_line_at entries i) (witness_lines entries indexes)
    (codes "  " ++ entry_line_at entries index)))

witness_append : (entries : List NumberedEntry) (indexes more : List ℕ)
    → witness_lines entries (indexes ++ more) ≡ witness_lines entries indexes ++ witness_lines entries more
witness_append entries [] more = refl
witness_append entries (i ∷ indexes) more =
    ap (λ z. codes "  " ++ (entry_line_at entries i ++ z)) (witness_append entries indexes more)
    ∙ ap (λ z. codes "  " ++ z) (sym (append_assoc (entry_line_at entries i) (witness_lines entries indexes)
    (witness_lines entries more)))

-- ---- the lines of dropped entries

-- the lines of one of them
abbrev dropped_chunk : List NumberedEntry → Dropped → List ℕ
dropped_chunk entries d = entry_line_at entries d.index ++ witness_lines entries d.witness

dropped_append : (entries : List NumberedEntry) (dropped more : List Dropped)
    → dropped_lines entries (dropped ++ more) ≡ dropped_lines entries dropped ++ dropped_lines entries more
dropped_append entries [] more = refl
dropped_append entries (d ∷ dropped) more =
    ap (λ z. dropped_chunk entries d ++ z) (dropped_append entries dropped more)
    ∙ sym (append_assoc (dropped_chunk entries d) (dropped_lines entries dropped) (dropped_lines entries more))

dropped_one : (entries : List NumberedEntry) (d : Dropped)
    → dropped_lines entries (d ∷ []) ≡ dropped_chunk entries d
dropped_one entries d = append-nil (dropped_chunk entries d)

-- ---- loops over lists

-- the witness of the spans up to one, of that one, and of the rest
pub witness_cut : {X : Type 0} (place : X → ℕ) (entries : List NumberedEntry) (spans : List X) (i : ℕ) (d : X)
    → i < length spans
    → witness_lines entries (map place (take (i + 1) spans))
    ≡ witness_lines entries (map place (take i spans))
    ++ (codes "  " ++ entry_line_at entries (place (get_or spans i d)))
witness_cut place entries spans i d less =
    ap (λ z. witness_lines entries (map place z)) (take_more spans i d less)
    ∙ ap (witness_lines entries) (map-append place (take i spans) (get_or spans i d ∷ []))
    ∙ witness_push entries (map place (take i spans)) (place (get_or spans i d))

pub witness_rest : {X : Type 0} (place : X → ℕ) (entries : List NumberedEntry) (spans : List X) (i : ℕ)
    → witness_lines entries (map place spans)
    ≡ witness_lines entries (map place (take i spans)) ++ witness_lines entries (map place (drop i spans))
witness_rest place entries spans i =
    ap (λ z. witness_lines entries (map place z)) (sym (take-append-drop i spans))
    ∙ ap (witness_lines entries) (map-append place (take i spans) (drop i spans))
    ∙ witness_append entries (map place (take i spans)) (map place (drop i spans))

-- the same of dropped entries
dropped_cut : {X : Type 0} (make : X → Dropped) (entries : List NumberedEntry) (items : List X) (i : ℕ) (d : X)
    → i < length items
    → dropped_lines entries (map make (take (i + 1) items))
    ≡ dropped_lines entries (map make (take i items)) ++ dropped_chunk entries (make (get_or items i d))
dropped_cut make entries items i d less =
    ap (λ z. dropped_lines entries (map make z)) (take_more items i d less)
    ∙ ap (dropped_lines entries) (map-append make (take i items) (get_or items i d ∷ []))
    ∙ dropped_append entries (map make (take i items)) (make (get_or items i d) ∷ [])
    ∙ ap (λ z. dropped_lines entries (map make (take i items)) ++ z) (dropped_one entries (make (get_or items i d)))

dropped_rest : {X : Type 0} (make : X → Dropped) (entries : List NumberedEntry) (items : List X) (i : ℕ)
    → dropped_lines entries (map make items)
    ≡ dropped_lines entries (map make (take i items)) ++ dropped_lines entries (map make (drop i items))
dropped_rest make entries items i =
    ap (λ z. dropped_lines entries (map make z)) (sym (take-append-drop i items))
    ∙ ap (dropped_lines entries) (map-append make (take i items) (drop i items))
    ∙ dropped_append entries (map make (take i items)) (map make (drop i items))

-- ---- the lines of dropped entries, one after the other

module _ (entries : List NumberedEntry) (ipv4 ipv6 : List Span) (items : List Covered) where
  abbrev made : List Covered → List Dropped
  made cs = map (dropped_of ipv4 ipv6) cs

  abbrev slice_for : Covered → List Span
  slice_for c = take (c.end - c.start) (drop c.start (for_family c.family ipv4 ipv6))

  abbrev item_text : Covered → List Span → List ℕ
  item_text c slice = entry_line_at entries c.entry ++ witness_lines entries (map (λ s. s.place) slice)

  pub item_more : (a b c : Option (List ℕ)) (piece new : List ℕ) (i : ℕ) (d : Covered) (slice : List Span)
      → i < length items → slice ≡ slice_for (get_or items i d)
      → IsInPieces a b piece (dropped_lines entries (made (take i items)))
      → IsInPieces b c new (piece ++ item_text (get_or items i d) slice)
      → IsInPieces a c new (dropped_lines entries (made (take (i + 1) items)))
  item_more a b c piece new i d slice less is h put =
      subst (IsInPieces a c new) (sym (dropped_cut (dropped_of ipv4 ipv6) entries items i d less))
      (piece_more a b c piece (piece ++ item_text (get_or items i d) (slice_for (get_or items i d))) new
      (dropped_lines entries (made (take i items))) (item_text (get_or items i d) (slice_for (get_or items i d))) h refl
      (subst (λ z. IsInPieces b c new (piece ++ item_text (get_or items i d) z)) is put))

  pub item_front : (a b c : Option (List ℕ)) (piece : List ℕ) (i : ℕ) (d : Covered) (slice : List Span)
      → i < length items → slice ≡ slice_for (get_or items i d)
      → IsInPieces a b piece (dropped_lines entries (made (take i items)))
      → IsFront b c (piece ++ item_text (get_or items i d) slice)
      → IsFront a c (dropped_lines entries (made items))
  item_front a b c piece i d slice less is h front =
      let text = item_text (get_or items i d) (slice_for (get_or items i d)) in
      front_after a b c (piece ++ text) (dropped_lines entries (made (take i items)) ++ text)
      (dropped_lines entries (made (drop (i + 1) items))) (dropped_lines entries (made items))
      (piece_put a b piece (piece ++ text) (dropped_lines entries (made (take i items))) text h refl)
      (dropped_rest (dropped_of ipv4 ipv6) entries items (i + 1)
      ∙ ap (λ z. z ++ dropped_lines entries (made (drop (i + 1) items)))
      (dropped_cut (dropped_of ipv4 ipv6) entries items i d less))
      (subst (λ z. IsFront b c (piece ++ item_text (get_or items i d) z)) is front)

  pub piece_front : (a b c : Option (List ℕ)) (piece slice : List ℕ) (i : ℕ)
      → IsInPieces a b piece (dropped_lines entries (made (take i items))) → slice ≡ piece → IsFront b c slice
      → IsFront a c (dropped_lines entries (made items))
  piece_front a b c piece slice i h same front =
      front_after a b c piece (dropped_lines entries (made (take i items)))
      (dropped_lines entries (made (drop i items))) (dropped_lines entries (made items)) h
      (dropped_rest (dropped_of ipv4 ipv6) entries items i) (subst (IsFront b c) same front)

  pub all_out : (a b c d : Option (List ℕ)) (piece slice : List ℕ) (i : ℕ)
      → IsInPieces a b piece (dropped_lines entries (made (take i items))) → slice ≡ piece → Appends b c slice
      → Keeps c d → length items ≤ i → Appends a d (dropped_lines entries (made items))
  all_out a b c d piece slice i h same written kept ended =
      subst (λ z. Appends a d (dropped_lines entries (made z))) (take_all i items ended)
      (Appends-kept a c d (dropped_lines entries (made (take i items)))
      (all_written a b c piece (dropped_lines entries (made (take i items))) h (subst (Appends b c) same written)) kept)

  pub front_out : (a b c d : Option (List ℕ)) (piece slice : List ℕ) (i : ℕ)
      → IsInPieces a b piece (dropped_lines entries (made (take i items))) → slice ≡ piece → Appends b c slice
      → Keeps c d → length items ≤ i → IsFront a d (dropped_lines entries (made items))
  front_out a b c d piece slice i h same written kept ended =
      let whole = dropped_lines entries (made items) in
      (whole, whole_front whole, all_out a b c d piece slice i h same written kept ended)
