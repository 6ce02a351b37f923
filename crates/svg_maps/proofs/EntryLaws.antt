-- The outlines of entries, one more at a time.
use Rattle.std.proofs.Common.{◌≡◌, ◌<◌, ◌≤◌, ◌+◌, ℕ, List, [], ◌∷◌, ◌++◌, length, get_or, take, Option, Some, None}
use Rattle.std.proofs.Common.{option_to_list, inl, inr, refl, sym, ap, ◌∙◌, subst}
use Rattle.std.proofs.lemmas.List.{take_more}
use Rattle.ipnet_base.specs.Network.{Network}
use Rattle.ipnet_maps.specs.declared.layout.Rectangle.{Rectangle}
use Rattle.ipnet_maps.specs.Places.{IsRectangleIn}
use Rattle.svg_maps.specs.declared.entry.MapEntry.{MapEntry}
use Rattle.svg_maps.specs.declared.outline.Outline.{Outline}
use Rattle.svg_maps.specs.declared.square.Counted.{Counted}
use Rattle.svg_maps.specs.EntryOutlines.{IsLarge, AreEntryOutlines, IsFoundFor}
use Rattle.svg_maps.specs.Pages.{pixels, pixel_rectangle}

module _ (frame : Network) (depth : ℕ) where
  -- the rectangles of one network have the same sides
  pub large_again : (n : Network) (scale : ℕ) (a b : Rectangle) → IsRectangleIn frame depth n a
      → IsRectangleIn frame depth n b → IsLarge (pixel_rectangle scale a) → IsLarge (pixel_rectangle scale b)
  large_again n scale a b is_a is_b large = (
    subst (λ z. 6 ≤ pixels scale z) (is_a.width ∙ sym is_b.width) large.0,
    subst (λ z. 6 ≤ pixels scale z) (is_a.height ∙ sym is_b.height) large.1,
  )

module _ (counted : List Counted) (frame : Network) (depth : ℕ) where
  found_last : (entries : List MapEntry) (e : MapEntry) (found : Option Outline) (old new : List Outline)
      → AreEntryOutlines entries counted frame depth old → IsFoundFor counted frame depth e found
      → new ≡ old ++ option_to_list found → AreEntryOutlines (entries ++ e ∷ []) counted frame depth new
  found_last [] e None old new none is grown = inr (is, grown ∙ ap (λ z. z ++ []) none)
  found_last [] e (Some o) old new none is grown =
      inl (o, [], is.0, is.1, grown ∙ ap (λ z. z ++ o ∷ []) none, refl)
  found_last (x ∷ xs) e found old new (inl (o, more, shown, outline, cut, rest)) is grown =
      inl (
        o,
        more ++ option_to_list found,
        shown,
        outline,
        grown ∙ ap (λ z. z ++ option_to_list found) cut,
        found_last xs e found more (more ++ option_to_list found) rest is refl,
      )
  found_last (x ∷ xs) e found old new (inr (hidden, rest)) is grown =
      inr (hidden, found_last xs e found old new rest is grown)

  -- what is found for the next entry is added
  pub found_added : (entries : List MapEntry) (i : ℕ) (e : MapEntry) (found : Option Outline) (old new : List Outline)
      → i < length entries → e ≡ get_or entries i e → AreEntryOutlines (take i entries) counted frame depth old
      → IsFoundFor counted frame depth e found → new ≡ old ++ option_to_list found
      → AreEntryOutlines (take (i + 1) entries) counted frame depth new
  found_added entries i e found old new less at so_far is grown =
      subst (λ z. AreEntryOutlines z counted frame depth new)
      (sym (take_more entries i e less ∙ ap (λ z. take i entries ++ z ∷ []) (sym at)))
      (found_last (take i entries) e found old new so_far is grown)
