-- Paths, rectangle by rectangle.
use Rattle.std.proofs.Common.{◌≡◌, ◌<◌, ◌+◌, ℕ, Bool, true, false, cond, List, [], ◌∷◌, ◌++◌, take, length, get_or}
use Rattle.std.proofs.Common.{refl, sym, ap, ◌∙◌, append_assoc, filter}
use Rattle.std.proofs.lemmas.List.{append-nil}
use Rattle.std.proofs.lemmas.List.Elements.{filter_more}
use Rattle.ipnet_maps.specs.declared.layout.Place.{Place}
use Rattle.ipnet_maps.specs.declared.layout.Rectangle.{Rectangle}
use Rattle.ipnet_maps.specs.Paths.{rectangle_text, path_of}

-- the place of the last rectangle, from which the next is drawn
abbrev pub last_place : Place → List Rectangle → Place
last_place from [] = from
last_place from (r ∷ rest) = last_place r.place rest

path_push : (from : Place) (rs : List Rectangle) (r : Rectangle)
    → path_of from (rs ++ r ∷ []) ≡ path_of from rs ++ rectangle_text (last_place from rs) r
path_push from [] r = append-nil (rectangle_text from r)
path_push from (s ∷ rs) r =
    ap (λ z. rectangle_text from s ++ z) (path_push s.place rs r)
    ∙ sym (append_assoc (rectangle_text from s) (path_of s.place rs) (rectangle_text (last_place s.place rs) r))

last_push : (from : Place) (rs : List Rectangle) (r : Rectangle) → last_place from (rs ++ r ∷ []) ≡ r.place
last_push from [] r = refl
last_push from (s ∷ rs) r = last_push s.place rs r

-- The text is the path of these rectangles, and the pen is at the place of the last.
pub record IsDrawn (rs : List Rectangle) (start : Place) (text : List ℕ) (pen : Place) : Type 0 where
  pub spelled : text ≡ path_of start rs
  pub at : pen ≡ last_place start rs

pub drawn_more : (rs more : List Rectangle) (start : Place) (r : Rectangle) (text longer : List ℕ) (pen : Place)
    → more ≡ rs ++ r ∷ [] → longer ≡ text ++ rectangle_text pen r → IsDrawn rs start text pen
    → IsDrawn more start longer r.place
drawn_more rs more start r text longer pen one added h = record {
  spelled = added ∙ ap (λ z. z ++ rectangle_text pen r) h.spelled
      ∙ ap (λ z. path_of start rs ++ rectangle_text z r) h.at ∙ sym (path_push start rs r)
      ∙ ap (path_of start) (sym one);
  at = sym (last_push start rs r) ∙ ap (last_place start) (sym one);
}

-- ---- the members of a list that pass a test, one after the other

pub one_passes : {X : Type 0} (test : X → Bool) (xs : List X) (i : ℕ) (d : X) → i < length xs
    → test (get_or xs i d) ≡ true → filter test (take (i + 1) xs) ≡ filter test (take i xs) ++ get_or xs i d ∷ []
one_passes test xs i d within passes =
    filter_more test xs i d within
    ∙ ap (λ z. filter test (take i xs) ++ cond z (get_or xs i d ∷ []) []) passes

pub one_fails : {X : Type 0} (test : X → Bool) (xs : List X) (i : ℕ) (d : X) → i < length xs
    → test (get_or xs i d) ≡ false → filter test (take (i + 1) xs) ≡ filter test (take i xs)
one_fails test xs i d within fails =
    filter_more test xs i d within
    ∙ ap (λ z. filter test (take i xs) ++ cond z (get_or xs i d ∷ []) []) fails
    ∙ append-nil (filter test (take i xs))
