-- A text that is written in pieces: what the writer got, and what the piece holds.
use Rattle.std.proofs.Common.{◌≡◌, ℕ, List, [], ◌∷◌, ◌++◌, length, take, drop, map, refl, sym, ap, ◌∙◌, subst, Option}
use Rattle.std.proofs.Common.{append_assoc, append-nil, take-append-drop}
use Rattle.std.specs.Io.{StartsWith}
use Rattle.std.specs.Io.KnownBytes.{Appends}
use Rattle.std.proofs.KnownBytes.{Appends-trans, starts_with_rest}
use Rattle.std.proofs.lemmas.List.{map-append, take_at}
use Rattle.ipnet.specs.Network.{Network}
use Rattle.ipnet_text.specs.LineTexts.{text_of_lines}
use Rattle.ipnet_text.specs.Pieces.{IsInPieces}
use Rattle.ipnet_text.proofs.LineTextLaws.{text_of_lines-append}

-- one line more
pub pieces_more : (a b c : Option (List ℕ)) (piece new line text whole : List ℕ) → IsInPieces a b piece text
    → IsInPieces b c new ((piece ++ line) ++ 10 ∷ []) → whole ≡ (text ++ line) ++ 10 ∷ [] → IsInPieces a c new whole
pieces_more a b c piece new line text whole h k is = record {
  done = h.done ++ k.done;
  written = Appends-trans a b c h.done k.done h.written k.written;
  is = append_assoc h.done k.done new ∙ ap (λ z. h.done ++ z) k.is
      ∙ sym (append_assoc h.done (piece ++ line) (10 ∷ []))
      ∙ ap (λ z. z ++ 10 ∷ []) (sym (append_assoc h.done piece line) ∙ ap (λ z. z ++ line) h.is) ∙ sym is;
}

-- a front of the piece is written, which makes a front of the whole text
pub front_written : (a b c : Option (List ℕ)) (piece text more whole : List ℕ) → IsInPieces a b piece text
    → whole ≡ text ++ more → (front : List ℕ) × StartsWith piece front × Appends b c front
    → (front : List ℕ) × StartsWith whole front × Appends a c front
front_written a b c piece text more whole h is (front, begins, written) =
    let rest = drop (length front) piece in
    let cut : whole ≡ (h.done ++ front) ++ (rest ++ more) =
    is ∙ ap (λ z. z ++ more) (sym h.is ∙ ap (λ z. h.done ++ z) (starts_with_rest piece front begins)
    ∙ sym (append_assoc h.done front rest)) ∙ append_assoc (h.done ++ front) rest more in (
      h.done ++ front,
      ap (take (length (h.done ++ front))) cut ∙ take_at (h.done ++ front) (rest ++ more) _ refl,
      Appends-trans a b c h.done front h.written written,
    )

-- the whole text is written
pub all_written : (a b c : Option (List ℕ)) (piece text : List ℕ) → IsInPieces a b piece text → Appends b c piece
    → Appends a c text
all_written a b c piece text h written =
    subst (Appends a c) h.is (Appends-trans a b c h.done piece h.written written)

-- a text is a front of itself
pub whole_front : (text : List ℕ) → StartsWith text text
whole_front text = ap (take (length text)) (sym (append-nil text)) ∙ take_at text [] _ refl

-- the text of a list is the text of its first networks, then the text of the others
pub text_cut : {X : Type 0} (network_of : X → Network) (items : List X) (i : ℕ)
    → text_of_lines (map network_of items)
    ≡ text_of_lines (map network_of (take i items)) ++ text_of_lines (map network_of (drop i items))
text_cut network_of items i =
    ap (λ z. text_of_lines (map network_of z)) (sym (take-append-drop i items))
    ∙ ap text_of_lines (map-append network_of (take i items) (drop i items))
    ∙ text_of_lines-append (map network_of (take i items)) (map network_of (drop i items))
