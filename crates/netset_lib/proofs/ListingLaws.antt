-- Listings that are written in pieces.
use Rattle.std.proofs.Common.{◌≡◌, ℕ, List, [], ◌∷◌, ◌++◌, refl, sym, ap, ◌∙◌, subst, Option, append_assoc, append-nil}
use Rattle.std.specs.Io.{StartsWith}
use Rattle.std.specs.Io.KnownBytes.{Appends}
use Rattle.std.proofs.KnownBytes.{Appends-nil}
use Rattle.ipnet_text.specs.Pieces.{IsInPieces}
use Rattle.ipnet_text.proofs.WritingLaws.{pieces_more, front_written, all_written, whole_front}
use Rattle.netset_lib.specs.ListingSteps.{IsWrittenUpTo}

-- before the first line
pub nothing_written : (a : Option (List ℕ)) (piece rest whole : List ℕ) → piece ≡ [] → rest ≡ whole
    → IsWrittenUpTo a a piece rest whole
nothing_written a piece rest whole empty same = record {
  front = [];
  pieces = record { done = []; written = Appends-nil a; is = empty };
  split = same;
}

-- one line more
pub line_more : (a b c : Option (List ℕ)) (piece new line rest left whole : List ℕ) → IsWrittenUpTo a b piece rest whole
    → rest ≡ (line ++ 10 ∷ []) ++ left → IsInPieces b c new ((piece ++ line) ++ 10 ∷ [])
    → IsWrittenUpTo a c new left whole
line_more a b c piece new line rest left whole h cut put = record {
  front = (h.front ++ line) ++ 10 ∷ [];
  pieces = pieces_more a b c piece new line h.front ((h.front ++ line) ++ 10 ∷ []) h.pieces put refl;
  split = ap (λ z. z ++ left) (append_assoc h.front line (10 ∷ []))
      ∙ append_assoc h.front (line ++ 10 ∷ []) left ∙ ap (λ z. h.front ++ z) (sym cut) ∙ h.split;
}

-- a front of the piece is written
pub cut_off : (a b c : Option (List ℕ)) (piece rest whole : List ℕ) → IsWrittenUpTo a b piece rest whole
    → (front : List ℕ) × StartsWith piece front × Appends b c front
    → (front : List ℕ) × StartsWith whole front × Appends a c front
cut_off a b c piece rest whole h written =
    front_written a b c piece h.front rest whole h.pieces (sym h.split) written

-- the piece is written, and nothing is left
pub all_put : (a b c : Option (List ℕ)) (piece whole : List ℕ) → IsWrittenUpTo a b piece [] whole → Appends b c piece
    → Appends a c whole
all_put a b c piece whole h written =
    subst (Appends a c) (sym (append-nil h.front) ∙ h.split) (all_written a b c piece h.front h.pieces written)

-- a text that was written is a front of itself
pub front_of_whole : (a c : Option (List ℕ)) (whole : List ℕ) → Appends a c whole
    → (front : List ℕ) × StartsWith whole front × Appends a c front
front_of_whole a c whole written = (whole, whole_front whole, written)
