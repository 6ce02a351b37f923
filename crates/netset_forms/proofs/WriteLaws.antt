-- The texts of two parts, one after the other.
use Rattle.std.proofs.Common.{ℕ, List, [], ◌++◌, refl, sym, Option, append-nil}
use Rattle.std.specs.Io.{StartsWith}
use Rattle.std.specs.Io.KnownBytes.{Appends, Keeps}
use Rattle.std.proofs.KnownBytes.{Appends-kept}
use Rattle.ipnet_text.specs.Pieces.{IsInPieces}
use Rattle.ipnet_text.proofs.WritingLaws.{front_written, all_written, whole_front}
use Rattle.ipnet_text.specs.Outputs.{IsWritten, IsFrontWritten}
use Rattle.netset_forms.specs.declared.parts.Parts.{Parts}
use Rattle.netset_forms.specs.FormSteps.{PutsSome, CutsSome, IsTextIfSome, FitsIfSome, ArePartTexts}
use Rattle.netset_forms.proofs.BlockItems.{text_if_some}
use Rattle.netset_forms.proofs.PieceLaws.{put_then, cut_first, cut_then}

module _ (parts : Parts) where
  -- a front of the first text
  pub first_cut : (a b : Option (List ℕ)) → FitsIfSome parts.second → CutsSome (IsTextIfSome parts.first) a b []
      → IsFrontWritten (ArePartTexts parts) a b
  first_cut a b fits (first, h, cut) =
      let (second, k) = text_if_some parts.second fits in
      let (front, begins, written) = cut_first a b [] first second cut in record {
        text = first ++ second;
        right = (first, second, h, k, refl);
        front = front;
        begins = begins;
        written = written;
      }

  -- the first text, and a front of the second
  pub second_cut : (a b c : Option (List ℕ)) (piece : List ℕ) → PutsSome (IsTextIfSome parts.first) a b [] piece
      → CutsSome (IsTextIfSome parts.second) b c piece → IsFrontWritten (ArePartTexts parts) a c
  second_cut a b c piece (first, h, put) (second, k, cut) =
      let (front, begins, written) = cut_then a b c [] piece first second put cut in record {
        text = first ++ second;
        right = (first, second, h, k, refl);
        front = front;
        begins = begins;
        written = written;
      }

  both_put : (a b c : Option (List ℕ)) (piece last : List ℕ) → PutsSome (IsTextIfSome parts.first) a b [] piece
      → PutsSome (IsTextIfSome parts.second) b c piece last
      → (text : List ℕ) × ArePartTexts parts text × IsInPieces a c last text
  both_put a b c piece last (first, h, put) (second, k, more) =
      (first ++ second, (first, second, h, k, refl), put_then a b c [] piece last first second put more)

  -- both texts, and a front of the piece
  pub end_cut : (a b c d : Option (List ℕ)) (piece last : List ℕ) → PutsSome (IsTextIfSome parts.first) a b [] piece
      → PutsSome (IsTextIfSome parts.second) b c piece last
      → (front : List ℕ) × StartsWith last front × Appends c d front → IsFrontWritten (ArePartTexts parts) a d
  end_cut a b c d piece last first second cut =
      let (text, right, put) = both_put a b c piece last first second in
      let (front, begins, written) =
      front_written a c d last text [] text put (sym (append-nil text)) cut in record {
        text = text;
        right = right;
        front = front;
        begins = begins;
        written = written;
      }

  -- both texts
  pub both_whole : (a b c d : Option (List ℕ)) (piece last : List ℕ)
      → PutsSome (IsTextIfSome parts.first) a b [] piece → PutsSome (IsTextIfSome parts.second) b c piece last
      → Appends c d last → IsWritten (ArePartTexts parts) a d
  both_whole a b c d piece last first second rest =
      let (text, right, put) = both_put a b c piece last first second in record {
        text = text;
        right = right;
        written = all_written a c d last text put rest;
      }

  -- a flush keeps what was written
  pub flushed : (a c d : Option (List ℕ)) → IsWritten (ArePartTexts parts) a c → Keeps c d
      → IsWritten (ArePartTexts parts) a d
  flushed a c d h kept = record {
    text = h.text;
    right = h.right;
    written = Appends-kept a c d h.text h.written kept;
  }

  pub end_front : (a d : Option (List ℕ)) → IsWritten (ArePartTexts parts) a d
      → IsFrontWritten (ArePartTexts parts) a d
  end_front a d h = record {
    text = h.text;
    right = h.right;
    front = h.text;
    begins = whole_front h.text;
    written = h.written;
  }
