-- Texts that a writer received, by a weaker property.
use Rattle.std.proofs.Common.{ℕ, List, Option}
use Rattle.ipnet_text.specs.Outputs.{IsWritten, IsFrontWritten}

module _ {A B : List ℕ → Type 0} (weaker : (text : List ℕ) → A text → B text) (held held_after : Option (List ℕ)) where
  pub whole_weaker : IsWritten A held held_after → IsWritten B held held_after
  whole_weaker h = record { text = h.text; right = weaker h.text h.right; written = h.written }

  pub front_weaker : IsFrontWritten A held held_after → IsFrontWritten B held held_after
  front_weaker h = record {
    text = h.text;
    right = weaker h.text h.right;
    front = h.front;
    begins = h.begins;
    written = h.written;
  }
