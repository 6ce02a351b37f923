-- Replies with the image of a text's addresses.
use Rattle.std.proofs.Common.{◌≡◌, ℕ, ◌⊎◌, List, inl, inr, refl, IsUtf8}
use Rattle.ipnet.specs.declared.parser.Grammar.{Grammar}
use Rattle.ipnet_c.specs.Buffers.{IsWritten, IsTooLong}
use Rattle.ipnet_c.specs.SetReplies.{IsCompileReply, IsImageWith, HasAddressesOfText}
use Rattle.ipnet_c.specs.BadTexts.{IsBadText}
use Rattle.ipnet_c.proofs.StatusLaws.{neither, not_other, none_of}

-- the image of a text's addresses, which is written if there is room
pub compiled : (grammar : Grammar) (text image old new : List ℕ) (count_old count status : ℕ) → IsUtf8 text
    → IsImageWith (HasAddressesOfText grammar text) image → (status ≡ 0) ⊎ (status ≡ 4)
    → (status ≡ 0 → IsWritten image old new count) → (status ≡ 4 → IsTooLong image old new count)
    → IsCompileReply grammar text old new count_old count status
compiled grammar text image old new count_old count status utf8 is known ok short = record {
  known = elim known [ inl e ↦ inl e | inr e ↦ inr (inl e) ];
  ok = λ e. (image, is, ok e);
  too_short = λ e. (image, is, short e);
  bad_line = λ e. absurd (not_other status 1 known refl refl e);
  not_utf8 = (λ e. absurd (not_other status 2 known refl refl e), λ invalid. absurd (invalid utf8));
  buffer_kept = λ not_ok. elim known [ inl e ↦ absurd (not_ok e) | inr e ↦ (short e).kept ];
  count_kept = λ e. elim e [
    | inl e ↦ absurd (not_other status 2 known refl refl e)
    | inr e ↦ absurd (not_other status 3 known refl refl e)
  ];
}

-- a text that is not read
pub not_compiled : (grammar : Grammar) (text buffer : List ℕ) (count_old count status : ℕ)
    → IsBadText grammar text count_old count status
    → IsCompileReply grammar text buffer buffer count_old count status
not_compiled grammar text buffer count_old count status h = record {
  known = inr (inr h.known);
  ok = λ e. absurd (none_of status 0 h.known refl refl refl e);
  too_short = λ e. absurd (none_of status 4 h.known refl refl refl e);
  bad_line = h.bad_line;
  not_utf8 = h.not_utf8;
  buffer_kept = λ e. refl;
  count_kept = λ e. h.line_kept (neither 2 3 status 1 e refl refl);
}
