-- Replies to the text of one network.
use Rattle.std.proofs.Common.{◌≡◌, ℕ, ◌⊎◌, List, inl, inr, refl, subst, IsUtf8}
use Rattle.ipnet.specs.Network.{Network}
use Rattle.ipnet.specs.Bytes.{tagged_network_bytes}
use Rattle.ipnet.specs.NetworkTexts.{IsNetworkText, WritesNone}
use Rattle.ipnet.specs.declared.parser.Grammar.{Grammar}
use Rattle.ipnet_c.specs.Buffers.{IsWritten, IsTooLong}
use Rattle.ipnet_c.specs.Replies.{IsParseReply}
use Rattle.ipnet_c.proofs.StatusLaws.{differ, not_other}

-- a text that writes no network
pub refused : (grammar : Grammar) (text buffer : List ℕ) (count : ℕ) → IsUtf8 text
    → WritesNone (IsNetworkText grammar) text → IsParseReply grammar text buffer buffer count count 5
refused grammar text buffer count utf8 none = record {
  known = inr (inr (inl refl));
  ok = λ e. absurd (differ 5 0 refl e);
  too_short = λ e. absurd (differ 5 4 refl e);
  not_a_network = (λ e. (utf8, none), λ h. refl);
  not_utf8 = (λ e. absurd (differ 5 2 refl e), λ invalid. absurd (invalid utf8));
  buffer_kept = λ e. refl;
  count_kept = λ e. refl;
}

-- the text is a network, and its bytes are written if the buffer is long enough
pub parsed : (grammar : Grammar) (text bytes old new : List ℕ) (count_old count status : ℕ) (n : Network) → IsUtf8 text
    → IsNetworkText grammar text n → bytes ≡ tagged_network_bytes n → (status ≡ 0) ⊎ (status ≡ 4)
    → (status ≡ 0 → IsWritten bytes old new count) → (status ≡ 4 → IsTooLong bytes old new count)
    → IsParseReply grammar text old new count_old count status
parsed grammar text bytes old new count_old count status n utf8 is bytes_are known ok short = record {
  known = elim known [ inl e ↦ inl e | inr e ↦ inr (inl e) ];
  ok = λ e. (n, is, subst (λ b. IsWritten b old new count) bytes_are (ok e));
  too_short = λ e. (n, is, subst (λ b. IsTooLong b old new count) bytes_are (short e));
  not_a_network = (λ e. absurd (not_other status 5 known refl refl e), λ h. absurd (h.1 n is));
  not_utf8 = (λ e. absurd (not_other status 2 known refl refl e), λ invalid. absurd (invalid utf8));
  buffer_kept = λ not_ok. elim known [ inl e ↦ absurd (not_ok e) | inr e ↦ (short e).kept ];
  count_kept = λ e. elim e [
    | inl e ↦ absurd (not_other status 2 known refl refl e)
    | inr e ↦ absurd (not_other status 5 known refl refl e)
  ];
}
