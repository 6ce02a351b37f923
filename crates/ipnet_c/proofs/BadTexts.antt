-- Texts that are not read as lists of networks.
use Rattle.std.proofs.Common.{◌≡◌, ◌≢◌, ℕ, List, inl, inr, refl, sym, subst, IsUtf8}
use Rattle.ipnet.specs.Network.{Network}
use Rattle.ipnet.specs.Lines.{lines_of, AreNetworksOf, IsFirstBadLine}
use Rattle.ipnet.specs.declared.parser.Grammar.{Grammar}
use Rattle.ipnet.specs.declared.parser.Grammar.TheVariants.{Strict}
use Rattle.ipnet.proofs.LineLaws.{all_good}
use Rattle.ipnet_c.specs.BadTexts.{IsBadList, IsBadText, AreBadTexts}
use Rattle.ipnet_c.proofs.ListReplies.{IsGoodAtOnce, good_at_once, IsBlank, blank_is_utf8}
use Rattle.ipnet_c.proofs.StatusLaws.{differ, neither}

-- ---- one text

pub bad_line : (grammar : Grammar) (text : List ℕ) (line_old line : ℕ) → ¬ (IsBlank text)
    → IsFirstBadLine grammar (lines_of text) line → IsBadList grammar text line_old line 1
bad_line grammar text line_old line some bad = record {
  known = inl refl;
  bad_line = λ e. bad;
  line_kept = λ e. absurd (e refl);
  some = some;
  bad_at_once = λ number h. refl;
}

pub no_memory : (grammar : Grammar) (text : List ℕ) (line : ℕ) → ¬ (IsBlank text) → IsGoodAtOnce grammar text
    → IsBadList grammar text line line 3
no_memory grammar text line some good = record {
  known = inr refl;
  bad_line = λ e. absurd (differ 3 1 refl e);
  line_kept = λ e. refl;
  some = some;
  bad_at_once = λ number h. absurd (good number h);
}

pub not_utf8 : (grammar : Grammar) (text : List ℕ) (line : ℕ) → ¬ (IsUtf8 text) → IsBadText grammar text line line 2
not_utf8 grammar text line invalid = record {
  known = inr (inl refl);
  bad_line = λ e. absurd (differ 2 1 refl e);
  not_utf8 = (λ e. invalid, λ h. refl);
  line_kept = λ e. refl;
  some = λ none. invalid (blank_is_utf8 text none);
  bad_at_once = λ number utf8 h. absurd (invalid utf8);
}

pub bad_list : (grammar : Grammar) (text : List ℕ) (line_old line status : ℕ) → IsUtf8 text
    → IsBadList grammar text line_old line status → IsBadText grammar text line_old line status
bad_list grammar text line_old line status utf8 h = record {
  known = elim h.known [ inl e ↦ inl e | inr e ↦ inr (inr e) ];
  bad_line = h.bad_line;
  not_utf8 = (λ e. absurd (neither 1 3 status 2 h.known refl refl e), λ invalid. absurd (invalid utf8));
  line_kept = h.line_kept;
  some = h.some;
  bad_at_once = λ number is_text at. h.bad_at_once number at;
}

-- ---- two texts

pub first_not_utf8 : (text other : List ℕ) (line : ℕ) → ¬ (IsUtf8 text) → AreBadTexts text other line line 2
first_not_utf8 text other line invalid = record {
  known = inr (inr (inl refl));
  bad_line = λ e. absurd (differ 2 1 refl e);
  bad_line_in_other = λ e. absurd (differ 2 9 refl e);
  not_utf8 = (λ e. invalid, λ h. refl);
  other_not_utf8 = (λ e. absurd (differ 2 10 refl e), λ h. absurd (invalid h.0));
  line_kept = λ a b. refl;
  some = λ none. absurd (invalid (blank_is_utf8 text none));
  bad_at_once = λ number utf8 b h. absurd (invalid utf8);
  bad_at_once_in_other = λ number none b h. absurd (invalid (blank_is_utf8 text none));
}

pub other_not_utf8 : (text other : List ℕ) (line : ℕ) → IsUtf8 text → ¬ (IsUtf8 other)
    → AreBadTexts text other line line 10
other_not_utf8 text other line utf8 invalid = record {
  known = inr (inr (inr (inl refl)));
  bad_line = λ e. absurd (differ 10 1 refl e);
  bad_line_in_other = λ e. absurd (differ 10 9 refl e);
  not_utf8 = (λ e. absurd (differ 10 2 refl e), λ h. absurd (h utf8));
  other_not_utf8 = (λ e. (utf8, invalid), λ h. refl);
  line_kept = λ a b. refl;
  some = λ none none_other. invalid (blank_is_utf8 other none_other);
  bad_at_once = λ number a b h. absurd (invalid b);
  bad_at_once_in_other = λ number none b h. absurd (invalid b);
}

pub first_bad : (text other : List ℕ) (line_old line status : ℕ) → IsUtf8 text → IsUtf8 other
    → IsBadList Strict text line_old line status → AreBadTexts text other line_old line status
first_bad text other line_old line status utf8 utf8_other h = record {
  known = elim h.known [ inl e ↦ inl e | inr e ↦ inr (inr (inr (inr e))) ];
  bad_line = h.bad_line;
  bad_line_in_other = λ e. absurd (neither 1 3 status 9 h.known refl refl e);
  not_utf8 = (λ e. absurd (neither 1 3 status 2 h.known refl refl e), λ invalid. absurd (invalid utf8));
  other_not_utf8 = (
    λ e. absurd (neither 1 3 status 10 h.known refl refl e),
    λ invalid. absurd (invalid.1 utf8_other),
  );
  line_kept = λ e other. h.line_kept e;
  some = λ none. absurd (h.some none);
  bad_at_once = λ number a b at. h.bad_at_once number at;
  bad_at_once_in_other = λ number none b at. absurd (h.some none);
}

pub other_bad_line : (text other : List ℕ) (line_old line status : ℕ) (networks : List Network) → IsUtf8 text
    → IsUtf8 other → AreNetworksOf Strict (lines_of text) networks → IsBadList Strict other line_old line status
    → status ≡ 1 → AreBadTexts text other line_old line 9
other_bad_line text other line_old line status networks utf8 utf8_other written h is = record {
  known = inr (inl refl);
  bad_line = λ e. absurd (differ 9 1 refl e);
  bad_line_in_other = λ e. (h.bad_line is, all_good Strict (lines_of text) networks written);
  not_utf8 = (λ e. absurd (differ 9 2 refl e), λ invalid. absurd (invalid utf8));
  other_not_utf8 = (λ e. absurd (differ 9 10 refl e), λ invalid. absurd (invalid.1 utf8_other));
  line_kept = λ a b. absurd (b refl);
  some = λ none. h.some;
  bad_at_once = λ number a b at. absurd (good_at_once Strict text networks written number at);
  bad_at_once_in_other = λ number none b at. refl;
}

-- memory runs out after the lines of the first text
pub later_no_memory : (text other : List ℕ) (line : ℕ) → IsUtf8 text → IsUtf8 other
    → (IsBlank text → ¬ (IsBlank other)) → IsGoodAtOnce Strict text → (IsBlank text → IsGoodAtOnce Strict other)
    → AreBadTexts text other line line 3
later_no_memory text other line utf8 utf8_other some good good_other = record {
  known = inr (inr (inr (inr refl)));
  bad_line = λ e. absurd (differ 3 1 refl e);
  bad_line_in_other = λ e. absurd (differ 3 9 refl e);
  not_utf8 = (λ e. absurd (differ 3 2 refl e), λ invalid. absurd (invalid utf8));
  other_not_utf8 = (λ e. absurd (differ 3 10 refl e), λ invalid. absurd (invalid.1 utf8_other));
  line_kept = λ a b. refl;
  some = some;
  bad_at_once = λ number a b at. absurd (good number at);
  bad_at_once_in_other = λ number none b at. absurd (good_other none number at);
}

pub other_no_memory : (text other : List ℕ) (line_old line status : ℕ) (networks : List Network) → IsUtf8 text
    → IsUtf8 other → AreNetworksOf Strict (lines_of text) networks → IsBadList Strict other line_old line status
    → status ≢ 1 → AreBadTexts text other line_old line status
other_no_memory text other line_old line status networks utf8 utf8_other written h not = elim h.known [
  | inl e ↦ absurd (not e)
  | inr e ↦ subst (λ s. AreBadTexts text other line_old line s) (sym e)
      (subst (λ l. AreBadTexts text other line_old l 3) (sym (h.line_kept not))
      (later_no_memory text other line_old utf8 utf8_other (λ none. h.some)
      (good_at_once Strict text networks written) (λ none number at. not (h.bad_at_once number at))))
]
