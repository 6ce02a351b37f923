-- A line of a table with texts, by its first word and what follows.
use Rattle.std.proofs.Common.{◌≡◌, ℕ, List, Some, None, refl, sym, ◌∙◌, subst, inl, inr}
use Rattle.std.specs.Str.{IsUtf8}
use Rattle.ipnet_base.specs.Ranges.{AddressRange}
use Rattle.ipnet.specs.declared.parser.Grammar.{Grammar}
use Rattle.ipnet_lists.specs.Entries.{IsEntryText, IsNoEntry, ReadsAs}
use Rattle.ipnet_lists.specs.Words.{leading_word, after_word}
use Rattle.netset_lib.specs.TextSteps.{IsAllowed}
use Rattle.netset_lib.specs.TextTables.{MayFollow, TextLine, IsTextLine}

pub none_read : {V T : Type 0} (thing_of : V → T) (Writes : List ℕ → T → Type 0) (text : List ℕ)
    → ((t : T) → ¬ (Writes text t)) → ReadsAs thing_of Writes text None
none_read thing_of Writes text none = record { some = tt; none = (λ e. none, λ h. refl) }

pub some_read : {V T : Type 0} (thing_of : V → T) (Writes : List ℕ → T → Type 0) (text : List ℕ) (v : V)
    → Writes text (thing_of v) → ReadsAs thing_of Writes text (Some v)
some_read thing_of Writes text v h =
    record { some = h; none = (λ e. absurd cc, λ none. absurd (none (thing_of v) h)) }

pub allowed_of : (contents text : List ℕ) → MayFollow contents text → IsAllowed contents text
allowed_of contents text h = record {
  utf8 = h.utf8;
  some = h.some;
  no_dash = h.no_dash;
  no_nul = h.no_nul;
  no_mask = h.no_mask;
  no_comment = h.no_comment;
}

pub may_follow : (contents text : List ℕ) → IsUtf8 text → IsAllowed contents text → MayFollow contents text
may_follow contents text utf8 h = record {
  utf8 = h.utf8;
  text_utf8 = utf8;
  some = h.some;
  no_dash = h.no_dash;
  no_nul = h.no_nul;
  no_mask = h.no_mask;
  no_comment = h.no_comment;
}

module _ (grammar : Grammar) (contents word rest : List ℕ) (first : word ≡ leading_word contents)
    (is : rest ≡ after_word contents) (whole : IsNoEntry grammar contents) where
  -- the first word is not an entry
  pub no_line_word : IsNoEntry grammar word → (line : TextLine) → ¬ (IsTextLine grammar contents line)
  no_line_word none line (inl h) = whole line.range h.0
  no_line_word none line (inr h) = none line.range (subst (λ z. IsEntryText grammar z line.range) (sym first) h.entry)

  -- what follows may not follow
  pub no_line_text : ¬ (MayFollow contents rest) → (line : TextLine) → ¬ (IsTextLine grammar contents line)
  no_line_text not line (inl h) = whole line.range h.0
  no_line_text not line (inr h) = not (subst (MayFollow contents) (h.is ∙ sym is) h.allowed)

  pub line_with_text : (range : AddressRange) → IsEntryText grammar word range → MayFollow contents rest
      → IsTextLine grammar contents (record { range = range; text = rest })
  line_with_text range entry may = inr (record {
    whole = whole;
    entry = subst (λ z. IsEntryText grammar z range) first entry;
    is = is;
    allowed = may;
  })
