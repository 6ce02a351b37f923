-- Texts that are shown whole, and texts that are cut.
use Rattle.std.proofs.Common.{◌≡◌, ◌<◌, ◌≤◌, ◌∙◌, ℕ, List, ◌++◌, [], ap, codes, cond, length, sym, take, IsCharBoundary}
use Rattle.std.proofs.Common.{lt-ltb, le-ltb}
use Rattle.std.proofs.lemmas.List.{append-nil}
use Rattle.ipnet_bars.specs.ShortTexts.{IsShortened}

module _ (text short : List ℕ) (len : ℕ) (few : len ≤ 100) (whole : IsCharBoundary text len)
    (longest : (i : ℕ) → len < i → i ≤ 100 → ¬ (IsCharBoundary text i))
  where
    pub all_shown : length text ≤ len → short ≡ take len text → IsShortened text short
    all_shown all is = record {
      len = len;
      few = few;
      whole = whole;
      longest = longest;
      spelled = is ∙ sym (append-nil (take len text))
          ∙ ap (λ z. take len text ++ cond z (codes "..") []) (sym (le-ltb len (length text) all));
    }

    pub front_shown : len < length text → short ≡ take len text ++ codes ".." → IsShortened text short
    front_shown more is = record {
      len = len;
      few = few;
      whole = whole;
      longest = longest;
      spelled = is ∙ ap (λ z. take len text ++ cond z (codes "..") []) (sym (lt-ltb len (length text) more));
    }
