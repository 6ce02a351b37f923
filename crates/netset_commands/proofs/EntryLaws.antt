-- The lines of entries of the command line, one after another.
use Rattle.std.proofs.Common.{◌≡◌, ◌∙◌, ◌<◌, ◌+◌, ◌++◌, ◌∷◌, [], ℕ, List, All, ap, sym, subst, take, length, get_or}
use Rattle.std.proofs.Common.{arith, map, refl}
use Rattle.std.proofs.lemmas.List.{flat_map_more, get_or-map, length-map, map-append, take-map, take_more}
use Rattle.std.proofs.lemmas.List.Elements.{All-push}
use Rattle.std.specs.Borrow.{Bor}
use Rattle.ipnet_lists.specs.Causes.{Has}
use Rattle.ipnet_lists.specs.Names.{Names}
use Rattle.netset_commands.specs.EntryOptions.{IsEntryFailure, IsOneLine, entry_lines}
use Rattle.netset_commands.specs.declared.arguments.ArgumentFailure.TheVariants.{LineBreak}

-- the entries as text
abbrev pub texts_of : Names → List (List ℕ)
texts_of entries = map (λ e. e.now) entries

module _ (entries : Names) (i : ℕ) (d : Bor (List ℕ)) (within : i < length entries) where
  -- one more of the first entries
  one_more : texts_of (take (i + 1) entries) ≡ texts_of (take i entries) ++ (get_or entries i d).now ∷ []
  one_more =
      ap (λ z. texts_of z) (take_more entries i d within)
      ∙ map-append (λ (x : Bor (List ℕ)). x.now) (take i entries) (get_or entries i d ∷ [])

  -- it has its line
  pub line_more : (before after : List ℕ) → before ≡ entry_lines (texts_of (take i entries))
      → after ≡ before ++ ((get_or entries i d).now ++ 10 ∷ []) → after ≡ entry_lines (texts_of (take (i + 1) entries))
  line_more before after h line =
      line ∙ ap (λ z. z ++ ((get_or entries i d).now ++ 10 ∷ [])) h
      ∙ flat_map_more (λ (x : List ℕ). x ++ 10 ∷ []) [] (texts_of (take i entries)) (get_or entries i d).now
      ∙ ap (λ z. entry_lines z) (sym one_more)

  -- it is one line too
  pub one_line_more : All IsOneLine (texts_of (take i entries)) → IsOneLine (get_or entries i d).now
      → All IsOneLine (texts_of (take (i + 1) entries))
  one_line_more h one =
      subst (All IsOneLine) (sym one_more)
      (All-push IsOneLine (texts_of (take i entries)) (get_or entries i d).now h one)

  -- it is the first that is not one line
  pub broken_at : Has 10 (get_or entries i d).now → All IsOneLine (texts_of (take i entries))
      → IsEntryFailure (texts_of entries) (LineBreak (i + 1))
  broken_at has before =
      let spelled : get_or (texts_of entries) i [] ≡ (get_or entries i d).now =
      get_or-map (λ (x : Bor (List ℕ)). x.now) entries i d [] within in (
        i,
        refl,
        omega (arith, within, length-map entries (λ (x : Bor (List ℕ)). x.now)),
        subst (Has 10) (sym spelled) has,
        subst (All IsOneLine) (sym (take-map (λ (x : Bor (List ℕ)). x.now) i entries)) before,
      )
