-- The refused lines that are kept, as more are added.
use Rattle.std.proofs.Common.{◌≡◌, ℕ, zero, suc, ◌<◌, ◌≤◌, List, [], ◌∷◌, ◌++◌, length, take, refl, sym, ap}
use Rattle.std.proofs.Common.{◌∙◌, ◌≢◌, arith}
use Rattle.std.proofs.Common.{append_assoc, append-nil, take_all, length-append, add-zero}
use Rattle.std.proofs.lemmas.List.{length-map, take-append-le, nil_from_length}
use Rattle.ipnet_lists.specs.declared.refused.Refusals.{Refusals}
use Rattle.ipnet_lists.specs.Lists.{RefusalFor}
use Rattle.ipnet_lists.specs.RefusedLines.{AreRefused, HasMore, shown_refusals, refusal_of}

-- the front of a front, with more behind it
take-take-append : {X : Type 0} (n : ℕ) (xs ys : List X) → take n (take n xs ++ ys) ≡ take n (xs ++ ys)
take-take-append zero xs ys = refl
take-take-append (suc n) [] ys = refl
take-take-append {X = X} (suc n) (x ∷ xs) ys = ap (λ (l : List X). x ∷ l) (take-take-append n xs ys)

-- no line more
pub HasMore-nil : {C : Type 0} (lines : Refusals C) → length lines.shown.items ≤ 10 → HasMore lines lines []
HasMore-nil lines few = record {
  shown =
      sym (ap (take 10) (append-nil (shown_refusals lines))
      ∙ take_all 10 (shown_refusals lines) (omega (arith, few, length-map lines.shown.items refusal_of)));
  count = sym (add-zero lines.count);
}

-- some lines more, and then others
pub HasMore-trans : {C : Type 0} (old mid new : Refusals C) (a b : List (RefusalFor C)) → HasMore old mid a
    → HasMore mid new b → HasMore old new (a ++ b)
HasMore-trans old mid new a b h k = record {
  shown =
      k.shown ∙ ap (λ l. take 10 (l ++ b)) h.shown ∙ take-take-append 10 (shown_refusals old ++ a) b
      ∙ ap (take 10) (append_assoc (shown_refusals old) a b);
  count = omega (arith, k.count, h.count, length-append a b);
}

-- all of them, and some lines more
pub more_refused : {C : Type 0} (old new : Refusals C) (a b : List (RefusalFor C)) → AreRefused old a
    → HasMore old new b → AreRefused new (a ++ b)
more_refused old new a b h k = record {
  shown = k.shown ∙ ap (λ l. take 10 (l ++ b)) h.shown ∙ take-take-append 10 a b;
  count = omega (arith, k.count, h.count, length-append a b);
}

-- one line more, which is kept where there is room
pub one_more : {X : Type 0} (old new : List X) (r : X) → length old < 10 → new ≡ old ++ r ∷ []
    → new ≡ take 10 (old ++ r ∷ [])
one_more old new r room e =
    e ∙ sym (take_all 10 (old ++ r ∷ []) (omega (arith, length-append old (r ∷ []), room)))

pub no_room : {X : Type 0} (old : List X) (r : X) → length old ≡ 10 → old ≡ take 10 (old ++ r ∷ [])
no_room old r full =
    sym (take-append-le 10 old (r ∷ []) (omega (arith, full)) ∙ take_all 10 old (omega (arith, full)))

-- whether there are any
pub none_refused : {C : Type 0} (lines : Refusals C) (refusals : List (RefusalFor C)) → AreRefused lines refusals
    → lines.count ≡ 0 → refusals ≡ []
none_refused lines refusals h none = nil_from_length refusals (sym h.count ∙ none)

pub some_refused : {C : Type 0} (lines : Refusals C) (refusals : List (RefusalFor C)) → AreRefused lines refusals
    → lines.count ≢ 0 → refusals ≢ []
some_refused lines refusals h some none = some (h.count ∙ ap length none)
