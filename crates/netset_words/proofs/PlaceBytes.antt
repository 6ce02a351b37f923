-- The last bytes of a word.
use Rattle.std.proofs.Common.{◌≡◌, ◌≢◌, ◌<◌, ◌≤◌, ◌+◌, ◌-◌, ◌==◌, ◌||◌, ℕ, Bool, true, false, List, [], ◌∷◌, ◌++◌}
use Rattle.std.proofs.Common.{All, refl, sym, ap, ◌∙◌, subst, arith, length, take, drop, get_or, eqb-true, eq-eqb}
use Rattle.std.proofs.Common.{if◌then◌else◌, length-take-le}
use Rattle.std.proofs.lemmas.Bool.{false_from_ne_true}
use Rattle.std.proofs.lemmas.List.{take_all, take-append-drop, drop_more, get_or-drop, length-drop}
use Rattle.std.proofs.lemmas.List.Elements.{All-nil, All-cons, All-from_get_or}
use Rattle.std.proofs.lemmas.List.Folds.{list_any_none}
use Rattle.std.proofs.lemmas.List.Sums.{suffix_len_is}
use Rattle.std.specs.List.{list_any, suffix_len}
use Rattle.memchr.specs.Find.{NoneAfter, Nowhere, Passes, is_byte}
use Rattle.ipnet_lists.proofs.AddressBytes.{middle, one_back}
use Rattle.netset_words.specs.Places.{AreLastParts, ends_in_colon, is_end, trimmed}

-- ---- the last place of a sign

pub last_parts : (sign : ℕ) (text : List ℕ) (i : ℕ) → NoneAfter (Passes (is_byte sign) text) 0 (length text) i
    → Passes (is_byte sign) text i
    → AreLastParts sign text (take i text) (take (length text - (i + 1)) (drop (i + 1) text))
last_parts sign text i after found =
    let all : take (length text - (i + 1)) (drop (i + 1) text) ≡ drop (i + 1) text =
    take_all (length text - (i + 1)) (drop (i + 1) text) (omega (arith, length-drop (i + 1) text)) in
    let is : get_or text i 0 ≡ sign = eqb-true (get_or text i 0) sign found in
    record {
      spelled = sym (take-append-drop i text)
          ∙ ap (λ z. take i text ++ z) (drop_more text i 0 after.high ∙ ap (λ b. b ∷ drop (i + 1) text) is)
          ∙ ap (λ z. take i text ++ sign ∷ z) (sym all);
      last = subst (λ z. list_any (λ b. b == sign) z ≡ false) (sym all)
          (list_any_none (λ b. b == sign) (drop (i + 1) text)
          (All-from_get_or (λ b. (b == sign) ≡ false) (drop (i + 1) text) 0
          (λ k less. ap (λ b. b == sign) (get_or-drop (i + 1) text k 0)
          ∙ false_from_ne_true (get_or text (i + 1 + k) 0 == sign)
          (after.after (i + 1 + k) (omega arith) (omega (arith, less, length-drop (i + 1) text))))));
    }

pub no_last_parts : (sign : ℕ) (text : List ℕ) → Nowhere (Passes (is_byte sign) text) 0 (length text)
    → (front back : List ℕ) → ¬ (AreLastParts sign text front back)
no_last_parts sign text none front back is =
    let lacks : All (λ b. b ≢ sign) text =
    All-from_get_or (λ b. b ≢ sign) text 0
    (λ k less e. none k (omega arith) less (eq-eqb (get_or text k 0) sign e)) in
    middle (λ b. b ≢ sign) front sign back (subst (All (λ b. b ≢ sign)) is.spelled lacks) refl

lacks_sign : (sign : ℕ) (text : List ℕ) → list_any (λ b. b == sign) text ≡ false → All (λ b. b ≢ sign) text
lacks_sign sign [] h = All-nil (λ b. b ≢ sign)
lacks_sign sign (b ∷ text) h =
    let both = neither (b == sign) (list_any (λ c. c == sign) text) h in
    All-cons (λ b. b ≢ sign) b text
    (λ e. let clash : true ≡ false = sym (eq-eqb b sign e) ∙ both.0 in absurd cc) (lacks_sign sign text both.1)
  where
    neither : (p q : Bool) → (p || q) ≡ false → (p ≡ false) × (q ≡ false)
    neither true q e = absurd cc
    neither false q e = (refl, e)

-- there is one last place
pub one_last : (sign : ℕ) (text front back front' back' : List ℕ) → AreLastParts sign text front back
    → AreLastParts sign text front' back' → (front ≡ front') × (back ≡ back')
one_last sign text front back front' back' h k =
    one_back (λ b. b ≢ sign) sign (λ not. not refl) front back front' back' (sym h.spelled ∙ k.spelled)
    (lacks_sign sign back h.last) (lacks_sign sign back' k.last)

-- ---- the last bytes

pub no_colon_end : (text : List ℕ) → length text ≡ 0 → ends_in_colon text ≡ false
no_colon_end [] none = refl
no_colon_end (b ∷ text) none = absurd (omega (arith, none))

-- a text that ends in ":"
pub trimmed_colon : (text : List ℕ) → ends_in_colon text ≡ true → trimmed text ≡ take (length text - 1) text
trimmed_colon text ends =
    ap (λ t. if t then take (length text - 1) text else take (length text - suffix_len is_end text) text) ends

-- a text that does not
pub trimmed_ends : (text : List ℕ) → ends_in_colon text ≡ false
    → trimmed text ≡ take (length text - suffix_len is_end text) text
trimmed_ends text other =
    ap (λ t. if t then take (length text - 1) text else take (length text - suffix_len is_end text) text) other

-- a text with no such signs at its end
pub untrimmed : (text body : List ℕ) → body ≡ trimmed text → length text ≤ length body → body ≡ text
untrimmed text body is long = by (ends_in_colon text) refl
  where
    by : (t : Bool) → ends_in_colon text ≡ t → body ≡ text
    by true e =
        let so : body ≡ take (length text - 1) text = is ∙ trimmed_colon text e in
        so ∙ take_all (length text - 1) text (omega (arith, long, ap length so, length-take-le (length text - 1) text))
    by false e =
        let n = length text - suffix_len is_end text in
        let so : body ≡ take n text = is ∙ trimmed_ends text e in
        so ∙ take_all n text (omega (arith, long, ap length so, length-take-le n text (omega arith)))

-- a text up to the signs at its end
pub ends_cut : (text : List ℕ) (n : ℕ) → n ≤ length text
    → ((k : ℕ) → n ≤ k → k < length text → is_end (get_or text k 0) ≡ true)
    → (0 < n → is_end (get_or text (n - 1) 0) ≡ false)
    → n ≡ length text - suffix_len is_end text
ends_cut text n within ends stops =
    let count = suffix_len_is is_end text n 0 within ends stops in omega (arith, count, within)
