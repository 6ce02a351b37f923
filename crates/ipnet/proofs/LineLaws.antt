-- The lines of a text, and the networks that they write.
use Rattle.std.proofs.Common.{◌≡◌, ℕ, zero, suc, ◌+◌, ◌<◌, List, [], ◌∷◌, ◌++◌, length, get_or, take, drop}
use Rattle.std.proofs.Common.{All, refl, sym, ap, ◌∙◌, subst, arith, inl, inr, eq-eqb, ne_eqb}
use Rattle.std.proofs.lemmas.List.Elements.{All-nil, All-cons, All-head, All-tail}
use Rattle.ipnet_base.specs.Network.{Network}
use Rattle.ipnet.specs.declared.parser.Grammar.{Grammar}
use Rattle.ipnet.specs.NetworkTexts.{IsNetworkText}
use Rattle.ipnet.specs.Lines.{lines_of, IsGoodLine, IsBadLine, AreNetworksOf, IsFirstBadLine}
use Rattle.ipnet.proofs.WholeTexts.{one_network}

-- the lines write one list of networks at most
pub one_list : (grammar : Grammar) (lines : List (List ℕ)) (networks others : List Network)
    → AreNetworksOf grammar lines networks → AreNetworksOf grammar lines others → networks ≡ others
one_list grammar [] networks others h k = h ∙ sym k
one_list grammar ([] ∷ lines) networks others h k = one_list grammar lines networks others h k
one_list grammar ((b ∷ line) ∷ lines) [] others h k = absurd h
one_list grammar ((b ∷ line) ∷ lines) (n ∷ networks) [] h k = absurd k
one_list grammar ((b ∷ line) ∷ lines) (n ∷ networks) (o ∷ others) h k =
    let same = one_network grammar (b ∷ line) n o h.0 k.0 in
    let later = one_list grammar lines networks others h.1 k.1 in
    cc

-- lines that write a list of networks are good
pub all_good : (grammar : Grammar) (lines : List (List ℕ)) (networks : List Network)
    → AreNetworksOf grammar lines networks → All (IsGoodLine grammar) lines
all_good grammar [] networks h = All-nil (IsGoodLine grammar)
all_good grammar ([] ∷ lines) networks h =
    All-cons (IsGoodLine grammar) [] lines (inl refl) (all_good grammar lines networks h)
all_good grammar ((b ∷ line) ∷ lines) [] h = absurd h
all_good grammar ((b ∷ line) ∷ lines) (n ∷ networks) h =
    All-cons (IsGoodLine grammar) (b ∷ line) lines (inr (n, h.0)) (all_good grammar lines networks h.1)

-- a good line isn't bad
good_or_bad : (grammar : Grammar) (line : List ℕ) → IsGoodLine grammar line → IsBadLine grammar line → ⊥
good_or_bad grammar line (inl empty) bad = bad.0 empty
good_or_bad grammar line (inr good) bad = bad.1 good.0 good.1

-- so none of them is the first bad one
pub none_bad : (grammar : Grammar) (lines : List (List ℕ)) (networks : List Network) (number : ℕ)
    → AreNetworksOf grammar lines networks → ¬ (IsFirstBadLine grammar lines number)
none_bad grammar lines networks number h bad =
    let good = subst (All (IsGoodLine grammar)) bad.cut (all_good grammar lines networks h) in
    good_or_bad grammar bad.line (last_of bad.before bad.line bad.after good) bad.bad
  where
    last_of : (before : List (List ℕ)) (line : List ℕ) (after : List (List ℕ))
        → All (IsGoodLine grammar) (before ++ line ∷ after) → IsGoodLine grammar line
    last_of [] line after h = All-head (IsGoodLine grammar) line after h
    last_of (l ∷ before) line after h =
        last_of before line after (All-tail (IsGoodLine grammar) l (before ++ line ∷ after) h)

-- the first bad line has one number
pub one_bad_line : (grammar : Grammar) (lines : List (List ℕ)) (number other : ℕ) → IsFirstBadLine grammar lines number
    → IsFirstBadLine grammar lines other → number ≡ other
one_bad_line grammar lines number other h k =
    h.number_is ∙ ap (λ (n : ℕ). n + 1) (same h.before h.line h.after k.before k.line k.after (sym h.cut ∙ k.cut)
    h.good h.bad k.good k.bad) ∙ sym k.number_is
  where
    same : (before : List (List ℕ)) (line : List ℕ) (after before' : List (List ℕ)) (line' : List ℕ)
        (after' : List (List ℕ)) → before ++ line ∷ after ≡ before' ++ line' ∷ after'
        → All (IsGoodLine grammar) before → IsBadLine grammar line → All (IsGoodLine grammar) before'
        → IsBadLine grammar line' → length before ≡ length before'
    same [] line after [] line' after' e good bad good' bad' = refl
    same [] line after (l ∷ before') line' after' e good bad good' bad' =
        let first : line ≡ l = cc in
        absurd (good_or_bad grammar line (subst (IsGoodLine grammar) (sym first)
        (All-head (IsGoodLine grammar) l before' good')) bad)
    same (l ∷ before) line after [] line' after' e good bad good' bad' =
        let first : l ≡ line' = cc in
        absurd (good_or_bad grammar line'
        (subst (IsGoodLine grammar) first (All-head (IsGoodLine grammar) l before good)) bad')
    same (l ∷ before) line after (l' ∷ before') line' after' e good bad good' bad' =
        let rest : before ++ line ∷ after ≡ before' ++ line' ∷ after' = cc in
        ap suc (same before line after before' line' after' rest (All-tail (IsGoodLine grammar) l before good) bad
        (All-tail (IsGoodLine grammar) l' before' good') bad')

-- ---- one line more

-- an empty line changes nothing but the count
pub empty_line : (grammar : Grammar) (line : List ℕ) (lines : List (List ℕ)) (networks : List Network) → length line ≡ 0
    → AreNetworksOf grammar lines networks → AreNetworksOf grammar (line ∷ lines) networks
empty_line grammar [] lines networks empty h = h
empty_line grammar (b ∷ line) lines networks empty h = absurd (omega arith)

pub network_line : (grammar : Grammar) (line : List ℕ) (lines : List (List ℕ)) (n : Network) (networks : List Network)
    → 0 < length line → IsNetworkText grammar line n → AreNetworksOf grammar lines networks
    → AreNetworksOf grammar (line ∷ lines) (n ∷ networks)
network_line grammar [] lines n networks some is h = absurd (omega arith)
network_line grammar (b ∷ line) lines n networks some is h = (is, h)

pub bad_line : (grammar : Grammar) (line : List ℕ) (lines : List (List ℕ)) → 0 < length line
    → ((n : Network) → ¬ (IsNetworkText grammar line n)) → IsFirstBadLine grammar (line ∷ lines) 1
bad_line grammar line lines some none = record {
  before = [];
  line = line;
  after = lines;
  cut = refl;
  number_is = refl;
  good = All-nil (IsGoodLine grammar);
  bad = (λ empty. omega (arith, ap length empty), none);
}

pub good_line : (grammar : Grammar) (line : List ℕ) (lines : List (List ℕ)) (later : ℕ) → IsGoodLine grammar line
    → IsFirstBadLine grammar lines later → IsFirstBadLine grammar (line ∷ lines) (1 + later)
good_line grammar line lines later good h = record {
  before = line ∷ h.before;
  line = h.line;
  after = h.after;
  cut = ap (λ ls. line ∷ ls) h.cut;
  number_is = omega (arith, h.number_is);
  good = All-cons (IsGoodLine grammar) line h.before good h.good;
  bad = h.bad;
}

-- ---- the first line of a text

pub lines_at : (text : List ℕ) (i : ℕ) → i < length text → ((k : ℕ) → k < i → get_or text k 0 ≡ 10 → ⊥)
    → get_or text i 0 ≡ 10 → lines_of text ≡ take i text ∷ lines_of (drop (suc i) text)
lines_at [] i within before found = absurd (omega arith)
lines_at (b ∷ text) zero within before found = rw (eq-eqb b 10 found)
lines_at (b ∷ text) (suc i) within before found =
    let later = lines_at text i (omega arith) (λ k less. before (suc k) (omega arith)) found in
    rw (ne_eqb b 10 (before 0 (omega arith)), later)

pub last_line : (text : List ℕ) → 0 < length text → ((k : ℕ) → k < length text → get_or text k 0 ≡ 10 → ⊥)
    → lines_of text ≡ text ∷ []
last_line [] some before = absurd (omega arith)
last_line (b ∷ []) some before = rw (ne_eqb b 10 (before 0 (omega arith)))
last_line (b ∷ c ∷ text) some before =
    let later = last_line (c ∷ text) (omega arith) (λ k less. before (suc k) (omega arith)) in
    rw (ne_eqb b 10 (before 0 (omega arith)), later)

pub no_lines : (grammar : Grammar) (text : List ℕ) → length text ≡ 0 → AreNetworksOf grammar (lines_of text) []
no_lines grammar [] none = refl
no_lines grammar (b ∷ text) none = absurd (omega arith)
