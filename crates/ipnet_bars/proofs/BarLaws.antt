-- The rows of a bar, one more at a time, and its text.
use Rattle.std.proofs.Common.{◌≡◌, ℕ, ◌+◌, ◌<◌, ◌≤◌, List, [], ◌∷◌, ◌++◌, length, get_or, take, map, Contains, All}
use Rattle.std.proofs.Common.{Some, refl, sym, ap, ◌∙◌, subst, arith, append_assoc, append-nil}
use Rattle.std.proofs.lemmas.List.{map_push, take_more, get_or-map, length-map}
use Rattle.std.proofs.lemmas.List.Elements.{All-push, All-pop, All-weaker}
use Rattle.ipnet_base.specs.Address.{width}
use Rattle.ipnet_base.specs.Network.{Network}
use Rattle.ipnet_base.proofs.BlockLaws.{own, own_in}
use Rattle.ipnet_base.proofs.ListLaws.{all_from_members}
use Rattle.ipnet.specs.CanonicalTexts.{canonical_text}
use Rattle.ipnet.specs.NetworkParts.{AreSubnetsOfLength}
use Rattle.ipnet_bars.specs.Bars.{AreRows, IsColumnOf}

-- a text after another, in several parts
pub three_joined : (old t1 t2 t3 a b c : List ℕ) → t1 ≡ old ++ a → t2 ≡ t1 ++ b → t3 ≡ t2 ++ c
    → t3 ≡ old ++ (a ++ b ++ c)
three_joined old t1 t2 t3 a b c e f g = g ∙ ap (λ z. z ++ c) (f ∙ ap (λ z. z ++ b) e) ∙ simp append_assoc

pub four_joined : (old t1 t2 t3 t4 a b c d : List ℕ) → t1 ≡ old ++ a → t2 ≡ t1 ++ b → t3 ≡ t2 ++ c → t4 ≡ t3 ++ d
    → t4 ≡ old ++ (a ++ b ++ c ++ d)
four_joined old t1 t2 t3 t4 a b c d e f g h =
    h ∙ ap (λ z. z ++ d) (g ∙ ap (λ z. z ++ c) (f ∙ ap (λ z. z ++ b) e)) ∙ simp append_assoc

pub five_joined : (old t1 t2 t3 t4 t5 a b c d e : List ℕ) → t1 ≡ old ++ a → t2 ≡ t1 ++ b → t3 ≡ t2 ++ c
    → t4 ≡ t3 ++ d → t5 ≡ t4 ++ e → t5 ≡ old ++ (a ++ b ++ c ++ d ++ e)
five_joined old t1 t2 t3 t4 t5 a b c d e h1 h2 h3 h4 h5 =
    h5 ∙ ap (λ z. z ++ e) (four_joined old t1 t2 t3 t4 a b c d h1 h2 h3 h4) ∙ simp append_assoc

pub six_joined : (old t1 t2 t3 t4 t5 t6 a b c d e f : List ℕ) → t1 ≡ old ++ a → t2 ≡ t1 ++ b → t3 ≡ t2 ++ c
    → t4 ≡ t3 ++ d → t5 ≡ t4 ++ e → t6 ≡ t5 ++ f → t6 ≡ old ++ (a ++ b ++ c ++ d ++ e ++ f)
six_joined old t1 t2 t3 t4 t5 t6 a b c d e f h1 h2 h3 h4 h5 h6 =
    h6 ∙ ap (λ z. z ++ f) (five_joined old t1 t2 t3 t4 t5 a b c d e h1 h2 h3 h4 h5) ∙ simp append_assoc

pub row_joined : (old t1 t2 t3 head marks bar share end : List ℕ) → t1 ≡ old ++ head → t2 ≡ t1 ++ marks
    → t3 ≡ t2 ++ (bar ++ share ++ end) → t3 ≡ old ++ (head ++ marks ++ bar ++ share ++ end)
row_joined old t1 t2 t3 head marks bar share end e f g =
    g ∙ ap (λ z. z ++ (bar ++ share ++ end)) (f ∙ ap (λ z. z ++ marks) e) ∙ simp append_assoc

-- the networks of the rows so far, and of one more
mapped_more : {X : Type 0} (network_of : X → Network) (rows : List X) (i : ℕ) (row : X) → i < length rows
    → row ≡ get_or rows i row
    → map network_of (take (i + 1) rows) ≡ map network_of (take i rows) ++ network_of row ∷ []
mapped_more network_of rows i row less is =
    ap (map network_of) (take_more rows i row less ∙ ap (λ z. take i rows ++ z ∷ []) (sym is))
    ∙ map_push network_of (take i rows) row

-- the column of the rows so far, and of one more
pub column_more : {X : Type 0} (network_of : X → Network) (rows : List X) (i : ℕ) (row : X) (old new : ℕ)
    → i < length rows → row ≡ get_or rows i row → IsColumnOf (map network_of (take i rows)) old → old ≤ new
    → length (canonical_text (network_of row)) ≤ new
    → ((n : ℕ) → old ≤ n → length (canonical_text (network_of row)) ≤ n → new ≤ n)
    → IsColumnOf (map network_of (take (i + 1) rows)) new
column_more network_of rows i row old new less is so_far grown fits least =
    subst (λ z. IsColumnOf z new) (sym (mapped_more network_of rows i row less is)) (record {
      wide = All-push (λ k. length (canonical_text k) ≤ new) front (network_of row)
          (All-weaker (λ k. length (canonical_text k) ≤ old) (λ k. length (canonical_text k) ≤ new)
          (λ k l. omega (arith, l, grown)) front so_far.wide)
          fits;
      tight = λ other h.
          let parts = All-pop (λ k. length (canonical_text k) ≤ other) (front ++ network_of row ∷ []) front
          (Some (network_of row)) refl h in
          least other (so_far.tight other parts.0) parts.1;
    })
  where
    front : List Network
    front = map network_of (take i rows)

-- the rows so far, and one more
rows_push : (Row : Network → List ℕ → Type 0) (ns : List Network) (n : Network) (lines line : List ℕ)
    → AreRows Row ns lines → Row n line → AreRows Row (ns ++ n ∷ []) (lines ++ line)
rows_push Row [] n lines line h r = (line, [], r, refl, ap (λ z. z ++ line) h ∙ sym (append-nil line))
rows_push Row (k ∷ ns) n lines line h r = (
  h.0,
  h.1 ++ line,
  h.2,
  rows_push Row ns n h.1 line h.3 r,
  ap (λ z. z ++ line) h.4 ∙ append_assoc h.0 h.1 line,
)

pub one_row_more : {X : Type 0} (network_of : X → Network) (Row : Network → List ℕ → Type 0) (rows : List X) (i : ℕ)
    (row : X) (lines line : List ℕ) → i < length rows → row ≡ get_or rows i row
    → AreRows Row (map network_of (take i rows)) lines → Row (network_of row) line
    → AreRows Row (map network_of (take (i + 1) rows)) (lines ++ line)
one_row_more network_of Row rows i row lines line less is so_far one =
    subst (λ z. AreRows Row z (lines ++ line)) (sym (mapped_more network_of rows i row less is))
    (rows_push Row (map network_of (take i rows)) (network_of row) lines line so_far one)

-- the rows are no longer than a mark, which is no longer than an address
contains_map : {X Y : Type 0} (f : X → Y) (xs : List X) (x : X) → Contains xs x → Contains (map f xs) (f x)
contains_map f xs x c =
    (c.0, omega (arith, c.1, length-map xs f), get_or-map f xs c.0 x (f x) c.1 ∙ ap f c.2)

pub rows_fit : {X : Type 0} (network_of : X → Network) (n : Network) (row_len mark_len : ℕ) (rows : List X)
    → AreSubnetsOfLength n row_len (map network_of rows) → row_len ≤ mark_len → mark_len ≤ width n.family
    → All (λ x. ((network_of x).prefix_len ≤ mark_len) × (mark_len ≤ width (network_of x).family)) rows
rows_fit {X} network_of n row_len mark_len rows h short fits =
    all_from_members (λ x. ((network_of x).prefix_len ≤ mark_len) × (mark_len ≤ width (network_of x).family)) rows fit
  where
    fit : (x : X) → Contains rows x
        → ((network_of x).prefix_len ≤ mark_len) × (mark_len ≤ width (network_of x).family)
    fit x c =
        let row = (h.members (network_of x)).0 (contains_map network_of rows x c) in
        let same = (row.within (own (network_of x)) (own_in (network_of x))).same_family in
        (omega (arith, row.of_length, short), subst (λ f. mark_len ≤ width f) (sym same) fits)
