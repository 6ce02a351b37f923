-- A path reads back as its rectangles: no other rectangles have this path.
use Rattle.std.proofs.Common.{◌≡◌, ℕ, ◌-◌, ◌^◌, ◌<◌, ◌≤◌, List, [], ◌∷◌, ◌++◌, length, get_or, drop}
use Rattle.std.proofs.Common.{codes, decimal, All, refl, sym, inl, inr, ap, ap₂, ◌∙◌, arith, append_assoc}
use Rattle.std.proofs.Common.{lt-ltb, le-ltb}
use Rattle.std.specs.Str.Parse.{AllDigits}
use Rattle.std.specs.Char.{digit_value}
use Rattle.std.proofs.lemmas.Bool.{cases_lt}
use Rattle.std.proofs.lemmas.Fmt.{decimal_is_IsNumeral, decimal_injective, decimal_nonempty}
use Rattle.std.proofs.lemmas.List.Elements.{All-head, All-tail}
use Rattle.ipnet_maps.specs.declared.layout.Place.{Place}
use Rattle.ipnet_maps.specs.declared.layout.Rectangle.{Rectangle}
use Rattle.ipnet_maps.specs.Paths.{distance_text, move_text, outline_text, rectangle_text, path_of, FitsWords}

pub head_is : (x y : ℕ) (xs ys : List ℕ) → x ∷ xs ≡ y ∷ ys → x ≡ y
head_is x y xs ys e = ap (λ l. get_or l 0 0) e

pub tail_is : (x y : ℕ) (xs ys : List ℕ) → x ∷ xs ≡ y ∷ ys → xs ≡ ys
tail_is x y xs ys e = ap (λ l. drop 1 l) e

-- a byte that is not a digit
abbrev pub IsStop : ℕ → Type 0
IsStop c = 10 ≤ digit_value c

-- ---- digits up to the first byte that is none

split : (xs ys : List ℕ) (c d : ℕ) (s t : List ℕ) → AllDigits 10 xs → AllDigits 10 ys → IsStop c → IsStop d
    → xs ++ c ∷ s ≡ ys ++ d ∷ t → (xs ≡ ys) × (c ∷ s ≡ d ∷ t)
split [] [] c d s t p q stop end e = (refl, e)
split [] (y ∷ ys) c d s t p q stop end e =
    let one : c ≡ y = head_is c y s (ys ++ d ∷ t) e in
    absurd (omega (arith, q.0, stop, ap digit_value one))
split (x ∷ xs) [] c d s t p q stop end e =
    let one : x ≡ d = head_is x d (xs ++ c ∷ s) t e in
    absurd (omega (arith, p.0, end, ap digit_value one))
split (x ∷ xs) (y ∷ ys) c d s t p q stop end e =
    let rest = split xs ys c d s t p.1 q.1 stop end (tail_is x y (xs ++ c ∷ s) (ys ++ d ∷ t) e) in
    (ap₂ (λ a b. a ∷ b) (head_is x y (xs ++ c ∷ s) (ys ++ d ∷ t) e) rest.0, rest.1)

digits : (n : ℕ) → n < 2 ^ 64 → AllDigits 10 (decimal n)
digits n h = (decimal_is_IsNumeral n h).0.1

pub number_read : (a b c d : ℕ) (s t : List ℕ) → a < 2 ^ 64 → b < 2 ^ 64 → IsStop c → IsStop d
    → decimal a ++ c ∷ s ≡ decimal b ++ d ∷ t → (a ≡ b) × (c ∷ s ≡ d ∷ t)
number_read a b c d s t fits other stop end e =
    let h = split (decimal a) (decimal b) c d s t (digits a fits) (digits b other) stop end e in
    (decimal_injective a b fits other h.0, h.1)

-- a number does not begin with another byte
no_number : (n c d : ℕ) (s t : List ℕ) → n < 2 ^ 64 → IsStop c → IsStop d → c ∷ s ≡ decimal n ++ d ∷ t → ⊥
no_number n c d s t fits stop end e =
    let h = split [] (decimal n) c d s t tt (digits n fits) stop end e in
    omega (arith, ap length h.0, decimal_nonempty n fits)

-- ---- distances

back : (before : List ℕ) (from to : ℕ) → to < from → distance_text before from to ≡ codes "-" ++ decimal (from - to)
back before from to h = rw (lt-ltb to from h)

forth : (before : List ℕ) (from to : ℕ) → from ≤ to → distance_text before from to ≡ before ++ decimal (to - from)
forth before from to h = rw (le-ltb to from h)

module _ (from a b c d : ℕ) (s t : List ℕ) (here : from < 2 ^ 32) (fits : a < 2 ^ 32) (other : b < 2 ^ 32)
    (stop : IsStop c) (end : IsStop d) where
  both_back : (before : List ℕ) → a < from → b < from
      → distance_text before from a ++ c ∷ s ≡ distance_text before from b ++ d ∷ t → (a ≡ b) × (c ∷ s ≡ d ∷ t)
  both_back before la lb e =
      let shown : 45 ∷ (decimal (from - a) ++ c ∷ s) ≡ 45 ∷ (decimal (from - b) ++ d ∷ t)
      = ap (λ z. z ++ c ∷ s) (sym (back before from a la)) ∙ e ∙ ap (λ z. z ++ d ∷ t) (back before from b lb) in
      let h = number_read (from - a) (from - b) c d s t (omega (arith, here)) (omega (arith, here)) stop end
      (tail_is 45 45 (decimal (from - a) ++ c ∷ s) (decimal (from - b) ++ d ∷ t) shown) in
      let one = h.0 in
      (omega (arith, one, la, lb), h.1)

  pub plain_read : distance_text [] from a ++ c ∷ s ≡ distance_text [] from b ++ d ∷ t → (a ≡ b) × (c ∷ s ≡ d ∷ t)
  plain_read e = elim (cases_lt a from) [
    | inl la ↦ elim (cases_lt b from) [
      | inl lb ↦ both_back [] la lb e
      | inr gb ↦
          let shown : 45 ∷ (decimal (from - a) ++ c ∷ s) ≡ decimal (b - from) ++ d ∷ t
          = ap (λ z. z ++ c ∷ s) (sym (back [] from a la)) ∙ e ∙ ap (λ z. z ++ d ∷ t) (forth [] from b gb) in
          absurd (no_number (b - from) 45 d (decimal (from - a) ++ c ∷ s) t (omega (arith, other)) (omega arith) end
          shown)
    ]
    | inr ga ↦ elim (cases_lt b from) [
      | inl lb ↦
          let shown : 45 ∷ (decimal (from - b) ++ d ∷ t) ≡ decimal (a - from) ++ c ∷ s
          = ap (λ z. z ++ d ∷ t) (sym (back [] from b lb)) ∙ sym e ∙ ap (λ z. z ++ c ∷ s) (forth [] from a ga) in
          absurd (no_number (a - from) 45 c (decimal (from - b) ++ d ∷ t) s (omega (arith, fits)) (omega arith) stop
          shown)
      | inr gb ↦
          let shown : decimal (a - from) ++ c ∷ s ≡ decimal (b - from) ++ d ∷ t
          = ap (λ z. z ++ c ∷ s) (sym (forth [] from a ga)) ∙ e ∙ ap (λ z. z ++ d ∷ t) (forth [] from b gb) in
          let h = number_read (a - from) (b - from) c d s t (omega (arith, fits)) (omega (arith, other)) stop end
          shown in
          let one = h.0 in
          (omega (arith, one, ga, gb), h.1)
    ]
  ]

  pub spaced_read : distance_text (codes " ") from a ++ c ∷ s ≡ distance_text (codes " ") from b ++ d ∷ t
      → (a ≡ b) × (c ∷ s ≡ d ∷ t)
  spaced_read e = elim (cases_lt a from) [
    | inl la ↦ elim (cases_lt b from) [
      | inl lb ↦ both_back (codes " ") la lb e
      | inr gb ↦
          let shown : 45 ∷ (decimal (from - a) ++ c ∷ s) ≡ 32 ∷ (decimal (b - from) ++ d ∷ t)
          = ap (λ z. z ++ c ∷ s) (sym (back (codes " ") from a la)) ∙ e
          ∙ ap (λ z. z ++ d ∷ t) (forth (codes " ") from b gb) in
          absurd (omega (arith, head_is 45 32 (decimal (from - a) ++ c ∷ s) (decimal (b - from) ++ d ∷ t) shown))
    ]
    | inr ga ↦ elim (cases_lt b from) [
      | inl lb ↦
          let shown : 32 ∷ (decimal (a - from) ++ c ∷ s) ≡ 45 ∷ (decimal (from - b) ++ d ∷ t)
          = ap (λ z. z ++ c ∷ s) (sym (forth (codes " ") from a ga)) ∙ e
          ∙ ap (λ z. z ++ d ∷ t) (back (codes " ") from b lb) in
          absurd (omega (arith, head_is 32 45 (decimal (a - from) ++ c ∷ s) (decimal (from - b) ++ d ∷ t) shown))
      | inr gb ↦
          let shown : 32 ∷ (decimal (a - from) ++ c ∷ s) ≡ 32 ∷ (decimal (b - from) ++ d ∷ t)
          = ap (λ z. z ++ c ∷ s) (sym (forth (codes " ") from a ga)) ∙ e
          ∙ ap (λ z. z ++ d ∷ t) (forth (codes " ") from b gb) in
          let h = number_read (a - from) (b - from) c d s t (omega (arith, fits)) (omega (arith, other)) stop end
          (tail_is 32 32 (decimal (a - from) ++ c ∷ s) (decimal (b - from) ++ d ∷ t) shown) in
          let one = h.0 in
          (omega (arith, one, ga, gb), h.1)
    ]
  ]

-- what begins with a distance after a blank begins with no digit
pub record Begins (text : List ℕ) : Type 0 where
  pub first : ℕ
  pub others : List ℕ
  pub stop : IsStop first
  pub same : text ≡ first ∷ others

spaced_begins : (from to : ℕ) (rest : List ℕ) → Begins (distance_text (codes " ") from to ++ rest)
spaced_begins from to rest = elim (cases_lt to from) [
  | inl lt ↦ record {
    first = 45;
    others = decimal (from - to) ++ rest;
    stop = omega arith;
    same = ap (λ z. z ++ rest) (back (codes " ") from to lt);
  }
  | inr ge ↦ record {
    first = 32;
    others = decimal (to - from) ++ rest;
    stop = omega arith;
    same = ap (λ z. z ++ rest) (forth (codes " ") from to ge);
  }
]

-- ---- moves

-- the parts of a move and what follows it, each before all that follows
abbrev spread : Place → Place → List ℕ → List ℕ
spread from to rest =
    109 ∷ (distance_text [] from.column to.column ++ (distance_text (codes " ") from.row to.row ++ rest))

pub spread_is : (from to : Place) (rest : List ℕ) → move_text from to ++ rest ≡ spread from to rest
spread_is from to rest =
    let across = distance_text [] from.column to.column in
    let down = distance_text (codes " ") from.row to.row in
    append_assoc (codes "m" ++ across) down rest ∙ append_assoc (codes "m") across (down ++ rest)

-- a move reads back before an `h`
pub move_read : (from a b : Place) (left right : List ℕ) → from.column < 2 ^ 32 → from.row < 2 ^ 32
    → a.column < 2 ^ 32 → a.row < 2 ^ 32 → b.column < 2 ^ 32 → b.row < 2 ^ 32
    → move_text from a ++ 104 ∷ left ≡ move_text from b ++ 104 ∷ right
    → ((a.column ≡ b.column) × (a.row ≡ b.row)) × (left ≡ right)
move_read from a b left right column row ac ar bc br e =
    let shown : spread from a (104 ∷ left) ≡ spread from b (104 ∷ right)
    = sym (spread_is from a (104 ∷ left)) ∙ e ∙ spread_is from b (104 ∷ right) in
    let one_begins = spaced_begins from.row a.row (104 ∷ left) in
    let other_begins = spaced_begins from.row b.row (104 ∷ right) in
    let one = plain_read from.column a.column b.column one_begins.first other_begins.first one_begins.others
    other_begins.others column ac bc one_begins.stop other_begins.stop
    (ap (λ z. distance_text [] from.column a.column ++ z) (sym one_begins.same) ∙ tail_is 109 109 _ _ shown
    ∙ ap (λ z. distance_text [] from.column b.column ++ z) other_begins.same) in
    let two = spaced_read from.row a.row b.row 104 104 left right row ar br (omega arith) (omega arith)
    (one_begins.same ∙ one.1 ∙ sym other_begins.same) in
    ((one.0, two.0), tail_is 104 104 left right two.1)

-- ---- rectangles

-- the outline of a rectangle after its first letter, and what follows it, each part before all that follows
abbrev sides_before : Rectangle → List ℕ → List ℕ
sides_before r rest =
    decimal r.sides.width ++ 118 ∷ (decimal r.sides.height ++ 104 ∷ (45 ∷ (decimal r.sides.width ++ 122 ∷ rest)))

rectangle_is : (from : Place) (r : Rectangle) (rest : List ℕ)
    → rectangle_text from r ++ rest ≡ move_text from r.place ++ 104 ∷ sides_before r rest
rectangle_is from r rest =
    let w = decimal r.sides.width in
    let h = decimal r.sides.height in
    append_assoc (move_text from r.place) (outline_text r.sides) rest
    ∙ ap (λ z. move_text from r.place ++ z)
    (append_assoc (codes "h" ++ w ++ codes "v" ++ h ++ codes "h-" ++ w) (codes "z") rest
    ∙ append_assoc (codes "h" ++ w ++ codes "v" ++ h ++ codes "h-") w (122 ∷ rest)
    ∙ append_assoc (codes "h" ++ w ++ codes "v" ++ h) (codes "h-") (w ++ 122 ∷ rest)
    ∙ append_assoc (codes "h" ++ w ++ codes "v") h (104 ∷ (45 ∷ (w ++ 122 ∷ rest)))
    ∙ append_assoc (codes "h" ++ w) (codes "v") (h ++ 104 ∷ (45 ∷ (w ++ 122 ∷ rest)))
    ∙ append_assoc (codes "h") w (118 ∷ (h ++ 104 ∷ (45 ∷ (w ++ 122 ∷ rest)))))

pub same_rectangle : (r s : Rectangle) → r.place.column ≡ s.place.column → r.place.row ≡ s.place.row
    → r.sides.width ≡ s.sides.width → r.sides.height ≡ s.sides.height → r ≡ s
same_rectangle r s a b c d = λ i. record {
  place = record { column = a i; row = b i };
  sides = record { width = c i; height = d i };
}

rectangle_read : (from : Place) (r s : Rectangle) (left right : List ℕ) → from.column < 2 ^ 32 → from.row < 2 ^ 32
    → FitsWords r → FitsWords s → rectangle_text from r ++ left ≡ rectangle_text from s ++ right
    → (r ≡ s) × (left ≡ right)
rectangle_read from r s left right column row fr fs e =
    let at = move_read from r.place s.place (sides_before r left) (sides_before s right) column row fr.column fr.row
    fs.column fs.row (sym (rectangle_is from r left) ∙ e ∙ rectangle_is from s right) in
    let wide = number_read r.sides.width s.sides.width 118 118
    (decimal r.sides.height ++ 104 ∷ (45 ∷ (decimal r.sides.width ++ 122 ∷ left)))
    (decimal s.sides.height ++ 104 ∷ (45 ∷ (decimal s.sides.width ++ 122 ∷ right)))
    (omega (arith, fr.width)) (omega (arith, fs.width)) (omega arith) (omega arith) at.1 in
    let high = number_read r.sides.height s.sides.height 104 104
    (45 ∷ (decimal r.sides.width ++ 122 ∷ left)) (45 ∷ (decimal s.sides.width ++ 122 ∷ right))
    (omega (arith, fr.height)) (omega (arith, fs.height)) (omega arith) (omega arith)
    (tail_is 118 118 _ _ wide.1) in
    let again = number_read r.sides.width s.sides.width 122 122 left right
    (omega (arith, fr.width)) (omega (arith, fs.width)) (omega arith) (omega arith)
    (tail_is 45 45 _ _ (tail_is 104 104 _ _ high.1)) in
    (same_rectangle r s at.0.0 at.0.1 wide.0 high.0, tail_is 122 122 left right again.1)

some_text : (from : Place) (r : Rectangle) (rest : List ℕ) → [] ≡ rectangle_text from r ++ rest → ⊥
some_text from r rest e =
    let shown = e ∙ rectangle_is from r rest ∙ spread_is from r.place (104 ∷ sides_before r rest) in
    omega (arith, ap length shown)

pub path_read : (from : Place) (rs ss : List Rectangle) → from.column < 2 ^ 32 → from.row < 2 ^ 32 → All FitsWords rs
    → All FitsWords ss → path_of from rs ≡ path_of from ss → rs ≡ ss
path_read from [] [] column row fr fs e = refl
path_read from [] (s ∷ ss) column row fr fs e = absurd (some_text from s (path_of s.place ss) e)
path_read from (r ∷ rs) [] column row fr fs e = absurd (some_text from r (path_of r.place rs) (sym e))
path_read from (r ∷ rs) (s ∷ ss) column row fr fs e =
    let here = All-head FitsWords r rs fr in
    let h = rectangle_read from r s (path_of r.place rs) (path_of s.place ss) column row here
    (All-head FitsWords s ss fs) e in
    let rest = path_read r.place rs ss here.column here.row (All-tail FitsWords r rs fr) (All-tail FitsWords s ss fs)
    (h.1 ∙ ap (λ z. path_of z.place ss) (sym h.0)) in
    ap₂ (λ a b. a ∷ b) h.0 rest
