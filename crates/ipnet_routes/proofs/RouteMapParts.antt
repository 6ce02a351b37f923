-- The elements of lists, one after the other, from a place in one list up to a place in another.
use Rattle.std.proofs.Common.{◌≡◌, ℕ, suc, ◌+◌, ◌-◌, ◌<◌, ◌≤◌, List, [], ◌∷◌, ◌++◌, length, get_or, take, drop}
use Rattle.std.proofs.Common.{ap, ap₂, ◌∙◌, arith}
use Rattle.std.specs.List.{flat_map}
use Rattle.std.proofs.lemmas.List.{length-append, length-take-le, length-drop, get_or-take, get_or-drop, take-take}
use Rattle.std.proofs.lemmas.List.{take-append-le, drop-append-le, drop-take}
use Rattle.ipnet_routes.proofs.ChunkLaws.{chunk_split}

zero_first : (n : ℕ) → 0 + n ≡ n
zero_first n = omega arith

suc_first : (m n : ℕ) → suc m + n ≡ suc (m + n)
suc_first m n = omega arith

drop_past : {X : Type 0} (xs ys : List X) (n : ℕ) → drop (length xs + n) (xs ++ ys) ≡ drop n ys
drop_past [] ys n = ap (λ z. drop z ys) (zero_first n)
drop_past (x ∷ xs) ys n = ap (λ z. drop z (x ∷ (xs ++ ys))) (suc_first (length xs) n) ∙ drop_past xs ys n

take_past : {X : Type 0} (xs ys : List X) (n : ℕ) → take (length xs + n) (xs ++ ys) ≡ xs ++ take n ys
take_past [] ys n = ap (λ z. take z ys) (zero_first n)
take_past (x ∷ xs) ys n =
    ap (λ z. take z (x ∷ (xs ++ ys))) (suc_first (length xs) n) ∙ ap (λ z. x ∷ z) (take_past xs ys n)

module _ {C X : Type 0} (f : C → List X) (cs : List C) where
  abbrev place : ℕ → ℕ → ℕ
  place i j = length (flat_map f (take i cs)) + j

  -- up to a list and after it
  length_to : (a b : ℕ) (c : C) → a < b → b ≤ length cs → get_or cs a c ≡ c
      → length (flat_map f (take b cs))
      ≡ length (flat_map f (take a cs)) + (length (f c) + length (flat_map f (take (b - suc a) (drop (suc a) cs))))
  length_to a b c lt le e =
      let small : a < length (take b cs) = omega (arith, lt, length-take-le b cs le) in
      let at : get_or (take b cs) a c ≡ c = get_or-take b cs a c lt ∙ e in
      let split = chunk_split f (take b cs) a c small at in
      let early : take a (take b cs) ≡ take a cs = take-take a b cs (omega (arith, lt)) in
      let sum : b ≡ suc a + (b - suc a) = omega (arith, lt) in
      let late : drop (suc a) (take b cs) ≡ take (b - suc a) (drop (suc a) cs)
      = ap (λ z. drop (suc a) (take z cs)) sum ∙ drop-take (suc a) (b - suc a) cs in
      ap length split
      ∙ length-append (flat_map f (take a (take b cs))) (f c ++ flat_map f (drop (suc a) (take b cs)))
      ∙ ap₂ ◌+◌ (ap (λ z. length (flat_map f z)) early)
      (length-append (f c) (flat_map f (drop (suc a) (take b cs)))
      ∙ ap (λ z. length (f c) + length (flat_map f z)) late)

  -- nothing is from a place up to one in an earlier list
  pub part_none : (a i b j : ℕ) (c : C) → b < a → a ≤ length cs → get_or cs b c ≡ c → j ≤ length (f c)
      → place b j - place a i ≡ 0
  part_none a i b j c lt le e small = omega (arith, length_to b a c lt le e, small)

  from_place : (a i : ℕ) (c : C) → a < length cs → get_or cs a c ≡ c → i ≤ length (f c)
      → drop (place a i) (flat_map f cs) ≡ drop i (f c) ++ flat_map f (drop (suc a) cs)
  from_place a i c l e le =
      ap (drop (place a i)) (chunk_split f cs a c l e)
      ∙ drop_past (flat_map f (take a cs)) (f c ++ flat_map f (drop (suc a) cs)) i
      ∙ drop-append-le i (f c) (flat_map f (drop (suc a) cs)) le

  -- in one list
  pub part_one : (a i j : ℕ) (c : C) → a < length cs → get_or cs a c ≡ c → i ≤ j → j ≤ length (f c)
      → take (place a j - place a i) (drop (place a i) (flat_map f cs)) ≡ take (j - i) (drop i (f c))
  part_one a i j c l e le small =
      let size : place a j - place a i ≡ j - i = omega (arith, le) in
      ap (λ z. take z (drop (place a i) (flat_map f cs))) size
      ∙ ap (take (j - i)) (from_place a i c l e (omega (arith, le, small)))
      ∙ take-append-le (j - i) (drop i (f c)) (flat_map f (drop (suc a) cs))
      (omega (arith, small, le, length-drop i (f c)))

  -- from one list into a later one
  pub part_more : (a i b j : ℕ) (c d : C) → a < b → b < length cs → get_or cs a c ≡ c → get_or cs b d ≡ d
      → i ≤ length (f c) → j ≤ length (f d)
      → take (place b j - place a i) (drop (place a i) (flat_map f cs))
      ≡ drop i (f c) ++ (flat_map f (take (b - suc a) (drop (suc a) cs)) ++ take j (f d))
  part_more a i b j c d lt l at_a at_b small_i small_j =
      ap (λ z. take z (drop (place a i) (flat_map f cs))) size
      ∙ ap (take (length (drop i (f c)) + (length middle + j)))
      (from_place a i c (omega (arith, lt, l)) at_a small_i ∙ ap (λ z. drop i (f c) ++ z) rest)
      ∙ take_past (drop i (f c)) (middle ++ (f d ++ late)) (length middle + j)
      ∙ ap (λ z. drop i (f c) ++ z) (take_past middle (f d ++ late) j)
      ∙ ap (λ z. drop i (f c) ++ (middle ++ z)) (take-append-le j (f d) late small_j)
    where
      middle : List X
      middle = flat_map f (take (b - suc a) (drop (suc a) cs))

      late : List X
      late = flat_map f (drop (suc (b - suc a)) (drop (suc a) cs))

      sum : suc a + (b - suc a) ≡ b
      sum = omega (arith, lt)

      rest : flat_map f (drop (suc a) cs) ≡ middle ++ (f d ++ late)
      rest = chunk_split f (drop (suc a) cs) (b - suc a) d (omega (arith, lt, l, length-drop (suc a) cs))
          (get_or-drop (suc a) cs (b - suc a) d ∙ ap (λ z. get_or cs z d) sum ∙ at_b)

      size : place b j - place a i ≡ length (drop i (f c)) + (length middle + j)
      size = omega (arith, length_to a b c lt (omega (arith, l)) at_a, length-drop i (f c), small_i)
