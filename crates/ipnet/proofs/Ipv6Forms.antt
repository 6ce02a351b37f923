-- The three forms of an IPv6 address text have no text in common.
use Rattle.std.proofs.Common.{◌≡◌, ℕ, ◌+◌, ◌≤◌, true, false, List, [], ◌∷◌, ◌++◌, length, Some, sym, ap, ◌∙◌, arith}
use Rattle.std.proofs.Common.{append_assoc, length-append}
use Rattle.ipnet.specs.declared.parser.Grammar.{Grammar}
use Rattle.ipnet.specs.AddressTexts.{IsGroups, EndsInIpv4, IsCompressed}
use Rattle.ipnet.proofs.Ipv6Texts.{Begins, groups_at, slash_stops, colons_stop, groups_begin, mixed_begins}
use Rattle.ipnet.proofs.Ipv6Texts.{groups_complete, mixed_complete, three_parts}

-- no text that begins with "::" begins with a digit
colons_begin : (text : List ℕ) → Begins (58 ∷ text) → ⊥
colons_begin text begins = absurd (omega arith)

pub groups_not_mixed : (grammar : Grammar) (text groups others : List ℕ) → IsGroups text groups
    → EndsInIpv4 grammar text others → ⊥
groups_not_mixed grammar text [] others h k =
    let begins : Begins [] = rw h at (mixed_begins grammar text [] others k) in
    absurd (omega arith)
groups_not_mixed grammar text (g ∷ groups) others h k =
    let room = 1 + length groups + length others in
    let plain = groups_complete grammar room text (47 ∷ []) g groups h (slash_stops []) (omega arith) in
    let mixed = mixed_complete grammar room text (47 ∷ []) others k (slash_stops []) (omega arith) in
    let (_, clash, _) = three_parts (g ∷ groups) others false true (47 ∷ []) (47 ∷ []) (sym plain ∙ mixed) in
    absurd cc

module _ (grammar : Grammar) (text others : List ℕ) (k : IsCompressed grammar text others) where
  split : text ++ (47 ∷ []) ≡ k.head_text ++ (58 ∷ 58 ∷ (k.tail_text ++ (47 ∷ [])))
  split = rw k.spelled (simp append_assoc)

  -- the head is read up to the "::"
  head_read : (room i : ℕ) (head : List ℕ) → IsGroups k.head_text (i ∷ head) → length head + 1 ≤ room
      → groups_at grammar room (text ++ (47 ∷ [])) ≡ Some (i ∷ head, false, 58 ∷ 58 ∷ (k.tail_text ++ (47 ∷ [])))
  head_read room i head is fits =
      rw split (groups_complete grammar room k.head_text (58 ∷ 58 ∷ (k.tail_text ++ (47 ∷ []))) i head is
      (colons_stop _) (omega arith))

  not_empty : text ≡ [] → ⊥
  not_empty none =
      let whole : [] ≡ k.head_text ++ (58 ∷ 58 ∷ []) ++ k.tail_text = sym none ∙ k.spelled in
      absurd (omega (
        arith,
        ap length whole,
        length-append (k.head_text ++ (58 ∷ 58 ∷ [])) k.tail_text,
        length-append k.head_text (58 ∷ 58 ∷ []),
      ))

  groups_other : (head groups : List ℕ) → IsGroups k.head_text head → IsGroups text groups → ⊥
  groups_other head [] is h = not_empty h
  groups_other [] (g ∷ groups) is h =
      colons_begin (58 ∷ (k.tail_text ++ [])) (rw (k.spelled, is) at (groups_begin text [] g groups h))
  groups_other (i ∷ head) (g ∷ groups) is h =
      let room = 1 + length groups + length head in
      let plain = groups_complete grammar room text (47 ∷ []) g groups h (slash_stops []) (omega arith) in
      let (_, _, clash) =
      three_parts (g ∷ groups) (i ∷ head) false false _ _ (sym plain ∙ head_read room i head is (omega arith)) in
      absurd cc

  mixed_other : (head groups : List ℕ) → IsGroups k.head_text head → EndsInIpv4 grammar text groups → ⊥
  mixed_other [] groups is h =
      colons_begin (58 ∷ (k.tail_text ++ [])) (rw (k.spelled, is) at (mixed_begins grammar text [] groups h))
  mixed_other (i ∷ head) groups is h =
      let room = 1 + length groups + length head in
      let mixed = mixed_complete grammar room text (47 ∷ []) groups h (slash_stops []) (omega arith) in
      let (_, clash, _) =
      three_parts groups (i ∷ head) true false _ _ (sym mixed ∙ head_read room i head is (omega arith)) in
      absurd cc

pub groups_not_compressed : (grammar : Grammar) (text groups others : List ℕ) → IsGroups text groups
    → IsCompressed grammar text others → ⊥
groups_not_compressed grammar text groups others h k = groups_other grammar text others k k.head groups k.head_groups h

pub mixed_not_compressed : (grammar : Grammar) (text groups others : List ℕ) → EndsInIpv4 grammar text groups
    → IsCompressed grammar text others → ⊥
mixed_not_compressed grammar text groups others h k = mixed_other grammar text others k k.head groups k.head_groups h
