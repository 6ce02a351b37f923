-- The order of networks: strict, total, by first addresses; and lists in this order.
use Rattle.std.proofs.Common.{◌≡◌, ℕ, zero, suc, ◌+◌, ◌<◌, ◌⊎◌, ◌↔◌, List, [], ◌∷◌, length, get_or, map, sym, ap, ◌∙◌}
use Rattle.std.proofs.Common.{subst, subst₂, arith, inl, inr, IsSorted, Ordering, Less, is_lt, add-one, true, false}
use Rattle.std.proofs.lemmas.Bool.{cases_eq, cases_order}
use Rattle.std.proofs.lemmas.List.{length-map, get_or-map}
use Rattle.ipnet_base.specs.Address.{Address, family_index}
use Rattle.ipnet_base.specs.Network.{Network, IsTruncated, IsBefore, IsLeastOf}
use Rattle.ipnet_base.specs.Stack.{IsBeforeOrEqual, IsInOrder}
use Rattle.ipnet_base.proofs.NetworkLaws.{same_network, number_from_truncated}
use Rattle.ipnet_base.proofs.BlockLaws.{first_from_least}
use Rattle.ipnet_base.proofs.FamilyLaws.{same_family_from_index}

-- the order of networks, by numbers only
abbrev OrderedBy : (f g a b p q : ℕ) → Type 0
OrderedBy f g a b p q = (f < g) ⊎ ((f ≡ g) × ((a < b) ⊎ ((a ≡ b) × (p < q))))

before_by_numbers : (n k : Network) → IsBefore n k
    → OrderedBy (family_index n.family) (family_index k.family) n.number k.number n.prefix_len k.prefix_len
before_by_numbers n k (inl h) = inl h
before_by_numbers n k (inr h) = inr (ap family_index h.0, h.1)

asymmetric_by_numbers : (f g a b p q : ℕ) → OrderedBy f g a b p q → OrderedBy g f b a q p → ⊥
asymmetric_by_numbers f g a b p q h k = omega arith

-- no two networks come before each other
pub IsBefore-asymmetric : (n k : Network) → IsBefore n k → IsBefore k n → ⊥
IsBefore-asymmetric n k h i =
    asymmetric_by_numbers (family_index n.family) (family_index k.family) n.number k.number n.prefix_len k.prefix_len
    (before_by_numbers n k h) (before_by_numbers k n i)

-- the order is transitive
pub IsBefore-transitive : (n k l : Network) → IsBefore n k → IsBefore k l → IsBefore n l
IsBefore-transitive n k l (inl h) (inl i) = inl (omega arith)
IsBefore-transitive n k l (inl h) (inr i) = inl (omega (arith, h, ap family_index i.0))
IsBefore-transitive n k l (inr h) (inl i) = inl (omega (arith, i, ap family_index h.0))
IsBefore-transitive n k l (inr h) (inr i) = inr (h.0 ∙ i.0, both h.1 i.1)
  where
    both : (n.number < k.number) ⊎ ((n.number ≡ k.number) × (n.prefix_len < k.prefix_len))
        → (k.number < l.number) ⊎ ((k.number ≡ l.number) × (k.prefix_len < l.prefix_len))
        → (n.number < l.number) ⊎ ((n.number ≡ l.number) × (n.prefix_len < l.prefix_len))
    both (inl a) (inl b) = inl (omega arith)
    both (inl a) (inr b) = inl (omega arith)
    both (inr a) (inl b) = inl (omega arith)
    both (inr a) (inr b) = inr (a.0 ∙ b.0, omega arith)

pub IsBeforeOrEqual-transitive : (n k l : Network) → IsBeforeOrEqual n k → IsBeforeOrEqual k l → IsBeforeOrEqual n l
IsBeforeOrEqual-transitive n k l (inl e) h = subst (λ z. IsBeforeOrEqual z l) (sym e) h
IsBeforeOrEqual-transitive n k l (inr h) (inl e) = inr (subst (IsBefore n) e h)
IsBeforeOrEqual-transitive n k l (inr h) (inr i) = inr (IsBefore-transitive n k l h i)

-- the order of networks is total
pub order_total : (n k : Network) → IsBeforeOrEqual n k ⊎ IsBefore k n
order_total n k =
    elim (cases_order (family_index n.family) (family_index k.family)) [
      | inr (inl lt) ↦ inl (inr (inl lt))
      | inr (inr gt) ↦ inr (inl gt)
      | inl same ↦
          let f : n.family ≡ k.family = same_family_from_index n.family k.family same in
          elim (cases_order n.number k.number) [
            | inr (inl lt) ↦ inl (inr (inr (f, inl lt)))
            | inr (inr gt) ↦ inr (inr (sym f, inl gt))
            | inl number ↦ elim (cases_order n.prefix_len k.prefix_len) [
              | inr (inl lt) ↦ inl (inr (inr (f, inr (number, lt))))
              | inr (inr gt) ↦ inr (inr (sym f, inr (sym number, gt)))
              | inl len ↦ inl (inl (same_network n k f number len))
            ]
          ]
    ]

-- truncated networks are ordered by family, then first address, then length
pub before_by_first : (n k : Network) (a b : Address) → IsTruncated n → IsTruncated k → IsLeastOf n a → IsLeastOf k b
    → IsBefore n k ↔ ((family_index a.family < family_index b.family)
    ⊎ ((a.family ≡ b.family) × ((a.number < b.number) ⊎ ((a.number ≡ b.number) × (n.prefix_len < k.prefix_len)))))
before_by_first n k a b t u p q = (to, from)
  where
    at_a : a.number ≡ n.number
    at_a = first_from_least n a p ∙ sym (number_from_truncated n t)

    at_b : b.number ≡ k.number
    at_b = first_from_least k b q ∙ sym (number_from_truncated k u)

    to : IsBefore n k → (family_index a.family < family_index b.family)
        ⊎ ((a.family ≡ b.family) × ((a.number < b.number) ⊎ ((a.number ≡ b.number) × (n.prefix_len < k.prefix_len))))
    to (inl lt) = inl (omega (arith, lt, ap family_index p.inside.same_family, ap family_index q.inside.same_family))
    to (inr (f, inl lt)) =
        inr (p.inside.same_family ∙ f ∙ sym q.inside.same_family, inl (omega (arith, lt, at_a, at_b)))
    to (inr (f, inr (e, lt))) = inr (p.inside.same_family ∙ f ∙ sym q.inside.same_family, inr (at_a ∙ e ∙ sym at_b, lt))

    from : (family_index a.family < family_index b.family)
        ⊎ ((a.family ≡ b.family) × ((a.number < b.number) ⊎ ((a.number ≡ b.number) × (n.prefix_len < k.prefix_len))))
        → IsBefore n k
    from (inl lt) = inl (omega (arith, lt, ap family_index p.inside.same_family, ap family_index q.inside.same_family))
    from (inr (f, inl lt)) =
        inr (sym p.inside.same_family ∙ f ∙ q.inside.same_family, inl (omega (arith, lt, at_a, at_b)))
    from (inr (f, inr (e, lt))) =
        inr (sym p.inside.same_family ∙ f ∙ q.inside.same_family, inr (sym at_a ∙ e ∙ at_b, lt))

in_order_from_adjacent : (xs : List Network)
    → ((k : ℕ) (d : Network) → k + 1 < length xs → IsBeforeOrEqual (get_or xs k d) (get_or xs (k + 1) d)) → IsInOrder xs
in_order_from_adjacent xs h i zero d le l = inl (ap (λ k. get_or xs k d) (omega arith))
in_order_from_adjacent xs h i (suc j) d le l =
    elim (cases_eq i (suc j)) [
      | inl same ↦ inl (ap (λ k. get_or xs k d) same)
      | inr other ↦ IsBeforeOrEqual-transitive (get_or xs i d) (get_or xs j d) (get_or xs (suc j) d)
          (in_order_from_adjacent xs h i j d (omega arith) (omega arith))
          (subst (λ k. IsBeforeOrEqual (get_or xs j d) (get_or xs k d)) (add-one j) (h j d (omega arith)))
    ]

-- a list sorted by a comparison that returns `Less` for networks in order is in order
pub in_order_from_sort : {X : Type 0} (net : X → Network) (cmp : X → X → Ordering)
    → ((x y : X) → IsBefore (net x) (net y) → cmp x y ≡ Less)
    → (xs : List X) → IsSorted cmp xs → IsInOrder (map net xs)
in_order_from_sort net cmp law [] sorted = λ i j d le l. absurd (omega (arith, l))
in_order_from_sort {X} net cmp law (x ∷ xs) sorted = in_order_from_adjacent (map net (x ∷ xs)) adjacent
  where
    size : length (map net (x ∷ xs)) ≡ length (x ∷ xs)
    size = length-map (x ∷ xs) net

    not_before : (a b : X) → is_lt (cmp b a) ≡ false → IsBeforeOrEqual (net a) (net b)
    not_before a b h = elim (order_total (net a) (net b)) [
      | inl le ↦ le
      | inr gt ↦ let less : is_lt (cmp b a) ≡ true = ap is_lt (law b a gt) in absurd (cc)
    ]

    adjacent : (k : ℕ) (d : Network) → k + 1 < length (map net (x ∷ xs))
        → IsBeforeOrEqual (get_or (map net (x ∷ xs)) k d) (get_or (map net (x ∷ xs)) (k + 1) d)
    adjacent k d l =
        let inside : k + 1 < length (x ∷ xs) = omega (arith, l, size) in
        subst₂ IsBeforeOrEqual (sym (get_or-map net (x ∷ xs) k x d (omega (arith, inside))))
        (sym (get_or-map net (x ∷ xs) (k + 1) x d inside))
        (not_before (get_or (x ∷ xs) k x) (get_or (x ∷ xs) (k + 1) x) (sorted k x (omega arith) inside))
