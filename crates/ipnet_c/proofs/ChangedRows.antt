-- Rows that a call changes one after the other.
use Rattle.std.proofs.Common.{◌≡◌, ◌≢◌, ℕ, ◌+◌, ◌<◌, ◌≤◌, List, length, get_or, inl, inr, sym, ◌∙◌, subst, arith}
use Rattle.std.proofs.lemmas.Bool.{cases_lt}
use Rattle.ipnet_c.specs.Rows.{row_bytes}
use Rattle.ipnet_c.specs.RowReplies.{IsUnmappedRow, IsTruncatedRow}

-- ---- unmapped rows

-- The rows before the index are unmapped, and the others are what they were.
pub record AreUnmappedTo (index : ℕ) (families octets new_families new_octets : List ℕ) : Type 0 where
  pub as_many : length new_families ≡ length families
  pub as_many_octets : length new_octets ≡ length octets
  pub done : (i : ℕ) → i < index
      → IsUnmappedRow (get_or families i 0) (row_bytes octets i) (get_or new_families i 0) (row_bytes new_octets i)
  pub left : (i : ℕ) → index ≤ i
      → (get_or new_families i 0 ≡ get_or families i 0) × (row_bytes new_octets i ≡ row_bytes octets i)

-- one row more
pub unmapped_more : (index : ℕ) (families octets now_families now_octets new_families new_octets : List ℕ)
    → AreUnmappedTo index families octets now_families now_octets
    → length new_families ≡ length now_families → length new_octets ≡ length now_octets
    → IsUnmappedRow (get_or now_families index 0) (row_bytes now_octets index) (get_or new_families index 0)
    (row_bytes new_octets index)
    → ((i : ℕ) → i ≢ index → get_or new_families i 0 ≡ get_or now_families i 0)
    → ((i : ℕ) → i ≢ index → row_bytes new_octets i ≡ row_bytes now_octets i)
    → AreUnmappedTo (index + 1) families octets new_families new_octets
unmapped_more index families octets now_families now_octets new_families new_octets h len len_octets here other
    other_octets = record {
      as_many = len ∙ h.as_many;
      as_many_octets = len_octets ∙ h.as_many_octets;
      done = λ i less. elim (cases_lt i index) [
        | inl before ↦ let apart : i ≢ index = λ same. let wrong : ⊥ = omega (arith, same, before) in wrong in
            subst (λ z. IsUnmappedRow (get_or families i 0) (row_bytes octets i) z (row_bytes new_octets i))
            (sym (other i apart))
            (subst (λ z. IsUnmappedRow (get_or families i 0) (row_bytes octets i) (get_or now_families i 0) z)
            (sym (other_octets i apart)) (h.done i before))
        | inr not ↦ let same : index ≡ i = omega (arith, less, not) in
            subst (λ j. IsUnmappedRow (get_or families j 0) (row_bytes octets j) (get_or new_families j 0)
            (row_bytes new_octets j)) same
            (subst (λ z. IsUnmappedRow z (row_bytes octets index) (get_or new_families index 0)
            (row_bytes new_octets index)) (h.left index (omega arith)).0
            (subst (λ z. IsUnmappedRow (get_or now_families index 0) z (get_or new_families index 0)
            (row_bytes new_octets index)) (h.left index (omega arith)).1 here))
      ];
      left = λ i le. let apart : i ≢ index = λ same. let wrong : ⊥ = omega (arith, same, le) in wrong in (
        other i apart ∙ (h.left i (omega (arith, le))).0,
        other_octets i apart ∙ (h.left i (omega (arith, le))).1,
      );
    }

-- ---- truncated rows

-- The rows before the index are truncated, and the others are what they were.
pub record AreTruncatedTo (ipv4_length ipv6_length index : ℕ) (families octets new_octets : List ℕ) : Type 0 where
  pub as_many : length new_octets ≡ length octets
  pub done : (i : ℕ) → i < index
      → IsTruncatedRow ipv4_length ipv6_length (get_or families i 0) (row_bytes octets i) (row_bytes new_octets i)
  pub left : (i : ℕ) → index ≤ i → row_bytes new_octets i ≡ row_bytes octets i

-- one row more
pub truncated_more : (ipv4_length ipv6_length index : ℕ) (families octets now_octets new_octets : List ℕ)
    → AreTruncatedTo ipv4_length ipv6_length index families octets now_octets
    → length new_octets ≡ length now_octets
    → IsTruncatedRow ipv4_length ipv6_length (get_or families index 0) (row_bytes now_octets index)
    (row_bytes new_octets index)
    → ((i : ℕ) → i ≢ index → row_bytes new_octets i ≡ row_bytes now_octets i)
    → AreTruncatedTo ipv4_length ipv6_length (index + 1) families octets new_octets
truncated_more ipv4_length ipv6_length index families octets now_octets new_octets h len here other = record {
  as_many = len ∙ h.as_many;
  done = λ i less. elim (cases_lt i index) [
    | inl before ↦ subst (IsTruncatedRow ipv4_length ipv6_length (get_or families i 0) (row_bytes octets i))
        (sym (other i (λ same. let wrong : ⊥ = omega (arith, same, before) in wrong))) (h.done i before)
    | inr not ↦ let same : index ≡ i = omega (arith, less, not) in
        subst (λ j. IsTruncatedRow ipv4_length ipv6_length (get_or families j 0) (row_bytes octets j)
        (row_bytes new_octets j)) same
        (subst (λ z. IsTruncatedRow ipv4_length ipv6_length (get_or families index 0) z (row_bytes new_octets index))
        (h.left index (omega arith)) here)
  ];
  left = λ i le. other i (λ same. let wrong : ⊥ = omega (arith, same, le) in wrong) ∙ h.left i (omega (arith, le));
}
