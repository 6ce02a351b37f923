-- The functions on numbers that the bodies of the network types call, for the width of either family.
use Rattle.std.proofs.Common.{◌≡◌, ◌≢◌, ℕ, ◌+◌, ◌-◌, ◌*◌, ◌/◌, ◌^◌, ◌<◌, ◌↔◌, refl, sym, ap, ◌∙◌, subst, arith, inl}
use Rattle.std.proofs.Common.{inr, IsTrue, eqb, eqb-true, eq-eqb, bit_xor, shr-shr}
use Rattle.std.proofs.Math.Nat.{div-eq_of_lt}
use Rattle.std.proofs.lemmas.Nat.{xor_shr}
use Rattle.std.specs.Int.Bits.{xor_self, xor_zero_l, xor_zero_r, xor_assoc}
use Rattle.std.proofs.lemmas.Bool.{cases_eq}
use Rattle.ipnet_base.specs.Address.{width, address_at}
use Rattle.ipnet_base.specs.Network.{Network, IsNetwork, host_bits, InBlock, AreHalves, IsTruncationOf, IsSupernetOf}
use Rattle.ipnet_base.specs.Network.{truncation}
use Rattle.ipnet_base.proofs.NetworkLaws.{same_network, IsTruncationOf-truncation}
use Rattle.ipnet_base.proofs.SupernetLaws.{supernet, IsSupernetOf-supernet}

-- Numbers are equal if they differ in no bit.
xor_none : (a b : ℕ) → (bit_xor a b ≡ 0) ↔ (a ≡ b)
xor_none a b = (
  λ e. sym (xor_zero_r a) ∙ ap (bit_xor a) (sym (xor_self b)) ∙ sym (xor_assoc a b b) ∙ ap (λ x. bit_xor x b) e
      ∙ xor_zero_l b,
  λ e. ap (bit_xor a) (sym e) ∙ xor_self a,
)

-- If they differ only in the last bit, the other bits are the same.
xor_last : (a b : ℕ) → (bit_xor a b ≡ 1) ↔ ((a ≢ b) × (a / 2 ≡ b / 2))
xor_last a b = (
  λ e. (
    λ same. let none = (xor_none a b).1 same in omega (arith, e, none),
    (xor_none (a / 2) (b / 2)).0 (sym (xor_shr a b 1) ∙ ap (λ x. x / 2) e),
  ),
  λ h.
      let upper : bit_xor a b / 2 ≡ 0 = xor_shr a b 1 ∙ (xor_none (a / 2) (b / 2)).1 h.1 in
      elim (cases_eq (bit_xor a b) 0) [
        | inl none ↦ absurd (h.0 ((xor_none a b).0 none))
        | inr some ↦ omega (arith, upper, some)
      ],
)

-- The test whether a block contains a number: the leading bits in which the number and the network's differ are all 0.
pub in_block_test : (n : Network) (number len a : ℕ) → len ≡ n.prefix_len
    → a ≡ bit_xor number n.number / 2 ^ (width n.family - len)
    → IsTrue (eqb a 0) ↔ InBlock n (address_at n.family number)
in_block_test n number len a same a_is = (
  λ t. record {
    same_family = refl;
    same_prefix =
        (xor_none (number / 2 ^ host_bits n) (n.number / 2 ^ host_bits n)).0 (sym leading ∙ eqb-true a 0 t);
  },
  λ h. eq-eqb a 0 (leading ∙ (xor_none (number / 2 ^ host_bits n) (n.number / 2 ^ host_bits n)).1 h.same_prefix),
)
  where
    leading : a ≡ bit_xor (number / 2 ^ host_bits n) (n.number / 2 ^ host_bits n)
    leading =
        a_is ∙ ap (λ p. bit_xor number n.number / 2 ^ (width n.family - p)) same ∙ xor_shr number n.number (host_bits n)

-- Networks of one length are halves if and only if their leading bits differ only in the last.
pub halves_test : (n k : Network) (len a : ℕ) → IsNetwork n → IsNetwork k → n.family ≡ k.family → len ≡ n.prefix_len
    → len ≡ k.prefix_len
    → a ≡ bit_xor n.number k.number / 2 ^ (width n.family - len) → IsTrue (eqb a 1) ↔ AreHalves n k
halves_test n k len a u v f same same' a_is = (to, from)
  where
    leading : a ≡ bit_xor (n.number / 2 ^ host_bits n) (k.number / 2 ^ host_bits n)
    leading =
        a_is ∙ ap (λ p. bit_xor n.number k.number / 2 ^ (width n.family - p)) same
        ∙ xor_shr n.number k.number (host_bits n)

    halved : (x : ℕ) → x / 2 ^ host_bits n / 2 ≡ x / 2 ^ (host_bits n + 1)
    halved x = shr-shr x (host_bits n) 1

    -- at length 0 there are no leading bits to differ
    one_at_zero : n.prefix_len ≡ 0 → n.number / 2 ^ host_bits n ≡ k.number / 2 ^ host_bits n
    one_at_zero none =
        let all : host_bits n ≡ width n.family = omega (arith, none) in
        let small : k.number < 2 ^ width n.family = subst (λ g. k.number < 2 ^ width g) (sym f) v.address_fits in
        ap (λ c. n.number / 2 ^ c) all ∙ div-eq_of_lt u.address_fits
        ∙ sym (ap (λ c. k.number / 2 ^ c) all ∙ div-eq_of_lt small)

    to : IsTrue (eqb a 1) → AreHalves n k
    to t =
        let differ =
        (xor_last (n.number / 2 ^ host_bits n) (k.number / 2 ^ host_bits n)).0 (sym leading ∙ eqb-true a 1 t) in
        record {
          siblings = record {
            same_family = f;
            same_len = sym same ∙ same';
            has_supernet =
                elim (cases_eq n.prefix_len 0) [
                  | inl none ↦ absurd (differ.0 (one_at_zero none))
                  | inr some ↦ omega (arith, some)
                ];
            same_supernet = sym (halved n.number) ∙ differ.1 ∙ halved k.number;
          };
          differ = differ.0;
        }

    from : AreHalves n k → IsTrue (eqb a 1)
    from h = eq-eqb a 1 (leading ∙ (xor_last (n.number / 2 ^ host_bits n) (k.number / 2 ^ host_bits n)).1
        (h.differ, halved n.number ∙ h.siblings.same_supernet ∙ sym (halved k.number)))

-- The leading bits but the last, and the length less one, make the supernet.
pub supernet_from_numbers : (s n : Network) (len number : ℕ) → IsNetwork n → len + 1 ≡ n.prefix_len
    → number ≡ n.number / 2 ^ (width n.family - len) * 2 ^ (width n.family - len)
    → s ≡ record { family = n.family; number = number; prefix_len = len } → IsSupernetOf s n
supernet_from_numbers s n len number u shorter number_is s_is =
    let bits : width n.family - len ≡ host_bits n + 1 = omega (arith, u.prefix_fits, shorter) in
    let kept : number ≡ n.number / 2 ^ (host_bits n + 1) * 2 ^ (host_bits n + 1) =
    number_is ∙ ap (λ b. n.number / 2 ^ b * 2 ^ b) bits in
    let same : s ≡ supernet n =
    s_is ∙ same_network (record { family = n.family; number = number; prefix_len = len }) (supernet n) refl kept
    (omega arith) in
    subst (λ t. IsSupernetOf t n) (sym same) (IsSupernetOf-supernet n u (omega arith))

-- The leading bits and the length make the truncation.
pub truncation_from_numbers : (t n : Network) (len number : ℕ) → IsNetwork n → len ≡ n.prefix_len
    → number ≡ n.number / 2 ^ (width n.family - len) * 2 ^ (width n.family - len)
    → t ≡ record { family = n.family; number = number; prefix_len = len } → IsTruncationOf t n
truncation_from_numbers t n len number u same number_is t_is =
    let kept : number ≡ n.number / 2 ^ host_bits n * 2 ^ host_bits n =
    number_is ∙ ap (λ p. n.number / 2 ^ (width n.family - p) * 2 ^ (width n.family - p)) same in
    let whole : t ≡ truncation n =
    t_is ∙ same_network (record { family = n.family; number = number; prefix_len = len }) (truncation n) refl kept
    same in
    subst (λ m. IsTruncationOf m n) (sym whole) (IsTruncationOf-truncation n u)
