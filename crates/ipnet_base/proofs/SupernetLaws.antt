-- Supernets, siblings, and the two halves of a supernet.
use Rattle.std.proofs.Common.{◌≡◌, ℕ, ◌+◌, ◌-◌, ◌*◌, ◌/◌, ◌^◌, ◌<◌, ◌≤◌, refl, sym, ap, ◌∙◌, subst, arith, inl, inr}
use Rattle.std.proofs.Common.{◌≢◌, ◌⊎◌, pow_pos, shr-shr, pow-add, mul-le-mul_right}
use Rattle.std.proofs.lemmas.Bool.{cases_eq}
use Rattle.std.proofs.Math.Nat.{mul-div_cancel}
use Rattle.ipnet_base.specs.Address.{Address, width}
use Rattle.ipnet_base.specs.Network.{Network, IsNetwork, host_bits, InBlock, IsSubnetOf, AreHalves, IsSupernetOf}
use Rattle.ipnet_base.specs.Network.{AreDisjoint, AreSiblings}
use Rattle.ipnet_base.proofs.PrefixLaws.{coarser, block_from, first_in_block, block_end_fits, one_bit_less}
use Rattle.ipnet_base.proofs.BlockLaws.{own, own_in, in_block_at, prefix_at}
use Rattle.ipnet_base.proofs.NetworkLaws.{truncated_from_number, same_from_block}
use Rattle.ipnet_base.proofs.NestingLaws.{nested}

-- the supernet by its formula
abbrev pub supernet : Network → Network
supernet n =
    record {
      family = n.family;
      number = n.number / 2 ^ (host_bits n + 1) * 2 ^ (host_bits n + 1);
      prefix_len =
          n.prefix_len - 1;
    }

pub IsSupernetOf-supernet : (n : Network) → IsNetwork n → 0 < n.prefix_len → IsSupernetOf (supernet n) n
IsSupernetOf-supernet n u long = record {
  network =
      record {
        address_fits = omega (arith, u.address_fits, block_from (host_bits n + 1) n.number n.number refl);
        prefix_fits = omega (arith, u.prefix_fits);
      };
  truncated = truncated_from_number (supernet n)
      (subst (λ b. (supernet n).number ≡ (supernet n).number / 2 ^ b * 2 ^ b) (sym bits)
      (ap (λ q. q * 2 ^ (host_bits n + 1)) (sym (first_in_block (host_bits n + 1) n.number))));
  shorter = omega arith;
  contains = λ x a. in_block_at (supernet n) x (host_bits n + 1) bits a.same_family
      (coarser (host_bits n) (host_bits n + 1) x.number n.number (omega arith) a.same_prefix ∙ sym
      (first_in_block (host_bits n + 1) n.number));
}
  where
    bits : host_bits (supernet n) ≡ host_bits n + 1
    bits = omega (arith, u.prefix_fits, long)

-- a supernet has one host bit more than the network
pub supernet_bits : (s n : Network) → IsNetwork n → IsSupernetOf s n → host_bits s ≡ host_bits n + 1
supernet_bits s n u p = omega (arith, ap width (p.contains (own n) (own_in n)).same_family, p.shorter, u.prefix_fits)

-- a network has one supernet at most
pub IsSupernetOf-unique : (s t n : Network) → IsNetwork n → IsSupernetOf s n → IsSupernetOf t n → s ≡ t
IsSupernetOf-unique s t n u p q = same_from_block s t p.network q.network p.truncated q.truncated (
  nested s t (own n) (p.contains (own n) (own_in n)) (q.contains (own n) (own_in n))
      (omega (arith, supernet_bits s n u p, supernet_bits t n u q)),
  nested t s (own n) (q.contains (own n) (own_in n)) (p.contains (own n) (own_in n))
      (omega (arith, supernet_bits s n u p, supernet_bits t n u q)),
)

-- what contains a network, and more, contains its supernet
pub supernet_below : (s n k : Network) → IsNetwork n → IsSupernetOf s n → IsSubnetOf n k → host_bits n < host_bits k
    → IsSubnetOf s k
supernet_below s n k u p sub lt =
    nested s k (own n) (p.contains (own n) (own_in n)) (sub (own n) (own_in n))
    (omega (arith, supernet_bits s n u p, lt))

-- to be siblings is symmetric, and each network of length above 0 is its own
pub AreSiblings-symmetric : (n k : Network) → AreSiblings n k → AreSiblings k n
AreSiblings-symmetric n k h = record {
  same_family = sym h.same_family;
  same_len = sym h.same_len;
  has_supernet = omega (arith, h.same_len, h.has_supernet);
  same_supernet = subst (λ b. k.number / 2 ^ (b + 1) ≡ n.number / 2 ^ (b + 1)) bits (sym h.same_supernet);
}
  where
    bits : host_bits n ≡ host_bits k
    bits = omega (arith, ap width h.same_family, h.same_len)

pub AreSiblings-reflexive : (n : Network) → 0 < n.prefix_len → AreSiblings n n
AreSiblings-reflexive n long = record { same_family = refl; same_len = refl; has_supernet = long; same_supernet = refl }

-- two halves have equally many host bits
halves_bits : (n k : Network) → AreHalves n k → host_bits k ≡ host_bits n
halves_bits n k h = omega (arith, ap width h.siblings.same_family, h.siblings.same_len)

-- an address in both halves would have both of their two different prefixes
pub halves_apart : (n k : Network) → AreHalves n k → AreDisjoint n k
halves_apart n k h x a b =
    h.differ (sym a.same_prefix ∙ prefix_at k x (host_bits n) (halves_bits n k h) b)

-- if three numbers agree without their lowest bit, the first equals one of two others that differ
two_halves : (q a b : ℕ) → q / 2 ≡ a / 2 → a / 2 ≡ b / 2 → a ≢ b → (q ≡ a) ⊎ (q ≡ b)
two_halves q a b e d ne =
    elim (cases_eq q a) [ inl s ↦ inl s | inr o ↦ inr (omega arith) ]

-- the block of a supernet consists of the blocks of the two halves
pub supernet_to_halves : (s n k : Network) → IsNetwork n → IsSupernetOf s n → AreHalves n k → (x : Address)
    → InBlock s x → InBlock n x ⊎ InBlock k x
supernet_to_halves s n k u p h x a =
    let in_s : InBlock s (own n) = p.contains (own n) (own_in n) in
    let fam : x.family ≡ n.family = a.same_family ∙ sym in_s.same_family in
    let sb : host_bits s ≡ host_bits n + 1 = supernet_bits s n u p in
    let e : x.number / 2 ^ (host_bits n + 1) ≡ n.number / 2 ^ (host_bits n + 1) =
    prefix_at s x (host_bits n + 1) sb a ∙ sym (prefix_at s (own n) (host_bits n + 1) sb in_s) in
    elim (two_halves (x.number / 2 ^ host_bits n) (n.number / 2 ^ host_bits n) (k.number / 2 ^ host_bits n)
    (one_bit_less x.number n.number (host_bits n) e)
    (one_bit_less n.number k.number (host_bits n) h.siblings.same_supernet)
    h.differ) [
      | inl q ↦ inl (record { same_family = fam; same_prefix = q })
      | inr q ↦ inr (in_block_at k x (host_bits n) (halves_bits n k h) (fam ∙ h.siblings.same_family) q)
    ]

pub halves_to_supernet : (s n k : Network) → IsNetwork n → IsSupernetOf s n → AreHalves n k → (x : Address)
    → InBlock n x ⊎ InBlock k x → InBlock s x
halves_to_supernet s n k u p h x (inl a) = p.contains x a
halves_to_supernet s n k u p h x (inr b) =
    let in_s : InBlock s (own n) = p.contains (own n) (own_in n) in
    let sb : host_bits s ≡ host_bits n + 1 = supernet_bits s n u p in
    let up : x.number / 2 ^ (host_bits n + 1) ≡ k.number / 2 ^ (host_bits n + 1) =
    coarser (host_bits n) (host_bits n + 1) x.number k.number (omega arith)
    (prefix_at k x (host_bits n) (halves_bits n k h) b) in
    in_block_at s x (host_bits n + 1) sb (b.same_family ∙ sym h.siblings.same_family ∙ in_s.same_family)
    (up ∙ sym h.siblings.same_supernet ∙ prefix_at s (own n) (host_bits n + 1) sb in_s)

-- the network with the same bits except the last is the other half
half_of_bits : (n : Network) (c : ℕ) → IsNetwork n → 0 < n.prefix_len → c / 2 ≡ n.number / 2 ^ host_bits n / 2
    → c ≢ n.number / 2 ^ host_bits n
    → (k : Network) × IsNetwork k × AreHalves n k
half_of_bits n c u long same other = (record n { number = c * 2 ^ host_bits n }, network, halves)
  where
    bits : host_bits n + 1 ≤ width n.family
    bits = omega (arith, u.prefix_fits, long)

    above : n.number / 2 ^ (host_bits n + 1) ≡ c / 2
    above = sym (shr-shr n.number (host_bits n) 1) ∙ sym same

    room : (c + 1) * 2 ^ host_bits n ≤ (c / 2 * 2 + 2) * 2 ^ host_bits n
    room = mul-le-mul_right (2 ^ host_bits n) (omega arith)

    network : IsNetwork (record n { number = c * 2 ^ host_bits n })
    network = record {
      address_fits = omega (
        arith,
        room,
        block_end_fits (width n.family) (host_bits n + 1) n.number bits u.address_fits,
        ap (λ q. q * 2 ^ (host_bits n + 1)) above,
        pow-add 2 (host_bits n) 1,
        ap (λ z. c / 2 * z) (pow-add 2 (host_bits n) 1),
        pow_pos (host_bits n),
      );
      prefix_fits = u.prefix_fits;
    }

    halves : AreHalves n (record n { number = c * 2 ^ host_bits n })
    halves = record {
      siblings = record {
        same_family = refl;
        same_len = refl;
        has_supernet = long;
        same_supernet =
            above ∙ ap (λ q. q / 2) (sym (mul-div_cancel c (pow_pos (host_bits n))))
            ∙ shr-shr (c * 2 ^ host_bits n) (host_bits n) 1;
      };
      differ = λ e. other (sym (e ∙ mul-div_cancel c (pow_pos (host_bits n))));
    }

pub other_half_exists : (n : Network) → IsNetwork n → 0 < n.prefix_len → (k : Network) × IsNetwork k × AreHalves n k
other_half_exists n u long =
    elim (cases_eq (n.number / 2 ^ host_bits n) (n.number / 2 ^ host_bits n / 2 * 2)) [
      | inl even ↦ half_of_bits n (n.number / 2 ^ host_bits n + 1) u long (omega (arith, even)) (λ e. omega (arith, e))
      | inr odd ↦ half_of_bits n (n.number / 2 ^ host_bits n - 1) u long (omega (arith, odd))
          (λ e. omega (arith, e, odd))
    ]
