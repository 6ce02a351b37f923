-- Blocks of a set exchanged with others of their size.
use Rattle.std.proofs.Common.{◌≡◌, ℕ, ◌+◌, ◌-◌, ◌*◌, ◌/◌, ◌^◌, ◌<◌, ◌≤◌}
use Rattle.std.proofs.Common.{refl, sym, ap, ap₂, ◌∙◌, arith, inl, inr, pow_pos, mul-le-mul_right}
use Rattle.std.proofs.lemmas.Bool.{cases_lt}
use Rattle.std.proofs.Math.Nat.{mul-div_cancel}
use Rattle.ipnet_base.specs.Address.{Family, Address, width}
use Rattle.ipnet_base.specs.Network.{Network, IsNetwork, InBlock, IsSubnetOf, IsTruncated, AreDisjoint}
use Rattle.ipnet_base.specs.Network.{host_bits, last_of}
use Rattle.ipnet_base.proofs.BlockLaws.{at, own, own_in, last_in, between_from_block, block_from_between, last_fits}
use Rattle.ipnet_base.proofs.NestingLaws.{longer_from_subnet}
use Rattle.ipnet_base.proofs.NetworkLaws.{number_from_truncated, truncated_from_number}
use Rattle.ipnet_pools.specs.Fits.{IsFit, Without}
use Rattle.ipnet_pools.proofs.FitLaws.{with_len, start_in}

-- the number of addresses of a block
abbrev pub size : Network → ℕ
size n = 2 ^ host_bits n

-- a truncated block by its own number and its size
in_from : (n : Network) → IsTruncated n → (x : Address) → InBlock n x
    → (n.number ≤ x.number) × (x.number < n.number + size n)
in_from n t x a = (
  t x a,
  omega (arith, (between_from_block n x a).to_end, number_from_truncated n t, pow_pos (host_bits n)),
)

in_to : (n : Network) → IsTruncated n → (x : Address) → x.family ≡ n.family → n.number ≤ x.number
    → x.number < n.number + size n → InBlock n x
in_to n t x f low high = block_from_between n x (record {
  of_family = f;
  from_start = omega (arith, low, number_from_truncated n t);
  to_end = omega (arith, high, number_from_truncated n t, pow_pos (host_bits n));
})

-- numbers that p divides
abbrev IsMultiple : ℕ → ℕ → Type 0
IsMultiple p x = (q : ℕ) × (x ≡ q * p)

sum_of_multiples : (p e u v a c d : ℕ) → a ≡ (u + e) * p → c ≡ u * p → d ≡ v * p → a - c + d ≡ (e + v) * p
sum_of_multiples p e u v a c d ea ec ed = omega (arith, ea, ec, ed)

shift_multiple : (p a c d : ℕ) → 0 < p → c ≤ a → IsMultiple p a → IsMultiple p c → IsMultiple p d
    → IsMultiple p (a - c + d)
shift_multiple p a c d pos le (u, ea) (v, ec) (w, ed) =
    let ge : v ≤ u = elim (cases_lt u v) [
      | inr ge ↦ ge
      | inl lt ↦
          let more : (u + 1) * p ≤ v * p = mul-le-mul_right p (omega (arith, lt)) in
          absurd (omega (arith, more, ea, ec, le, pos))
    ] in
    let split : u ≡ v + (u - v) = omega (arith, ge) in
    (u - v + w, sum_of_multiples p (u - v) v w a c d (ea ∙ ap (λ z. z * p) split) ec ed)

multiple_back : (p x : ℕ) → 0 < p → IsMultiple p x → x ≡ x / p * p
multiple_back p x pos (q, e) =
    e ∙ sym (ap (λ z. z * p) (ap (λ z. z / p) e ∙ mul-div_cancel q pos))

-- the network k of the block c, at the same place in the block d
abbrev pub shift : Network → Network → Network → Network
shift c d k = record k { number = k.number - c.number + d.number }

-- The addresses of c in the one set are the addresses of d in the other, at the same places, and the other way round.
-- All other addresses are in both sets or in neither.
pub record IsSwapped (c d : Network) (A B : Address → Type 0) : Type 0 where
  pub to_d : (x y : Address) → InBlock c x → InBlock d y → y.number + c.number ≡ x.number + d.number → A x → B y
  pub to_c : (x y : Address) → InBlock d x → InBlock c y → y.number + d.number ≡ x.number + c.number → A x → B y
  pub other : (x : Address) → ¬ (InBlock c x) → ¬ (InBlock d x) → A x → B x

pub IsSwapped-sym : (c d : Network) (A B : Address → Type 0) → IsSwapped c d A B → IsSwapped d c A B
IsSwapped-sym c d A B s = record { to_d = s.to_c; to_c = s.to_d; other = λ x no_d no_c. s.other x no_c no_d }

-- two truncated networks of one family and length
pub record AreAlike (c d : Network) : Type 0 where
  pub c_network : IsNetwork c
  pub d_network : IsNetwork d
  pub c_truncated : IsTruncated c
  pub d_truncated : IsTruncated d
  pub family : c.family ≡ d.family
  pub len : c.prefix_len ≡ d.prefix_len

pub AreAlike-sym : (c d : Network) → AreAlike c d → AreAlike d c
AreAlike-sym c d h = record {
  c_network = h.d_network;
  d_network = h.c_network;
  c_truncated = h.d_truncated;
  d_truncated = h.c_truncated;
  family = sym h.family;
  len = sym h.len;
}

module _ (c d : Network) (alike : AreAlike c d) (k : Network) (u : IsNetwork k) (t : IsTruncated k)
    (sub : IsSubnetOf k c) where
  k_family : k.family ≡ c.family
  k_family = (sub (own k) (own_in k)).same_family

  sizes : size c ≡ size d
  sizes = ap₂ (λ f l. 2 ^ (width f - l)) alike.family alike.len

  low : c.number ≤ k.number
  low = alike.c_truncated (own k) (sub (own k) (own_in k))

  high : k.number + size k ≤ c.number + size c
  high =
      omega (
        arith,
        (in_from c alike.c_truncated (at k (last_of k)) (sub (at k (last_of k)) (last_in k))).1,
        number_from_truncated k t,
        pow_pos (host_bits k),
      )

  -- the size of k divides the number of c, and of d
  multiple_of : (n : Network) → n.family ≡ k.family → IsTruncated n → n.prefix_len ≤ k.prefix_len
      → IsMultiple (size k) n.number
  multiple_of n f tn le =
      let at_len : IsTruncated (with_len n k.prefix_len) = λ x a. tn x (start_in n k.prefix_len le x a) in
      let whole : n.number ≡ n.number / 2 ^ (width n.family - k.prefix_len) * 2 ^ (width n.family - k.prefix_len)
      = number_from_truncated (with_len n k.prefix_len) at_len in (
        n.number / size k,
        whole ∙ ap (λ z. n.number / 2 ^ (width z - k.prefix_len) * 2 ^ (width z - k.prefix_len)) f,
      )

  shift_truncated : IsTruncated (shift c d k)
  shift_truncated =
      let le : c.prefix_len ≤ k.prefix_len = longer_from_subnet k c u alike.c_network sub in
      truncated_from_number (shift c d k) (multiple_back (size k) (k.number - c.number + d.number)
      (pow_pos (host_bits k)) (shift_multiple (size k) k.number c.number d.number (pow_pos (host_bits k)) low
      (multiple_of k refl t (omega arith)) (multiple_of c (sym k_family) alike.c_truncated le)
      (multiple_of d (sym (k_family ∙ alike.family)) alike.d_truncated (omega (arith, le, alike.len)))))

  shift_network : IsNetwork (shift c d k)
  shift_network = record {
    address_fits =
        omega (
          arith,
          low,
          high,
          sizes,
          last_fits d alike.d_network,
          number_from_truncated d alike.d_truncated,
          pow_pos (host_bits d),
          pow_pos (host_bits k),
          ap (λ f. 2 ^ width f) (k_family ∙ alike.family),
        );
    prefix_fits = u.prefix_fits;
  }

  shift_in : IsSubnetOf (shift c d k) d
  shift_in y a =
      let bounds = in_from (shift c d k) shift_truncated y a in
      in_to d alike.d_truncated y (a.same_family ∙ k_family ∙ alike.family) (omega (arith, bounds.0))
      (omega (arith, bounds.1, low, high, sizes))

  -- the place that an address of the moved network comes from
  back : (x y : Address) → x.family ≡ c.family → y.number + c.number ≡ x.number + d.number
      → InBlock (shift c d k) y → InBlock k x
  back x y f off a =
      let bounds = in_from (shift c d k) shift_truncated y a in
      in_to k t x (f ∙ sym k_family) (omega (arith, bounds.0, off, low)) (omega (arith, bounds.1, off, low))

  module _ (A B : Address → Type 0) (swapped : IsSwapped c d A B) (apart : AreDisjoint c d) (f : Family) (q : ℕ)
      (fit : IsFit A f q k) where
    came_from : Address → Address
    came_from y = record { family = c.family; number = y.number - d.number + c.number }

    came_off : (y : Address) → InBlock (shift c d k) y
        → y.number + c.number ≡ (y.number - d.number + c.number) + d.number
    came_off y a = omega (arith, (in_from (shift c d k) shift_truncated y a).0)

    shift_fit : IsFit B f q (shift c d k)
    shift_fit = record {
      inside =
          record {
            network = shift_network;
            truncated = shift_truncated;
            long_enough = omega arith;
            within = λ y a.
                let x : Address = record { family = c.family; number = y.number - d.number + c.number } in
                let off : y.number + c.number ≡ x.number + d.number = came_off y a in
                let in_k : InBlock k x = back x y refl off a in
                swapped.to_d x y (sub x in_k) (shift_in y a) off (fit.inside.within x in_k);
          };
      of_family = fit.of_family;
      of_length = fit.of_length;
    }

    shift_swapped : IsSwapped c d (Without A k) (Without B (shift c d k))
    shift_swapped = record {
      to_d = λ x y cx dy off ax. (swapped.to_d x y cx dy off ax.0, λ b. ax.1 (back x y cx.same_family off b));
      to_c = λ x y dx cy off ax. (swapped.to_c x y dx cy off ax.0, λ b. apart y cy (shift_in y b));
      other = λ x no_c no_d ax. (swapped.other x no_c no_d ax.0, λ b. no_d (shift_in x b));
    }

-- a network apart from both blocks stays in its place
pub stay_fit : (c d : Network) (A B : Address → Type 0) → IsSwapped c d A B → (f : Family) (q : ℕ) (k : Network)
    → IsFit A f q k → AreDisjoint k c → AreDisjoint k d → IsFit B f q k
stay_fit c d A B swapped f q k fit no_c no_d = record {
  inside =
      record {
        network = fit.inside.network;
        truncated = fit.inside.truncated;
        long_enough = fit.inside.long_enough;
        within = λ y a. swapped.other y (λ b. no_c y a b) (λ b. no_d y a b) (fit.inside.within y a);
      };
  of_family = fit.of_family;
  of_length = fit.of_length;
}

pub stay_swapped : (c d : Network) (A B : Address → Type 0) → IsSwapped c d A B → (k : Network) → AreDisjoint k c
    → AreDisjoint k d → IsSwapped c d (Without A k) (Without B k)
stay_swapped c d A B swapped k no_c no_d = record {
  to_d = λ x y cx dy off ax. (swapped.to_d x y cx dy off ax.0, λ b. no_d y b dy);
  to_c = λ x y dx cy off ax. (swapped.to_c x y dx cy off ax.0, λ b. no_c y b cy);
  other = λ x out_c out_d ax. (swapped.other x out_c out_d ax.0, ax.1);
}

-- a shifted network, with all that is known of it
pub record IsMoved (c d : Network) (A B : Address → Type 0) (f : Family) (q : ℕ) (k m : Network) : Type 0 where
  pub fit : IsFit B f q m
  pub within : IsSubnetOf m d
  pub swapped : IsSwapped c d (Without A k) (Without B m)

pub moved : (c d : Network) (A B : Address → Type 0) → AreAlike c d → IsSwapped c d A B → AreDisjoint c d
    → (f : Family) (q : ℕ) (k : Network) → IsFit A f q k → IsSubnetOf k c → IsMoved c d A B f q k (shift c d k)
moved c d A B alike swapped apart f q k fit sub = record {
  fit = shift_fit c d alike k fit.inside.network fit.inside.truncated sub A B swapped apart f q fit;
  within = shift_in c d alike k fit.inside.network fit.inside.truncated sub;
  swapped = shift_swapped c d alike k fit.inside.network fit.inside.truncated sub A B swapped apart f q fit;
}
