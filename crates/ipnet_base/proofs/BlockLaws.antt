-- Blocks: by leading bits, by their first and last number, and by their least and greatest address.
use Rattle.std.proofs.Common.{◌≡◌, ℕ, ◌/◌, ◌^◌, ◌<◌, ◌≤◌, refl, sym, subst, arith, pow_pos, ◌↔◌}
use Rattle.ipnet_base.specs.Address.{Address, width, IsBetween, IsAddress}
use Rattle.ipnet_base.specs.Network.{Network, IsNetwork, host_bits, first_of, last_of, InBlock, IsLeastOf, IsGreatestOf}
use Rattle.ipnet_base.proofs.PrefixLaws.{block_from, block_to, in_block, first_in_block, block_end_fits}

-- the address of the network's family with this number
abbrev pub at : Network → ℕ → Address
at n y = record { family = n.family; number = y }

-- a network's own address
abbrev pub own : Network → Address
own n = record { family = n.family; number = n.number }

pub own_in : (n : Network) → InBlock n (own n)
own_in n = record { same_family = refl; same_prefix = refl }

-- a block is every address of its family from the first to the last
pub between_from_block : (n : Network) (x : Address) → InBlock n x → IsBetween n.family (first_of n) (last_of n) x
between_from_block n x h = record {
  of_family = h.same_family;
  from_start = block_from (host_bits n) x.number n.number h.same_prefix;
  to_end = omega (arith, block_to (host_bits n) x.number n.number h.same_prefix);
}

pub block_from_between : (n : Network) (x : Address) → IsBetween n.family (first_of n) (last_of n) x → InBlock n x
block_from_between n x h = record {
  same_family = h.of_family;
  same_prefix = in_block (host_bits n) x.number n.number h.from_start (omega (arith, h.to_end, pow_pos (host_bits n)));
}

pub first_in : (n : Network) → InBlock n (at n (first_of n))
first_in n = record { same_family = refl; same_prefix = first_in_block (host_bits n) n.number }

pub last_in : (n : Network) → InBlock n (at n (last_of n))
last_in n =
    block_from_between n (at n (last_of n))
    (record { of_family = refl; from_start = omega arith; to_end = omega arith })

-- what a block says at another name for its number of open bits
pub prefix_at : (n : Network) (x : Address) (m : ℕ) → host_bits n ≡ m → InBlock n x
    → x.number / 2 ^ m ≡ n.number / 2 ^ m
prefix_at n x m e h = subst (λ b. x.number / 2 ^ b ≡ n.number / 2 ^ b) e h.same_prefix

pub in_block_at : (n : Network) (x : Address) (m : ℕ) → host_bits n ≡ m → x.family ≡ n.family
    → x.number / 2 ^ m ≡ n.number / 2 ^ m → InBlock n x
in_block_at n x m e f h =
    record { same_family = f; same_prefix = subst (λ b. x.number / 2 ^ b ≡ n.number / 2 ^ b) (sym e) h }

-- a network's own number is at most the last of its block
pub own_to_last : (n : Network) → n.number ≤ last_of n
own_to_last n = (between_from_block n (own n) (own_in n)).to_end

-- the ends of a block are its first and its last number
pub IsLeastOf-first : (n : Network) (x : Address) → x.family ≡ n.family → x.number ≡ first_of n → IsLeastOf n x
IsLeastOf-first n x f e = record {
  inside = block_from_between n x (record { of_family = f; from_start = omega (arith, e); to_end = omega (arith, e) });
  least = λ y a. omega (arith, e, (between_from_block n y a).from_start);
}

pub IsGreatestOf-last : (n : Network) (x : Address) → x.family ≡ n.family → x.number ≡ last_of n → IsGreatestOf n x
IsGreatestOf-last n x f e = record {
  inside = block_from_between n x (record { of_family = f; from_start = omega (arith, e); to_end = omega (arith, e) });
  greatest = λ y a. omega (arith, e, (between_from_block n y a).to_end);
}

-- the other way: what is least or greatest is that number
pub first_from_least : (n : Network) (x : Address) → IsLeastOf n x → x.number ≡ first_of n
first_from_least n x h =
    omega (arith, h.least (at n (first_of n)) (first_in n), (between_from_block n x h.inside).from_start)

pub last_from_greatest : (n : Network) (x : Address) → IsGreatestOf n x → x.number ≡ last_of n
last_from_greatest n x h =
    omega (arith, h.greatest (at n (last_of n)) (last_in n), (between_from_block n x h.inside).to_end)

-- the last number of a block is one of the family
pub last_fits : (n : Network) → IsNetwork n → last_of n < 2 ^ width n.family
last_fits n u =
    omega (
      arith,
      block_end_fits (width n.family) (host_bits n) n.number (omega arith) u.address_fits,
      pow_pos (host_bits n),
    )

-- a network's block has a least and a greatest address
pub least_exists : (n : Network) → IsNetwork n → (x : Address) × IsAddress x × IsLeastOf n x
least_exists n u = (
  at n (first_of n),
  omega (arith, u.address_fits, block_from (host_bits n) n.number n.number refl),
  IsLeastOf-first n (at n (first_of n)) refl refl,
)

pub greatest_exists : (n : Network) → IsNetwork n → (x : Address) × IsAddress x × IsGreatestOf n x
greatest_exists n u = (at n (last_of n), last_fits n u, IsGreatestOf-last n (at n (last_of n)) refl refl)

-- and every address of its family between these two
pub block_is_between : (n : Network) (low high x : Address) → IsLeastOf n low → IsGreatestOf n high
    → InBlock n x ↔ IsBetween n.family low.number high.number x
block_is_between n low high x p q = (
  λ a. record { of_family = a.same_family; from_start = p.least x a; to_end = q.greatest x a },
  λ b. block_from_between n x (record {
    of_family = b.of_family;
    from_start = omega (arith, b.from_start, first_from_least n low p);
    to_end = omega (arith, b.to_end, last_from_greatest n high q);
  }),
)

-- a network's own number lies between the least and the greatest of its block
pub least_to_own : (n : Network) (x : Address) → IsLeastOf n x → x.number ≤ n.number
least_to_own n x h = h.least (own n) (own_in n)

pub own_to_greatest : (n : Network) (x : Address) → IsGreatestOf n x → n.number ≤ x.number
own_to_greatest n x h = h.greatest (own n) (own_in n)

-- what lies between a block's first number and one of its addresses is in the block
pub block_between : (n : Network) (x y : Address) → InBlock n x → y.family ≡ n.family → n.number ≤ y.number
    → y.number ≤ x.number → InBlock n y
block_between n x y a f low high = block_from_between n y (record {
  of_family = f;
  from_start = omega (arith, block_from (host_bits n) n.number n.number refl, low);
  to_end = omega (arith, high, (between_from_block n x a).to_end);
})
