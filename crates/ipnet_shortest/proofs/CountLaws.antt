-- The numbers of addresses of sets: subsets, unions, and sets that can be decided.
use Rattle.std.proofs.Common.{◌≡◌, ◌≢◌, ℕ, ◌+◌, ◌^◌, ◌<◌, ◌≤◌, ◌⊎◌, ◌↔◌, inl, inr}
use Rattle.std.proofs.Common.{List, [], ◌∷◌, ◌++◌, length, Contains, AllPairs}
use Rattle.std.proofs.Common.{refl, sym, ap, ◌∙◌, subst, arith}
use Rattle.std.proofs.lemmas.List.{length-append}
use Rattle.std.proofs.lemmas.List.Elements.{Contains-append_left, Contains-append_right, Contains-append_cases}
use Rattle.std.proofs.lemmas.Nat.{pow_pos}
use Rattle.ipnet_base.specs.Address.{Address}
use Rattle.ipnet_base.specs.Network.{Network, InBlock, host_bits, first_of, last_of}
use Rattle.ipnet_base.specs.Ranges.{AddressRange, addresses_of}
use Rattle.ipnet_base.proofs.BlockLaws.{between_from_block, block_from_between}
use Rattle.ipnet_base.proofs.DecidedLaws.{IsDecided}
use Rattle.ipnet_base.proofs.ListLaws.{partners_no_more, pairs_weaker, pairs_cons, pairs_append, pairs_head, pairs_tail}
use Rattle.ipnet_base.proofs.ListLaws.{contains_here, contains_there, contains_cases, contains_nil}
use Rattle.ipnet_base.proofs.RangeLaws.{length-addresses_of, between_from_contains, contains_from_between}
use Rattle.ipnet_base.proofs.RangeLaws.{addresses_ascend}
use Rattle.ipnet_sets.specs.Members.{IsCountOf}

-- two sets with the same addresses have the same count
pub same_count : (A B : Address → Type 0) (n : ℕ) → ((x : Address) → A x ↔ B x) → IsCountOf A n → IsCountOf B n
same_count A B n same h = record {
  addresses = h.addresses;
  once = h.once;
  members = λ x. (λ c. (same x).0 ((h.members x).0 c), λ b. (h.members x).1 ((same x).1 b));
  count = h.count;
}

-- a subset has no more addresses
pub no_more : (A B : Address → Type 0) (m n : ℕ) → ((x : Address) → A x → B x) → IsCountOf A m → IsCountOf B n → m ≤ n
no_more A B m n within h k = omega (
  arith,
  h.count,
  k.count,
  partners_no_more (λ x y. x ≡ y) h.addresses k.addresses
      (λ x c. (x, (k.members x).1 (within x ((h.members x).0 c)), refl))
      (pairs_weaker (λ x z. x ≢ z) (λ x z. (y : Address) → x ≡ y → z ≡ y → ⊥)
      (λ x z ne y e g. ne (e ∙ sym g)) h.addresses h.once),
)

-- a set has one count
pub one_count : (A : Address → Type 0) (m n : ℕ) → IsCountOf A m → IsCountOf A n → m ≡ n
one_count A m n h k = omega (arith, no_more A A m n (λ x a. a) h k, no_more A A n m (λ x a. a) k h)

-- a set without an address has the count 0
pub count_of_none : (A : Address → Type 0) → ((x : Address) → A x → ⊥) → IsCountOf A 0
count_of_none A none = record {
  addresses = [];
  once = λ i j d l m. absurd (omega (arith, m));
  members = λ x. (λ c. absurd (contains_nil x c), λ a. absurd (none x a));
  count = refl;
}

-- and a set with the count 0 has no address
pub counted_none : (A : Address → Type 0) (x : Address) → IsCountOf A 0 → A x → ⊥
counted_none A x h a = let c = (h.members x).1 a in omega (arith, c.1, h.count)

-- the counts of two sets that share no address add up
pub joined_count : (First Second Both : Address → Type 0) (m n : ℕ) → ((x : Address) → Both x ↔ (First x ⊎ Second x))
    → ((x : Address) → First x → Second x → ⊥) → IsCountOf First m → IsCountOf Second n → IsCountOf Both (m + n)
joined_count First Second Both m n parts apart a b = record {
  addresses = a.addresses ++ b.addresses;
  once = pairs_append (λ x y. x ≢ y) a.addresses b.addresses a.once b.once
      (λ x y c d e. apart y (subst First e ((a.members x).0 c)) ((b.members y).0 d));
  members = λ x. (
    λ c. elim (Contains-append_cases a.addresses b.addresses x c) [
      | inl d ↦ (parts x).1 (inl ((a.members x).0 d))
      | inr d ↦ (parts x).1 (inr ((b.members x).0 d))
    ],
    λ h. elim ((parts x).0 h) [
      | inl first ↦ Contains-append_left a.addresses b.addresses x ((a.members x).1 first)
      | inr second ↦ Contains-append_right a.addresses b.addresses x ((b.members x).1 second)
    ],
  );
  count = length-append a.addresses b.addresses ∙ omega (arith, a.count, b.count);
}

-- the addresses of a block can be listed
pub block_counted : (n : Network) → IsCountOf (InBlock n) (2 ^ host_bits n)
block_counted n = record {
  addresses = addresses_of block;
  once = pairs_weaker (λ x y. x.number < y.number) (λ x y. x ≢ y)
      (λ x y lt e. omega (arith, lt, ap (λ z. z.number) e)) (addresses_of block) (addresses_ascend block);
  members = λ x. (
    λ c. block_from_between n x (between_from_contains block x c),
    λ b. contains_from_between block x (between_from_block n x b),
  );
  count = omega (arith, length-addresses_of block, pow_pos (host_bits n));
}
  where
    block : AddressRange
    block = record { family = n.family; start = first_of n; end = last_of n }

record IsPicked (A : Address → Type 0) (xs : List Address) : Type 0 where
  addresses : List Address
  once : AllPairs (λ x y. x ≢ y) addresses
  members : (x : Address) → Contains addresses x ↔ (Contains xs x × A x)

-- the members of a list that are in a set
picked : (A : Address → Type 0) → IsDecided A → (xs : List Address) → AllPairs (λ x y. x ≢ y) xs → IsPicked A xs
picked A decided [] once = record {
  addresses = [];
  once = once;
  members = λ x. (λ c. absurd (contains_nil x c), λ b. b.0);
}
picked A decided (x ∷ xs) once =
    let rest = picked A decided xs (pairs_tail (λ a b. a ≢ b) x xs once) in
    elim (decided x) [
      | inl a ↦ record {
        addresses = x ∷ rest.addresses;
        once = pairs_cons (λ u v. u ≢ v) x rest.addresses
            (λ y c. pairs_head (λ u v. u ≢ v) x xs once y ((rest.members y).0 c).0) rest.once;
        members = λ y. (
          λ c. elim (contains_cases x rest.addresses y c) [
            | inl e ↦ (subst (Contains (x ∷ xs)) e (contains_here x xs), subst A e a)
            | inr d ↦ let b = (rest.members y).0 d in (contains_there x xs y b.0, b.1)
          ],
          λ b. elim (contains_cases x xs y b.0) [
            | inl e ↦ subst (Contains (x ∷ rest.addresses)) e (contains_here x rest.addresses)
            | inr d ↦ contains_there x rest.addresses y ((rest.members y).1 (d, b.1))
          ],
        );
      }
      | inr out ↦ record {
        addresses = rest.addresses;
        once = rest.once;
        members = λ y. (
          λ c. let b = (rest.members y).0 c in (contains_there x xs y b.0, b.1),
          λ b. elim (contains_cases x xs y b.0) [
            | inl e ↦ absurd (out (subst A (sym e) b.1))
            | inr d ↦ (rest.members y).1 (d, b.1)
          ],
        );
      }
    ]

-- the part of a block that is in a set that can be decided has a count
pub part_counted : (A : Address → Type 0) → IsDecided A → (n : Network)
    → (count : ℕ) × IsCountOf (λ x. InBlock n x × A x) count
part_counted A decided n =
    let block = block_counted n in
    let part = picked A decided block.addresses block.once in (
      length part.addresses,
      record {
        addresses = part.addresses;
        once = part.once;
        members = λ x. (
          λ c. let b = (part.members x).0 c in ((block.members x).0 b.0, b.1),
          λ i. (part.members x).1 ((block.members x).1 i.0, i.1),
        );
        count = refl;
      },
    )
