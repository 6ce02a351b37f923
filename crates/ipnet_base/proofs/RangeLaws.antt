-- The list that a range yields: its length, its ends, the item at a place, the items between two places, its members.
use Rattle.std.proofs.Common.{◌≡◌, ℕ, ◌+◌, ◌-◌, ◌<◌, ◌≤◌, Some, None, [], ◌∷◌, ◌++◌, length, map, take, drop, reverse}
use Rattle.std.proofs.Common.{slice_get, slice_index_or, Contains, AllPairs, refl, sym, ap, ap₂, ◌∙◌, subst, arith}
use Rattle.std.proofs.Common.{zero, suc}
use Rattle.std.specs.List.{range_with_len}
use Rattle.std.proofs.lemmas.List.{length-reverse, get_or-reverse}
use Rattle.std.proofs.lemmas.List.FromFn.{length-map-range_with_len, get_or-map-range_with_len, map-range_with_len_more}
use Rattle.std.proofs.lemmas.List.FromFn.{take-map-range_with_len}
use Rattle.std.proofs.lemmas.Option.{slice_get-get_or, slice_get_past}
use Rattle.ipnet_base.specs.Address.{Address, IsBetween, address_at}
use Rattle.ipnet_base.specs.Ranges.{AddressRange, numbers_between, addresses_of, address_count, with_ends}

pub length-addresses_of : (r : AddressRange) → length (addresses_of r) ≡ address_count r
unfolding numbers_between
length-addresses_of r = length-map-range_with_len (address_at r.family) r.start (address_count r)

pub addresses_none : (r : AddressRange) → r.end < r.start → addresses_of r ≡ []
unfolding numbers_between
addresses_none r h =
    let none : address_count r ≡ 0 = omega arith in
    ap (λ n. map (address_at r.family) (range_with_len r.start n)) none

pub addresses_first : (r : AddressRange) → r.start ≤ r.end
    → addresses_of r ≡ address_at r.family r.start ∷ addresses_of (with_ends r (r.start + 1) r.end)
unfolding numbers_between
addresses_first r h =
    let more : address_count r ≡ suc (r.end + 1 - (r.start + 1)) = omega arith in
    ap (λ n. map (address_at r.family) (range_with_len r.start n)) more

pub addresses_last : (r : AddressRange) → r.start ≤ r.end → 0 < r.end
    → addresses_of r ≡ addresses_of (with_ends r r.start (r.end - 1)) ++ address_at r.family r.end ∷ []
unfolding numbers_between
addresses_last r h pos =
    let more : address_count r ≡ r.end - 1 + 1 - r.start + 1 = omega arith in
    ap (λ n. map (address_at r.family) (range_with_len r.start n)) more
    ∙ map-range_with_len_more (address_at r.family) r.start (r.end - 1 + 1 - r.start) r.end (omega arith)

-- a range of one address, and one of which nothing is left
pub addresses_one : (r : AddressRange) → r.start ≡ r.end → addresses_of r ≡ address_at r.family r.start ∷ []
addresses_one r e =
    addresses_first r (omega arith)
    ∙ ap (λ xs. address_at r.family r.start ∷ xs) (addresses_none (with_ends r (r.start + 1) r.end) (omega arith))

pub used_up : (r : AddressRange) → addresses_of (with_ends r 1 0) ≡ []
used_up r = addresses_none (with_ends r 1 0) (omega arith)

-- the item at a place, from the start and from the end
pub addresses_at : (r : AddressRange) (n : ℕ) → n < address_count r
    → slice_get (addresses_of r) n ≡ Some (address_at r.family (r.start + n))
unfolding numbers_between
addresses_at r n h =
    slice_get-get_or (addresses_of r) n (address_at r.family 0) (omega (arith, length-addresses_of r, h))
    ∙ ap Some (get_or-map-range_with_len (address_at r.family) r.start (address_count r) n (r.start + n)
    (address_at r.family 0) h refl)

pub addresses_past : (r : AddressRange) (n : ℕ) → address_count r ≤ n → slice_get (addresses_of r) n ≡ None
addresses_past r n h = slice_get_past (addresses_of r) n (omega (arith, length-addresses_of r, h))

pub addresses_back_at : (r : AddressRange) (n : ℕ) → n < address_count r
    → slice_get (reverse (addresses_of r)) n ≡ Some (address_at r.family (r.end - n))
unfolding numbers_between
addresses_back_at r n h =
    let len = length-addresses_of r in
    slice_get-get_or (reverse (addresses_of r)) n (address_at r.family 0)
    (omega (arith, len, length-reverse (addresses_of r), h))
    ∙ ap Some
    (get_or-reverse (addresses_of r) n (address_at r.family 0) (omega (arith, len, h))
    ∙ get_or-map-range_with_len (address_at r.family) r.start (address_count r) (length (addresses_of r) - 1 - n)
    (r.end - n) (address_at r.family 0) (omega (arith, len, h)) (omega (arith, len, h)))

pub addresses_back_past : (r : AddressRange) (n : ℕ) → address_count r ≤ n
    → slice_get (reverse (addresses_of r)) n ≡ None
addresses_back_past r n h =
    slice_get_past (reverse (addresses_of r)) n
    (omega (arith, length-addresses_of r, length-reverse (addresses_of r), h))

drop-range_with_len : (f : ℕ → Address) (a c k : ℕ)
    → drop k (map f (range_with_len a c)) ≡ map f (range_with_len (a + k) (c - k))
drop-range_with_len f a c zero = ap₂ (λ x n. map f (range_with_len x n)) (omega arith) (omega arith)
drop-range_with_len f a zero (suc k) =
    let none : zero - suc k ≡ zero = omega arith in
    ap (λ n. map f (range_with_len (a + suc k) n)) (sym none)
drop-range_with_len f a (suc c) (suc k) =
    drop-range_with_len f (a + 1) c k
    ∙ ap₂ (λ x n. map f (range_with_len x n)) (omega arith) (omega arith)

-- what is left of the list from a place on, and up to one
pub addresses_from : (r : AddressRange) (k : ℕ)
    → drop k (addresses_of r) ≡ addresses_of (with_ends r (r.start + k) r.end)
unfolding numbers_between
addresses_from r k =
    drop-range_with_len (address_at r.family) r.start (address_count r) k
    ∙ ap (λ n. map (address_at r.family) (range_with_len (r.start + k) n)) (omega arith)

pub addresses_up_to : (r : AddressRange) (k : ℕ) → k < address_count r
    → take (address_count r - k) (addresses_of r) ≡ addresses_of (with_ends r r.start (r.end - k))
unfolding numbers_between
addresses_up_to r k h =
    take-map-range_with_len (address_at r.family) r.start (address_count r) (address_count r - k) (omega arith)
    ∙ ap (λ n. map (address_at r.family) (range_with_len r.start n)) (omega arith)

address_in_list : (r : AddressRange) (k : ℕ) (d : Address) → k < address_count r
    → slice_index_or (addresses_of r) k d ≡ address_at r.family (r.start + k)
unfolding numbers_between
address_in_list r k d h =
    get_or-map-range_with_len (address_at r.family) r.start (address_count r) k (r.start + k) d h refl

pub between_from_contains : (r : AddressRange) (x : Address) → Contains (addresses_of r) x
    → IsBetween r.family r.start r.end x
between_from_contains r x c =
    let within : c.0 < address_count r = omega (arith, c.1, length-addresses_of r) in
    let is : address_at r.family (r.start + c.0) ≡ x = sym (address_in_list r c.0 x within) ∙ c.2 in
    subst (IsBetween r.family r.start r.end) is
    (record { of_family = refl; from_start = omega arith; to_end = omega arith })

pub contains_from_between : (r : AddressRange) (x : Address) → IsBetween r.family r.start r.end x
    → Contains (addresses_of r) x
contains_from_between r x b =
    let k : ℕ = x.number - r.start in
    let within : k < address_count r = omega (arith, b.from_start, b.to_end) in
    let place : r.start + k ≡ x.number = omega (arith, b.from_start) in (
      k,
      omega (arith, within, length-addresses_of r),
      address_in_list r k x within ∙ ap (address_at r.family) place
          ∙ ap (λ f. record { family = f; number = x.number }) (sym b.of_family),
    )

pub addresses_ascend : (r : AddressRange) → AllPairs (λ x y. x.number < y.number) (addresses_of r)
addresses_ascend r i j d lt l =
    let len = length-addresses_of r in
    let at_i = ap (λ (x : Address). x.number) (address_in_list r i d (omega (arith, lt, l, len))) in
    let at_j = ap (λ (x : Address). x.number) (address_in_list r j d (omega (arith, l, len))) in
    omega (arith, at_i, at_j, lt)
