-- Ranges of addresses, read from both ends: the two ends that a range stores, the addresses between them, and what each
-- call returns and leaves.
use Rattle.std.specs.Prelude.{◌≡◌, ℕ, ◌+◌, ◌-◌, ◌<◌, ◌≤◌, ◌⊎◌, ⊤, Option, Some, None, List, [], ◌∷◌, map, option_map}
use Rattle.std.specs.Iterator.{MakesProgress, at_most}
use Rattle.std.specs.List.{range_with_len, filter_map}
use Rattle.ipnet_base.specs.Address.{Family, Address, address_at, family_index}

-- The family of a range, and the numbers of its first and its last address. The range is empty if `start > end`.
-- Example: 10.0.0.0 to 10.0.0.3 stores the numbers 167772160 and 167772163.
pub record AddressRange : Type 0 where
  pub family : Family
  pub start : ℕ
  pub end : ℕ

-- The numbers from `start` to `end`, ascending; none if `start > end`. Example: 3 to 5 gives 3, 4, 5.
unfoldable pub numbers_between : ℕ → ℕ → List ℕ
numbers_between start end = range_with_len start (end + 1 - start)

-- The addresses that the range still yields, ascending. Example: 10.0.0.0 to 10.0.0.3 yields four addresses.
abbrev pub addresses_of : AddressRange → List Address
addresses_of r = map (address_at r.family) (numbers_between r.start r.end)

-- The number of addresses that are left: 4 for 10.0.0.0 to 10.0.0.3, 0 for 0.0.0.5 to 0.0.0.3, 2^128 for all of IPv6.
abbrev pub address_count : AddressRange → ℕ
address_count r = r.end + 1 - r.start

-- The range of the same family with these ends.
-- Example: 10.0.0.0 to 10.0.0.3 with the ends 1 and 0 is 0.0.0.1 to 0.0.0.0, which is empty.
abbrev pub with_ends : AddressRange → ℕ → ℕ → AddressRange
with_ends r start end = record { family = r.family; start = start; end = end }

-- `next` on the range `old` returns `answer` and leaves `new`: the first address is returned and removed. After its
-- last address a range stores the ends 1 and 0.
-- Example: 0.0.0.0 to 0.0.0.0 returns 0.0.0.0, and leaves 0.0.0.1 to 0.0.0.0. An empty range returns `None` and stays
-- as it is.
pub record IsNext (old : AddressRange) (answer : Option Address) (new : AddressRange) : Type 0 where
  pub several : old.start < old.end → (answer ≡ Some (address_at old.family old.start))
      × (new ≡ with_ends old (old.start + 1) old.end)
  pub one : old.start ≡ old.end → (answer ≡ Some (address_at old.family old.start)) × (new ≡ with_ends old 1 0)
  pub none : old.end < old.start → (answer ≡ None) × (new ≡ old)

-- `next_back` on `old`: the last address is returned and removed.
-- Example: 10.0.0.0 to 10.0.0.3 returns 10.0.0.3, and leaves 10.0.0.0 to 10.0.0.2.
pub record IsNextBack (old : AddressRange) (answer : Option Address) (new : AddressRange) : Type 0 where
  pub several : old.start < old.end → (answer ≡ Some (address_at old.family old.end))
      × (new ≡ with_ends old old.start (old.end - 1))
  pub one : old.start ≡ old.end → (answer ≡ Some (address_at old.family old.start)) × (new ≡ with_ends old 1 0)
  pub none : old.end < old.start → (answer ≡ None) × (new ≡ old)

-- `nth(n)` on `old`: skips `n` addresses, and returns and removes the next. If there are too few, the range becomes
-- empty, with the ends 1 and 0.
-- Example: `nth(1)` on 10.0.0.0 to 10.0.0.3 returns 10.0.0.1, and leaves 10.0.0.2 to 10.0.0.3; `nth(4)` returns `None`.
pub record IsNth (n : ℕ) (old : AddressRange) (answer : Option Address) (new : AddressRange) : Type 0 where
  pub past : address_count old ≤ n → (answer ≡ None) × (new ≡ with_ends old 1 0)
  pub last : n + 1 ≡ address_count old → (answer ≡ Some (address_at old.family old.end)) × (new ≡ with_ends old 1 0)
  pub before : n + 1 < address_count old → (answer ≡ Some (address_at old.family (old.start + n)))
      × (new ≡ with_ends old (old.start + n + 1) old.end)

-- `nth_back(n)` on `old`: as `nth(n)`, but counted from the last address down.
-- Example: `nth_back(1)` on 10.0.0.0 to 10.0.0.3 returns 10.0.0.2, and leaves 10.0.0.0 to 10.0.0.1.
pub record IsNthBack (n : ℕ) (old : AddressRange) (answer : Option Address) (new : AddressRange) : Type 0 where
  pub past : address_count old ≤ n → (answer ≡ None) × (new ≡ with_ends old 1 0)
  pub first : n + 1 ≡ address_count old → (answer ≡ Some (address_at old.family old.start)) × (new ≡ with_ends old 1 0)
  pub after : n + 1 < address_count old → (answer ≡ Some (address_at old.family (old.end - n)))
      × (new ≡ with_ends old old.start (old.end - n - 1))

-- One call of `next` on a range type. `range_of` is the range that a value stores, and `address_of` the address that an
-- item represents. The trait promises that the first address is returned; this adds the stored ends that the call
-- leaves.
-- Example: from 10.0.0.0 to 10.0.0.3, `next` returns 10.0.0.0 and leaves the ends 10.0.0.1 and 10.0.0.3.
pub record IsRangeStep {R A : Type 0} (address_of : A → Address) (range_of : R → AddressRange) (old : R)
    (answer : Option A) (new : R) : Type 0 where
  -- The standard library requires this of each `next`: fewer addresses are left. A `for` loop uses its fields `on`,
  -- `keeps` and `rests`. Example: at most 4 are left of 10.0.0.0 to 10.0.0.3, and at most 3 after the call.
  pub progress : MakesProgress (λ _. ⊤) (λ r. at_most (address_count (range_of r))) old answer new
  pub open progress use *
  pub ends : IsNext (range_of old) (option_map address_of answer) (range_of new)

-- One call of `next_back` on a range type: it adds the stored ends that the call leaves.
-- Example: from 10.0.0.0 to 10.0.0.3, `next_back` returns 10.0.0.3 and leaves the ends 10.0.0.0 and 10.0.0.2.
pub record IsRangeStepBack {R A : Type 0} (address_of : A → Address) (range_of : R → AddressRange) (old : R)
    (answer : Option A) (new : R) : Type 0 where
  -- Fewer addresses are left after each item, as for `next`.
  pub progress : MakesProgress (λ _. ⊤) (λ r. at_most (address_count (range_of r))) old answer new
  pub open progress use *
  pub ends : IsNextBack (range_of old) (option_map address_of answer) (range_of new)

-- A call on a range.
pub data Call : Type 0 where
  Next : Call
  NextBack : Call
  Nth : ℕ → Call
  NthBack : ℕ → Call

-- This call on `old` returns `answer` and leaves `new`.
abbrev pub IsCall : Call → AddressRange → Option Address → AddressRange → Type 0
IsCall Next = IsNext
IsCall NextBack = IsNextBack
IsCall (Nth n) = IsNth n
IsCall (NthBack n) = IsNthBack n

-- The call skips no address: `next`, `next_back`, `nth(0)` and `nth_back(0)`.
abbrev pub SkipsNone : Call → Type 0
SkipsNone Next = ⊤
SkipsNone NextBack = ⊤
SkipsNone (Nth n) = n ≡ 0
SkipsNone (NthBack n) = n ≡ 0

-- A call, and what it returned.
pub record Step : Type 0 where
  pub call : Call
  pub answer : Option Address

-- The calls, made in this order on the range `r`, returned what the steps record, and left the range `s`.
-- Example: `next`, `next_back`, `next` on 10.0.0.0 to 10.0.0.3 return 10.0.0.0, 10.0.0.3, 10.0.0.1, and leave 10.0.0.2
-- to 10.0.0.2.
abbrev pub IsRun : AddressRange → List Step → AddressRange → Type 0
IsRun r [] s = r ≡ s
IsRun r (step ∷ steps) s = (next : AddressRange) × IsCall step.call r step.answer next × IsRun next steps s

-- The addresses that these steps returned, in order, without the `None`s.
abbrev pub given : List Step → List Address
given steps = filter_map (λ step. step.answer) steps

-- The order of ranges: IPv4 before IPv6, then by the stored start, then by the stored end.
-- Example: 0.0.0.1 to 0.0.0.0, which is empty, comes before 0.0.0.1 to 0.0.0.9.
abbrev pub IsRangeBefore : AddressRange → AddressRange → Type 0
IsRangeBefore r s = (family_index r.family < family_index s.family)
    ⊎ ((r.family ≡ s.family) × ((r.start < s.start) ⊎ ((r.start ≡ s.start) × (r.end < s.end))))
