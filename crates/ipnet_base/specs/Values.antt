-- What `==`, the order, the hash and the clone of a type do, once for all types. The `view` of a value is what it
-- represents: the network of an `Ipv4Net`, or the family and stored ends of an `IpAddrRange`.
use Rattle.std.specs.Prelude.{◌≡◌, ◌↔◌, ℕ, Bool, IsTrue, List, Option, Some}
use Rattle.std.specs.Ordering.{MatchOrdering}
use Rattle.std.specs.declared.cmp.Ordering.{Ordering}

-- `==` is true if and only if the two views are equal, and then the values are equal too. `cmp` and `partial_cmp` order
-- the values by their views, with `IsBefore`.
-- Example: 10.0.0.0/24 and 10.0.0.1/24 are not equal, and the first is `Less`. The empty ranges 0.0.0.5 to 0.0.0.3 and
-- 0.0.0.1 to 0.0.0.0 are not equal either.
pub record ComparesBy {T V : Type 0} (view : T → V) (IsBefore : V → V → Type 0)
    (eq : T → T → Bool) (cmp : T → T → Ordering) (partial_cmp : T → T → Option Ordering) (a b : T) : Type 0 where
  pub equality : IsTrue (eq a b) ↔ (view a ≡ view b)
  pub one_to_one : view a ≡ view b → a ≡ b
  pub order : MatchOrdering (cmp a b) (IsBefore (view a) (view b)) (view a ≡ view b) (IsBefore (view b) (view a))
  pub partial_order : partial_cmp a b ≡ Some (cmp a b)

-- Two values feed a hasher the same bytes if and only if their views are equal.
-- Example: 10.0.0.1/24 and 10.0.0.0/24 feed it different bytes.
abbrev pub HashesBy : {T V : Type 0} → (T → V) → (T → List (List ℕ)) → T → T → Type 0
HashesBy view hash_input a b = (hash_input a ≡ hash_input b) ↔ (view a ≡ view b)

-- `==` is true if and only if the two values are the same, as for errors.
-- Example: `CompactError::Length` and `CompactError::Prefix` are not equal.
abbrev pub EqualsExactly : {T : Type 0} → (T → T → Bool) → Type 0
EqualsExactly {T} eq = (a b : T) → IsTrue (eq a b) ↔ (a ≡ b)

-- `clone` returns the same value, and never fails, although its type, a `Result`, would allow an error.
pub record ClonesExactly {T : Type 0} (is_clone : T → T → Type 0) (is_infallible : T → Type 0) : Type 0 where
  pub same : (a b : T) → is_clone a b → b ≡ a
  pub sure : (a : T) → is_infallible a
