-- Tables and maps of routes as values: which ones are equal, and which one is a clone of another.
use Rattle.std.specs.Prelude.{◌≡◌, ◌&&◌, Bool, nat_eq, List, IsTrue}
use Rattle.std.specs.Cmp.{IsPartialEquivalence, IsEquivalence, partial_equiv_from_equiv, nat_eq_equiv}
use Rattle.std.specs.Cmp.{on_equiv, and_equiv, on_per, and_per}
use Rattle.std.specs.Cmp.Lexicographic.{pointwise, lists_per, lists_equiv}
use Rattle.std.specs.List.{AllZip}
use Rattle.ipnet_base.specs.Address.{family_index}
use Rattle.ipnet_base.specs.Network.{Network}
use Rattle.ipnet_routes.specs.Routes.{Route}

-- The second list has the networks of the first, each with a clone of its value.
-- Example: 10.0.0.0/8 with 1 and 10.1.0.0/16 with 2, of the same two routes.
abbrev pub AreClones : {V : Type 0} → (V → V → Type 0) → List (Route V) → List (Route V) → Type 0
AreClones is_clone routes clones = AllZip (λ r s. (s.0 ≡ r.0) × is_clone r.1 s.1) routes clones

-- The lists have the same networks, place by place, with values that are equal by `eq`.
-- Example: 10.0.0.0/8 with 1 is not equal to 10.0.0.0/8 with 3, nor to 10.0.0.0/9 with 1.
abbrev pub AreEqual : {V : Type 0} → (V → V → Bool) → List (Route V) → List (Route V) → Type 0
AreEqual eq routes others = AllZip (λ r s. (r.0 ≡ s.0) × IsTrue (eq r.1 s.1)) routes others

-- Whether the two are one network, as a test of their numbers.
abbrev pub is_same_network : Network → Network → Bool
is_same_network n k =
    nat_eq (family_index n.family) (family_index k.family)
    && (nat_eq n.number k.number && nat_eq n.prefix_len k.prefix_len)

-- Whether the lists are `AreEqual`, as a test.
abbrev pub are_equal : {V : Type 0} → (V → V → Bool) → List (Route V) → List (Route V) → Bool
are_equal eq routes others = pointwise (λ r s. is_same_network r.0 s.0 && eq r.1 s.1) routes others

network_equiv : IsEquivalence is_same_network
network_equiv =
    and_equiv (on_equiv (λ n. family_index n.family) nat_eq_equiv)
    (and_equiv (on_equiv (λ n. n.number) nat_eq_equiv) (on_equiv (λ n. n.prefix_len) nat_eq_equiv))

-- The test is symmetric and transitive if `eq` is: what `PartialEq` asks.
pub equal_per : {V : Type 0} {eq : V → V → Bool} → IsPartialEquivalence eq → IsPartialEquivalence (are_equal eq)
equal_per per =
    lists_per (and_per (on_per (λ r. r.0) (partial_equiv_from_equiv network_equiv)) (on_per (λ r. r.1) per))

-- It is also reflexive if `eq` is: what `Eq` asks.
pub equal_equiv : {V : Type 0} {eq : V → V → Bool} → IsEquivalence eq → IsEquivalence (are_equal eq)
equal_equiv equiv = lists_equiv (and_equiv (on_equiv (λ r. r.0) network_equiv) (on_equiv (λ r. r.1) equiv))
