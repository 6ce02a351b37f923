-- Consequences of the derived `==` on two lists of networks.
use Rattle.std.proofs.Common.{◌≡◌, ℕ, ◌*◌, ◌+◌, ◌/◌, ◌%◌, ◌^◌, ◌&&◌, ◌↔◌, Bool, true, IsTrue, eqb, List, [], ◌∷◌}
use Rattle.std.proofs.Common.{map, refl, sym, ap, ap₂, ◌∙◌, arith, eq-eqb}
use Rattle.std.proofs.lemmas.Bool.{eqb-true, and_parts, and_from}
use Rattle.std.proofs.lemmas.Bool.Decides.{nat_tests}
use lib.Pointwise.{pointwise}
use Rattle.ipnet_base.specs.Network.{IsNetwork}
use Rattle.ipnet_base.specs.Blocks.{HaveSameCover, IsAggregateOf}
use Rattle.ipnet_base.proofs.AggregateLaws.{same_aggregate_iff_same_cover}
use Rattle.ipnet_base.proofs.ListLaws.{All-read}
use Rattle.ipnet.specs.declared.net.IpNet.{IpNet}
use Rattle.ipnet.specs.declared.net.IpNet.TheVariants.{V4, V6}
use Rattle.ipnet.specs.contracts.net.IpNetPartialEq.TheImpl.{eq-value}
use Rattle.ipnet.specs.NetworkOf.{ipv4_network_of, ipv6_network, ip_network}
use Rattle.ipnet.specs.NetLaws.{ip_valid, ip_one_to_one}

three_equal : (a b c d p q : ℕ) → (eqb a b && (eqb c d && eqb p q) ≡ true) ↔ ((a ≡ b) × ((c ≡ d) × (p ≡ q)))
three_equal a b c d p q = (
  λ h. (grind (arith, nat_tests), (grind (arith, nat_tests), grind (arith, nat_tests))),
  λ e. grind (arith, nat_tests),
)

-- `==` of two networks is true if and only if they are equal
ip_equal : (x y : IpNet) → (eq-value.it x y ≡ true) ↔ (x ≡ y)
ip_equal (V4 x) (V4 y) = (
  λ h. let same : x.word ≡ y.word = eqb-true x.word y.word h in
      ip_one_to_one (V4 x) (V4 y) (ap (λ w. ipv4_network_of (w / 2 ^ 32) (w % 2 ^ 32)) same),
  λ e. let both : x ≡ y = cc in eq-eqb x.word y.word (ap (λ n. n.word) both),
)
ip_equal (V4 x) (V6 y) = (λ h. cc, λ e. cc)
ip_equal (V6 x) (V4 y) = (λ h. cc, λ e. cc)
ip_equal (V6 x) (V6 y) = (
  λ h. let e = (three_equal x.high y.high x.low y.low x.prefix_len y.prefix_len).0 h in
      ip_one_to_one (V6 x) (V6 y)
      (λ i. record (ipv6_network x) { number = e.0 i * 2 ^ 64 + e.1.0 i; prefix_len = e.1.1 i }),
  λ e. let number : x.high * 2 ^ 64 + x.low ≡ y.high * 2 ^ 64 + y.low = ap (λ n. (ip_network n).number) e in
      (three_equal x.high y.high x.low y.low x.prefix_len y.prefix_len).1 (
        omega (arith, x.low_fits, y.low_fits),
        (omega (arith, x.low_fits, y.low_fits), ap (λ n. (ip_network n).prefix_len) e),
      ),
)

-- so are two lists
pub lists_equal : {X : Type 0} (E : X → X → Bool) → ((x y : X) → (E x y ≡ true) ↔ (x ≡ y)) → (xs ys : List X)
    → (pointwise E xs ys ≡ true) ↔ (xs ≡ ys)
lists_equal E h [] [] = (λ e. refl, λ e. refl)
lists_equal E h [] (y ∷ ys) = (λ e. cc, λ e. cc)
lists_equal E h (x ∷ xs) [] = (λ e. cc, λ e. cc)
lists_equal E h (x ∷ xs) (y ∷ ys) = (
  λ e. let both = and_parts (E x y) (pointwise E xs ys) e in
      ap₂ (λ z zs. z ∷ zs) ((h x y).0 both.0) ((lists_equal E h xs ys).0 both.1),
  λ e. let head : x ≡ y = cc in let tail : xs ≡ ys = cc in
      and_from (E x y) (pointwise E xs ys) ((h x y).1 head) ((lists_equal E h xs ys).1 tail),
)

-- lists of values that stand for the same networks are one
read_one_to_one : {X Y : Type 0} (f : X → Y) → ((x y : X) → f x ≡ f y → x ≡ y) → (xs ys : List X)
    → map f xs ≡ map f ys → xs ≡ ys
read_one_to_one f h [] [] e = refl
read_one_to_one f h [] (y ∷ ys) e = cc
read_one_to_one f h (x ∷ xs) [] e = cc
read_one_to_one f h (x ∷ xs) (y ∷ ys) e =
    let heads : f x ≡ f y = cc in
    let tails : map f xs ≡ map f ys = cc in
    ap₂ (λ z zs. z ∷ zs) (h x y heads) (read_one_to_one f h xs ys tails)

-- the aggregates of two lists are equal if and only if the lists cover the same addresses
pub equal_tells_cover : (networks others answer other : List IpNet) (result : Bool)
    → result ≡ pointwise eq-value.it answer other
    → IsAggregateOf (map ip_network answer) (map ip_network networks)
    → IsAggregateOf (map ip_network other) (map ip_network others)
    → IsTrue result ↔ HaveSameCover (map ip_network networks) (map ip_network others)
equal_tells_cover networks others answer other result e h k =
    let cover = same_aggregate_iff_same_cover (map ip_network networks) (map ip_network others)
    (map ip_network answer) (map ip_network other)
    (All-read IsNetwork ip_network ip_valid networks) (All-read IsNetwork ip_network ip_valid others) h k in
    let lists = lists_equal eq-value.it ip_equal answer other in (
      λ t. cover.0 (ap (map ip_network) (lists.0 (sym e ∙ t))),
      λ same. e ∙ lists.1 (read_one_to_one ip_network ip_one_to_one answer other (cover.1 same)),
    )
