-- Each table has one image, and each image is of one table.
use Rattle.std.proofs.Common.{◌≡◌, ℕ, zero, suc, ◌+◌, ◌-◌, ◌*◌, ◌^◌, ◌<◌, ◌≤◌, List, length, get_or, Contains, All}
use Rattle.std.proofs.Common.{sym, ap, ap₂, ◌∙◌, subst, subst₂, arith, inl, inr}
use Rattle.std.proofs.lemmas.Bool.{cases_lt, cases_order}
use Rattle.std.proofs.lemmas.List.{get_or_past, ext_get_or, length-map}
use Rattle.ipnet_base.specs.Address.{IPv4, IPv6}
use Rattle.ipnet_base.specs.Network.{Network}
use Rattle.ipnet_base.proofs.ListLaws.{contains_at, at_place}
use Rattle.ipnet.specs.NetworkOf.{ipv4_network_of}
use Rattle.ipnet_sets.specs.Images.{number_from}
use Rattle.ipnet_routes.specs.Routes.{Route, networks_of}
use Rattle.ipnet_routes.specs.RouteSteps.{IsPlaceOf}
use Rattle.ipnet_routes.specs.TableImages.{stated_routes, stated_index, stated_bits, route_count, route_place}
use Rattle.ipnet_routes.specs.TableImages.{index_place, number_width, link_width, bucket_start, index_bits, index_size}
use Rattle.ipnet_routes.specs.TableImages.{IsRowAt, IsRouteAt, IsLinkedAt, AreRoutesIn, IsTableIn, IsTableImageOf}
use Rattle.ipnet_routes.proofs.RouteLaws.{not_back}
use Rattle.ipnet_routes.proofs.TableImageLaws.{IsStored, stored_route}
use Rattle.ipnet_routes.proofs.TableRowLaws.{row_size}
use Rattle.ipnet_routes.proofs.TableCheckLaws.{network_once, nearest_once}

-- ---- bytes that hold the same numbers

abbrev pub AreBytes : List ℕ → Type 0
AreBytes bytes = All (λ byte. byte < 2 ^ 8) bytes

byte_at : (bytes : List ℕ) → AreBytes bytes → (i : ℕ) → get_or bytes i 0 < 256
byte_at bytes h i = elim (cases_lt i (length bytes)) [
  | inl l ↦ h i 0 l
  | inr ge ↦ omega (arith, get_or_past bytes i 0 ge)
]

-- equal numbers have equal bytes
pub same_in : (w : ℕ) (a b : List ℕ) (at : ℕ) → AreBytes a → AreBytes b → number_from w a at ≡ number_from w b at
    → (i : ℕ) → at ≤ i → i < at + w → get_or a i 0 ≡ get_or b i 0
unfolding number_from
same_in zero a b at p q e i le lt = absurd (omega (arith, le, lt))
same_in (suc w) a b at p q e i le lt = elim (cases_order at i) [
  | inl same ↦ subst (λ k. get_or a k 0 ≡ get_or b k 0) same (omega (arith, e, byte_at a p at, byte_at b q at))
  | inr (inl less) ↦ same_in w a b (at + 1) p q (omega (arith, e, byte_at a p at, byte_at b q at)) i
      (omega (arith, less)) (omega (arith, lt))
  | inr (inr more) ↦ absurd (omega (arith, more, le))
]

-- the bytes before the place are the same
abbrev AreSameTo : List ℕ → List ℕ → ℕ → Type 0
AreSameTo a b place = (i : ℕ) → i < place → get_or a i 0 ≡ get_or b i 0

-- the place of a network is one
place_once : (ns : List Network) (n : Network) (p q : ℕ) → IsPlaceOf ns n p → IsPlaceOf ns n q → p ≡ q
place_once ns n p q h g = omega (arith, below p q h g, below q p g h)
  where
    below : (p q : ℕ) → IsPlaceOf ns n p → IsPlaceOf ns n q → q ≤ p
    below p q h g = elim (cases_lt p q) [
      | inl less ↦
          let k = get_or ns p n in
          let c : Contains ns k = contains_at ns p n (omega (arith, less, g.within)) in
          absurd (not_back k n (g.before k c less) (h.from k c (omega arith)))
      | inr ge ↦ ge
    ]

-- ---- one image for each table

-- as many of the routes are IPv4 routes by both headers
ipv4_at_most : (a b : List ℕ) (routes : List (Route ℕ)) → AreRoutesIn a (route_count a) routes
    → AreRoutesIn b (route_count b) routes → stated_routes a IPv4 ≤ stated_routes b IPv4
ipv4_at_most a b routes h g = elim (cases_lt (stated_routes b IPv4) (stated_routes a IPv4)) [
  | inl less ↦
      let i = stated_routes b IPv4 in
      let s = stored_route a routes h i (omega (arith, less)) in
      let ipv4 = s.1.linked.stored.in_part.1 less in
      let before : s.1.member.0 < i = (g.held s.0 s.1.member).stored.in_part.0 ipv4 in
      absurd (omega (arith, before, s.1.member_at))
  | inr ge ↦ ge
]

-- bytes that begin with the same header and hold the same table are the same up to the end of the index
module _ (a b : List ℕ) (p : AreBytes a) (q : AreBytes b) (routes : List (Route ℕ)) (h : IsTableIn a routes)
    (g : IsTableIn b routes) (magic : number_from 8 a 0 ≡ number_from 8 b 0)
    (version : number_from 8 a 8 ≡ number_from 8 b 8) where
  held_a : AreRoutesIn a (route_count a) routes
  held_a = h.held

  held_b : AreRoutesIn b (route_count b) routes
  held_b = g.held

  ipv4_same : stated_routes a IPv4 ≡ stated_routes b IPv4
  ipv4_same = omega (arith, ipv4_at_most a b routes held_a held_b, ipv4_at_most b a routes held_b held_a)

  ipv6_same : stated_routes a IPv6 ≡ stated_routes b IPv6
  ipv6_same = omega (arith, ipv4_same, held_a.as_many, held_b.as_many)

  -- one number more
  same_on : (w at : ℕ) → number_from w a at ≡ number_from w b at → AreSameTo a b at → AreSameTo a b (at + w)
  same_on w at e same i l = elim (cases_lt i at) [
    | inl lt ↦ same i lt
    | inr ge ↦ same_in w a b at p q e i ge l
  ]

  header_same : AreSameTo a b 32
  header_same = same_on 8 24 ipv6_same (same_on 8 16 ipv4_same (same_on 8 8 version
      (same_on 8 0 magic (λ i l. absurd (omega (arith, l))))))

  row_same : (at : ℕ) (n : Network) (value link : ℕ) → IsRowAt a at n value link → IsRowAt b at n value link
      → AreSameTo a b at → AreSameTo a b (at + number_width n.family + 4 + 4 + link_width n.family)
  row_same at n value link x y same =
      let eight : at + number_width n.family + 4 + 4 ≡ at + number_width n.family + 8 = omega arith in
      same_on (link_width n.family) (at + number_width n.family + 4 + 4)
      (ap (number_from (link_width n.family) a) eight ∙ x.link_is ∙ sym y.link_is
      ∙ ap (number_from (link_width n.family) b) (sym eight))
      (same_on 4 (at + number_width n.family + 4) (x.value_is ∙ sym y.value_is)
      (same_on 4 (at + number_width n.family) (x.prefix_len ∙ sym y.prefix_len)
      (same_on (number_width n.family) at (x.number ∙ sym y.number) same)))

  rows_same : (count : ℕ) → count ≤ route_count a → AreSameTo a b (route_place a count)
  rows_same zero l = subst (AreSameTo a b) (omega arith) header_same
  rows_same (suc i) l =
      let s = stored_route a routes held_a i (omega (arith, l)) in
      let x : IsLinkedAt a (networks_of routes) i s.0 = s.1.linked in
      let y : IsLinkedAt b (networks_of routes) i s.0 =
      subst (λ k. IsLinkedAt b (networks_of routes) k s.0) s.1.member_at (held_b.held s.0 s.1.member) in
      let links : y.link ≡ x.link = nearest_once (networks_of routes) s.0.0 i y.link x.link
      (omega (arith, l, held_a.as_many, length-map routes (λ (r : Route ℕ). r.0))) y.nearest x.nearest in
      let place : route_place b i ≡ route_place a i = ap (λ m. 32 + i * 16 + (i - m) * 16) (sym ipv4_same) in
      subst (AreSameTo a b)
      (omega (arith, row_size s.0.0.family i (stated_routes a IPv4) x.stored.in_part))
      (row_same (route_place a i) s.0.0 s.0.1 x.link x.stored.row
      (subst₂ (λ at k. IsRowAt b at s.0.0 s.0.1 k) place links y.stored.row) (rows_same i (omega (arith, l))))

  index_at : index_place b ≡ index_place a
  index_at = omega (arith, ipv4_same, ipv6_same)

  -- the entries of one bucket
  entry_same : (bucket : ℕ) → bucket < stated_index a
      → number_from 4 a (index_place a + bucket * 4) ≡ number_from 4 b (index_place a + bucket * 4)
  entry_same bucket l =
      let as_many : stated_index b ≡ stated_index a =
      ap₂ (λ m n. index_size (index_bits m) (index_bits n)) (sym ipv4_same) (sym ipv6_same) in
      place_once (networks_of routes) (bucket_start (stated_bits a IPv4) (stated_bits a IPv6) bucket)
      (number_from 4 a (index_place a + bucket * 4)) (number_from 4 b (index_place a + bucket * 4))
      (h.starts bucket l)
      (subst (λ at. IsPlaceOf (networks_of routes) (bucket_start (stated_bits a IPv4) (stated_bits a IPv6) bucket)
      (number_from 4 b (at + bucket * 4))) index_at
      (subst₂ (λ m n. IsPlaceOf (networks_of routes) (bucket_start (index_bits m) (index_bits n) bucket)
      (number_from 4 b (index_place b + bucket * 4))) (sym ipv4_same) (sym ipv6_same)
      (g.starts bucket (omega (arith, l, as_many)))))

  index_same : (count : ℕ) → count ≤ stated_index a → AreSameTo a b (index_place a + count * 4)
  index_same zero l = subst (AreSameTo a b) (omega arith) (rows_same (route_count a) (omega arith))
  index_same (suc bucket) l =
      subst (AreSameTo a b) (omega arith)
      (same_on 4 (index_place a + bucket * 4) (entry_same bucket (omega (arith, l)))
      (index_same bucket (omega (arith, l))))

  front_size : index_place a + stated_index a * 4 ≡ index_place b + stated_index b * 4
  front_size =
      let as_many : stated_index a ≡ stated_index b =
      ap₂ (λ m n. index_size (index_bits m) (index_bits n)) ipv4_same ipv6_same in
      omega (arith, as_many, index_at)

  front_same : AreSameTo a b (index_place a + stated_index a * 4)
  front_same = index_same (stated_index a) (omega arith)

pub one_image : (a b : List ℕ) → AreBytes a → AreBytes b → (routes : List (Route ℕ)) → IsTableImageOf a routes
    → IsTableImageOf b routes → a ≡ b
one_image a b p q routes h g =
    let magic = h.header.magic ∙ sym g.header.magic in
    let version = h.header.version ∙ sym g.header.version in
    let size = front_size a b p q routes h.table g.table magic version in
    ext_get_or 0 a b (omega (arith, h.header.stated, g.header.stated, size))
    (λ i l. front_same a b p q routes h.table g.table magic version i (omega (arith, l, h.header.stated)))

-- ---- one table for each image

pub one_list : {count : ℕ} (bytes : List ℕ) (r s : List (Route ℕ)) → AreRoutesIn bytes count r
    → AreRoutesIn bytes count s → r ≡ s
one_list {count} bytes r s h g =
    ext_get_or d r s (h.as_many ∙ sym g.as_many) (λ i l. same i (omega (arith, l, h.as_many)))
  where
    d : Route ℕ
    d = (ipv4_network_of 0 0, 0)

    is_at : (t : List (Route ℕ)) (i : ℕ) (route : Route ℕ) → IsStored bytes t i route → get_or t i d ≡ route
    is_at t i route x = sym (ap (λ k. get_or t k d) x.member_at) ∙ at_place t x.member.0 d route x.member.1 ∙ x.member.2

    -- the value that is stored after a network
    value_of : (i : ℕ) (n k : Network) (v w l m : ℕ) → IsRouteAt bytes i n v l → IsRouteAt bytes i k w m → n ≡ k → v ≡ w
    value_of i n k v w l m x y e =
        sym x.row.value_is
        ∙ ap (λ (z : Network). number_from 4 bytes (route_place bytes i + number_width z.family + 4)) e ∙ y.row.value_is

    same : (i : ℕ) → i < count → get_or r i d ≡ get_or s i d
    same i l =
        let x = stored_route bytes r h i l in
        let y = stored_route bytes s g i l in
        let n : x.0.0 ≡ y.0.0 = network_once bytes i x.0.0 y.0.0 x.0.1 y.0.1 x.1.linked.link y.1.linked.link
        x.1.linked.stored y.1.linked.stored in
        let v : x.0.1 ≡ y.0.1 = value_of i x.0.0 y.0.0 x.0.1 y.0.1 x.1.linked.link y.1.linked.link
        x.1.linked.stored y.1.linked.stored n in
        is_at r i x.0 x.1 ∙ ap₂ (λ a b. let q : Route ℕ = (a, b) in q) n v ∙ sym (is_at s i y.0 y.1)

pub one_table : (bytes : List ℕ) (r s : List (Route ℕ)) → IsTableImageOf bytes r → IsTableImageOf bytes s → r ≡ s
one_table bytes r s h g = one_list bytes r s h.table.held g.table.held
