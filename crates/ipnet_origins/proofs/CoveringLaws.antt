-- The payloads that cover a route, as a whole list.
use Rattle.std.proofs.Common.{◌≡◌, ◌↔◌, ℕ, zero, suc, ◌-◌, ◌*◌, ◌/◌, ◌^◌, ◌<◌, ◌≤◌, List, [], ◌++◌, Contains, get_or}
use Rattle.std.proofs.Common.{refl, sym, ap, ◌∙◌, subst, inl, inr, arith}
use Rattle.std.proofs.lemmas.Bool.{cases_order}
use Rattle.std.proofs.lemmas.List.Elements.{Contains-append_cases, Contains-append_left, Contains-append_right}
use Rattle.ipnet_base.specs.Address.{Address, width}
use Rattle.ipnet_base.specs.Network.{Network, InBlock, IsTruncated, host_bits}
use Rattle.ipnet_base.proofs.ListLaws.{at_place, contains_nil, pairs_append}
use Rattle.ipnet_base.proofs.NetworkLaws.{same_network, number_from_truncated}
use Rattle.ipnet.specs.NetworkOf.{ip_network}
use Rattle.ipnet_origins.specs.declared.payload.Payload.{Payload}
use Rattle.ipnet_origins.specs.Groups.{network_of, AreThose}
use Rattle.ipnet_origins.specs.Origins.{IsCovered, AreLongestFirst}
use Rattle.ipnet_origins.proofs.ThoseLaws.{those_none, those_members}

-- the payload covers the route, and its network has this length
pub record IsCoveredAt (route : Network) (length : ℕ) (vrp : Payload) : Type 0 where
  pub covered : IsCovered route vrp
  pub of_length : (network_of vrp).prefix_len ≡ length

-- the payloads that cover the route and whose networks are shorter than the limit, length by length as the walk finds
-- them
abbrev pub AreCoveringBelow : List Payload → Network → ℕ → List Payload → Type 0
AreCoveringBelow vrps route zero covering = covering ≡ []
AreCoveringBelow vrps route (suc length) covering = (here shorter : List Payload)
    × AreThose (IsCoveredAt route length) vrps here × AreCoveringBelow vrps route length shorter
    × (covering ≡ here ++ shorter)

-- networks of one length that contain an address are one network
pub same_at : (x : Address) (m n : Network) → IsTruncated m → IsTruncated n → InBlock m x → InBlock n x
    → m.prefix_len ≡ n.prefix_len → m ≡ n
same_at x m n cut cut_too a b len =
    same_network m n family
    (number_from_truncated m cut ∙ ap (λ k. k * 2 ^ host_bits m) parts
    ∙ ap (λ h. n.number / 2 ^ host_bits n * 2 ^ h) bits
    ∙ sym (number_from_truncated n cut_too))
    len
  where
    family : m.family ≡ n.family
    family = sym a.same_family ∙ b.same_family

    bits : host_bits m ≡ host_bits n
    bits = λ i. width (family i) - len i

    parts : m.number / 2 ^ host_bits m ≡ n.number / 2 ^ host_bits n
    parts = sym a.same_prefix ∙ ap (λ h. x.number / 2 ^ h) bits ∙ b.same_prefix

-- no payload below the limit covers the route
pub none_below : (vrps : List Payload) (n : Network) (limit : ℕ)
    → ((vrp : Payload) → Contains vrps vrp → IsCovered n vrp → limit ≤ (network_of vrp).prefix_len)
    → AreCoveringBelow vrps n limit []
none_below vrps n zero none = refl
none_below vrps n (suc k) none = (
  [],
  [],
  those_none (IsCoveredAt n k) vrps (λ vrp c h. omega (arith, none vrp c h.covered, h.of_length)),
  none_below vrps n k (λ vrp c h. omega (arith, none vrp c h)),
  refl,
)

-- the payloads of one length, and then shorter ones, if there is none between them and the limit
pub more_below : (vrps group shorter : List Payload) (n : Network) (length limit : ℕ) → length < limit
    → AreThose (IsCoveredAt n length) vrps group → AreCoveringBelow vrps n length shorter
    → ((vrp : Payload) → Contains vrps vrp → IsCovered n vrp → length < (network_of vrp).prefix_len
    → limit ≤ (network_of vrp).prefix_len)
    → AreCoveringBelow vrps n limit (group ++ shorter)
more_below vrps group shorter n length zero low those h gap = absurd (omega (arith, low))
more_below vrps group shorter n length (suc k) low those h gap = elim (cases_order length k) [
  | inl same ↦ (
    group,
    shorter,
    subst (λ z. AreThose (IsCoveredAt n z) vrps group) same those,
    subst (λ z. AreCoveringBelow vrps n z shorter) same h,
    refl,
  )
  | inr (inl lower) ↦ (
    [],
    group ++ shorter,
    those_none (IsCoveredAt n k) vrps
        (λ vrp c is. omega (arith, gap vrp c is.covered (omega (arith, is.of_length, lower)), is.of_length)),
    more_below vrps group shorter n length k lower those h
        (λ vrp c is above. omega (arith, gap vrp c is above)),
    refl,
  )
  | inr (inr higher) ↦ absurd (omega (arith, low, higher))
]

-- the members of the whole list
abbrev AreMembers : List Payload → Network → ℕ → List Payload → Payload → Type 0
AreMembers vrps n limit covering vrp =
    Contains covering vrp ↔ (Contains vrps vrp × IsCovered n vrp × ((network_of vrp).prefix_len < limit))

more_members : (vrps here shorter covering : List Payload) (n : Network) (k : ℕ) (vrp : Payload)
    → AreThose (IsCoveredAt n k) vrps here → covering ≡ here ++ shorter → AreMembers vrps n k shorter vrp
    → AreMembers vrps n (suc k) covering vrp
more_members vrps here shorter covering n k vrp those spelled same = (
  λ c. elim (Contains-append_cases here shorter vrp (subst (λ z. Contains z vrp) spelled c)) [
    | inl first ↦
        let (old, is) = (those_members (IsCoveredAt n k) vrps here those vrp).0 first in
        (old, is.covered, omega (arith, is.of_length))
    | inr later ↦ let (old, is, low) = same.0 later in (old, is, omega (arith, low))
  ],
  λ (c, is, low). subst (λ z. Contains z vrp) (sym spelled)
      (elim (cases_order (network_of vrp).prefix_len k) [
        | inl length ↦ Contains-append_left here shorter vrp
            ((those_members (IsCoveredAt n k) vrps here those vrp).1
            (c, record { covered = is; of_length = length }))
        | inr (inl lower) ↦ Contains-append_right here shorter vrp (same.1 (c, is, lower))
        | inr (inr higher) ↦ absurd (omega (arith, low, higher))
      ]),
)

pub below_members : (vrps : List Payload) (n : Network) (limit : ℕ) (covering : List Payload)
    → AreCoveringBelow vrps n limit covering → (vrp : Payload) → AreMembers vrps n limit covering vrp
below_members vrps n zero covering h vrp = (
  λ c. absurd (contains_nil vrp (subst (λ z. Contains z vrp) h c)),
  λ (c, is, low). absurd (omega (arith, low)),
)
below_members vrps n (suc k) covering (here, shorter, those, h, spelled) vrp =
    more_members vrps here shorter covering n k vrp those spelled (below_members vrps n k shorter h vrp)

-- they come the longest first
pub below_longest_first : (vrps : List Payload) (n : Network) (limit : ℕ) (covering : List Payload)
    → AreCoveringBelow vrps n limit covering → AreLongestFirst covering
below_longest_first vrps n zero covering h = subst AreLongestFirst (sym h) (λ i j d l m. absurd (omega (arith, m)))
below_longest_first vrps n (suc k) covering (here, shorter, those, h, spelled) =
    subst AreLongestFirst (sym spelled)
    (pairs_append (λ vrp later. (ip_network later.network).prefix_len ≤ (ip_network vrp.network).prefix_len) here
    shorter pairs_one (below_longest_first vrps n k shorter h)
    (λ vrp later c e.
    let first = (those_members (IsCoveredAt n k) vrps here those vrp).0 c in
    let last = (below_members vrps n k shorter h later).0 e in
    omega (arith, first.1.of_length, last.2)))
  where
    pairs_one : AreLongestFirst here
    pairs_one i j d l m =
        let a = (those_members (IsCoveredAt n k) vrps here those (get_or here i d)).0
        (i, omega (arith, l, m), at_place here i (get_or here i d) d (omega (arith, l, m))) in
        let b = (those_members (IsCoveredAt n k) vrps here those (get_or here j d)).0
        (j, m, at_place here j (get_or here j d) d m) in
        omega (arith, a.1.of_length, b.1.of_length)
