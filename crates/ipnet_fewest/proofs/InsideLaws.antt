-- The routes of a list that are in each of two halves, and their number.
use Rattle.std.proofs.Common.{ℕ, ◌+◌, ◌<◌, ◌≤◌, ◌⊎◌, List, [], ◌∷◌, length, Contains, sym, ap, ◌∙◌, subst}
use Rattle.std.proofs.Common.{arith, inl, inr}
use Rattle.std.proofs.lemmas.Bool.{cases_lt}
use Rattle.ipnet_base.specs.Address.{Address, width}
use Rattle.ipnet_base.specs.Network.{Network, InBlock, IsSubnetOf, host_bits}
use Rattle.ipnet_base.proofs.BlockLaws.{own, own_in}
use Rattle.ipnet_base.proofs.ListLaws.{contains_nil, contains_here, contains_there, contains_cases}
use Rattle.ipnet_base.proofs.NestingLaws.{nested, nested_or_disjoint, bits_from_subnet}
use Rattle.ipnet_routes.specs.Routes.{Route}

pub subnet_decided : (n k : Network) → IsSubnetOf n k ⊎ (IsSubnetOf n k → ⊥)
subnet_decided n k = elim (nested_or_disjoint n k) [
  | inl s ↦ inl s
  | inr (inr d) ↦ inr (λ s. d (own n) (own_in n) (s (own n) (own_in n)))
  | inr (inl t) ↦ elim (cases_lt (host_bits k) (host_bits n)) [
    | inl lt ↦ inr (λ s. omega (arith, lt, bits_from_subnet n k s))
    | inr le ↦ inl (nested n k (own k) (t (own k) (own_in k)) (own_in k) le)
  ]
]

-- A block that is at least as long as another, and has an address of it, is in it.
pub nested_by_len : (n k : Network) (x : Address) → InBlock n x → InBlock k x → k.prefix_len ≤ n.prefix_len
    → IsSubnetOf n k
nested_by_len n k x a b le = nested n k x a b (omega (arith, le, ap width (sym a.same_family ∙ b.same_family)))

-- The routes in one network and those in another.
pub record ArePartsIn (l r : Network) (routes first second : List (Route ℕ)) : Type 0 where
  pub from_first : (x : Route ℕ) → Contains first x → Contains routes x
  pub in_first : (x : Route ℕ) → Contains first x → IsSubnetOf x.0 l
  pub all_first : (x : Route ℕ) → Contains routes x → IsSubnetOf x.0 l → Contains first x
  pub from_second : (x : Route ℕ) → Contains second x → Contains routes x
  pub in_second : (x : Route ℕ) → Contains second x → IsSubnetOf x.0 r
  pub all_second : (x : Route ℕ) → Contains routes x → IsSubnetOf x.0 r → Contains second x
  pub few : length first + length second ≤ length routes
  pub fewer : (t : Route ℕ) → Contains routes t → (IsSubnetOf t.0 l → ⊥) → (IsSubnetOf t.0 r → ⊥)
      → length first + length second < length routes

pub record HasParts (l r : Network) (routes : List (Route ℕ)) : Type 0 where
  pub first : List (Route ℕ)
  pub second : List (Route ℕ)
  pub are : ArePartsIn l r routes first second

module _ (l r : Network) (apart : (x : Address) → InBlock l x → InBlock r x → ⊥) where
  not_both : (n : Network) → IsSubnetOf n l → IsSubnetOf n r → ⊥
  not_both n s t = apart (own n) (s (own n) (own_in n)) (t (own n) (own_in n))

  pub parts : (routes : List (Route ℕ)) → HasParts l r routes
  parts [] = record {
    first = [];
    second = [];
    are = record {
      from_first = λ x c. c;
      in_first = λ x c. absurd (contains_nil x c);
      all_first = λ x c s. c;
      from_second = λ x c. c;
      in_second = λ x c. absurd (contains_nil x c);
      all_second = λ x c s. c;
      few = omega arith;
      fewer = λ t c u v. absurd (contains_nil t c);
    };
  }
  parts (q ∷ routes) =
      let rest = parts routes in
      let h = rest.are in
      elim (subnet_decided q.0 l) [
        | inl s ↦ record {
          first = q ∷ rest.first;
          second = rest.second;
          are = record {
            from_first = λ x c. elim (contains_cases q rest.first x c) [
              | inl e ↦ subst (Contains (q ∷ routes)) e (contains_here q routes)
              | inr d ↦ contains_there q routes x (h.from_first x d)
            ];
            in_first = λ x c. elim (contains_cases q rest.first x c) [
              | inl e ↦ subst (λ z. IsSubnetOf z.0 l) e s
              | inr d ↦ h.in_first x d
            ];
            all_first = λ x c u. elim (contains_cases q routes x c) [
              | inl e ↦ subst (Contains (q ∷ rest.first)) e (contains_here q rest.first)
              | inr d ↦ contains_there q rest.first x (h.all_first x d u)
            ];
            from_second = λ x c. contains_there q routes x (h.from_second x c);
            in_second = h.in_second;
            all_second = λ x c u. elim (contains_cases q routes x c) [
              | inl e ↦ absurd (not_both x.0 (subst (λ z. IsSubnetOf z.0 l) e s) u)
              | inr d ↦ h.all_second x d u
            ];
            few = omega (arith, h.few);
            fewer = λ t c u v. elim (contains_cases q routes t c) [
              | inl e ↦ absurd (u (subst (λ z. IsSubnetOf z.0 l) e s))
              | inr d ↦ omega (arith, h.fewer t d u v)
            ];
          };
        }
        | inr out ↦ elim (subnet_decided q.0 r) [
          | inl s ↦ record {
            first = rest.first;
            second = q ∷ rest.second;
            are = record {
              from_first = λ x c. contains_there q routes x (h.from_first x c);
              in_first = h.in_first;
              all_first = λ x c u. elim (contains_cases q routes x c) [
                | inl e ↦ absurd (out (subst (λ z. IsSubnetOf z.0 l) (sym e) u))
                | inr d ↦ h.all_first x d u
              ];
              from_second = λ x c. elim (contains_cases q rest.second x c) [
                | inl e ↦ subst (Contains (q ∷ routes)) e (contains_here q routes)
                | inr d ↦ contains_there q routes x (h.from_second x d)
              ];
              in_second = λ x c. elim (contains_cases q rest.second x c) [
                | inl e ↦ subst (λ z. IsSubnetOf z.0 r) e s
                | inr d ↦ h.in_second x d
              ];
              all_second = λ x c u. elim (contains_cases q routes x c) [
                | inl e ↦ subst (Contains (q ∷ rest.second)) e (contains_here q rest.second)
                | inr d ↦ contains_there q rest.second x (h.all_second x d u)
              ];
              few = omega (arith, h.few);
              fewer = λ t c u v. elim (contains_cases q routes t c) [
                | inl e ↦ absurd (v (subst (λ z. IsSubnetOf z.0 r) e s))
                | inr d ↦ omega (arith, h.fewer t d u v)
              ];
            };
          }
          | inr off ↦ record {
            first = rest.first;
            second = rest.second;
            are = record {
              from_first = λ x c. contains_there q routes x (h.from_first x c);
              in_first = h.in_first;
              all_first = λ x c u. elim (contains_cases q routes x c) [
                | inl e ↦ absurd (out (subst (λ z. IsSubnetOf z.0 l) (sym e) u))
                | inr d ↦ h.all_first x d u
              ];
              from_second = λ x c. contains_there q routes x (h.from_second x c);
              in_second = h.in_second;
              all_second = λ x c u. elim (contains_cases q routes x c) [
                | inl e ↦ absurd (off (subst (λ z. IsSubnetOf z.0 r) (sym e) u))
                | inr d ↦ h.all_second x d u
              ];
              few = omega (arith, h.few);
              fewer = λ t c u v. omega (arith, h.few);
            };
          }
        ]
      ]

-- Some network of the routes is at most this long, or all are longer.
pub short_or_longer : (len : ℕ) (routes : List (Route ℕ))
    → ((t : Route ℕ) × Contains routes t × (t.0.prefix_len ≤ len))
    ⊎ ((x : Route ℕ) → Contains routes x → len < x.0.prefix_len)
short_or_longer len [] = inr (λ x c. absurd (contains_nil x c))
short_or_longer len (q ∷ routes) = elim (cases_lt len q.0.prefix_len) [
  | inr le ↦ inl (q, contains_here q routes, le)
  | inl lt ↦ elim (short_or_longer len routes) [
    | inl h ↦ inl (h.0, contains_there q routes h.0 h.1, h.2)
    | inr all ↦ inr (λ x c. elim (contains_cases q routes x c) [
      | inl e ↦ subst (λ z. len < z.0.prefix_len) e lt
      | inr d ↦ all x d
    ])
  ]
]
