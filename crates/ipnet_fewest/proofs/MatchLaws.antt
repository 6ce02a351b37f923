-- Each address has a longest match in a list, or none.
use Rattle.std.proofs.Common.{◌/◌, ◌^◌, ◌⊎◌, List, [], ◌∷◌, Contains, sym, ap, subst, arith}
use Rattle.std.proofs.Common.{inl, inr}
use Rattle.std.proofs.lemmas.Bool.{cases_lt, cases_eq}
use Rattle.ipnet_base.specs.Address.{Address}
use Rattle.ipnet_base.specs.Network.{Network, InBlock, host_bits}
use Rattle.ipnet_base.proofs.FamilyLaws.{cases_family}
use Rattle.ipnet_base.proofs.ListLaws.{contains_nil, contains_here, contains_there, contains_cases}
use Rattle.ipnet_routes.specs.Routes.{Route, IsLongestMatch}

pub in_block_decided : (n : Network) (x : Address) → InBlock n x ⊎ (InBlock n x → ⊥)
in_block_decided n x = elim (cases_family x.family n.family) [
  | inr other ↦ inr (λ a. other a.same_family)
  | inl f ↦ elim (cases_eq (x.number / 2 ^ host_bits n) (n.number / 2 ^ host_bits n)) [
    | inl e ↦ inl (record { same_family = f; same_prefix = e })
    | inr other ↦ inr (λ a. other a.same_prefix)
  ]
]

pub longest_or_none : {V : Type 0} (routes : List (Route V)) (x : Address)
    → ((r : Route V) × IsLongestMatch routes x r) ⊎ ((r : Route V) → Contains routes r → InBlock r.0 x → ⊥)
longest_or_none [] x = inr (λ r c b. contains_nil r c)
longest_or_none {V} (q ∷ routes) x = elim (in_block_decided q.0 x) [
  | inr out ↦ elim (longest_or_none routes x) [
    | inr none ↦ inr (λ r c b. elim (contains_cases q routes r c) [
      | inl e ↦ out (subst (λ z. InBlock z.0 x) (sym e) b)
      | inr d ↦ none r d b
    ])
    | inl found ↦ inl (
      found.0,
      record {
        member = contains_there q routes found.0 found.1.member;
        holds = found.1.holds;
        longest = λ o c b. elim (contains_cases q routes o c) [
          | inl e ↦ absurd (out (subst (λ z. InBlock z.0 x) (sym e) b))
          | inr d ↦ found.1.longest o d b
        ];
      },
    )
  ]
  | inl here ↦ elim (longest_or_none routes x) [
    | inr none ↦ inl (
      q,
      record {
        member = contains_here q routes;
        holds = here;
        longest = λ o c b. elim (contains_cases q routes o c) [
          | inl e ↦ omega (arith, ap (λ z. z.0.prefix_len) e)
          | inr d ↦ absurd (none o d b)
        ];
      },
    )
    | inl found ↦ elim (cases_lt found.0.0.prefix_len q.0.prefix_len) [
      | inl lt ↦ inl (
        q,
        record {
          member = contains_here q routes;
          holds = here;
          longest = λ o c b. elim (contains_cases q routes o c) [
            | inl e ↦ omega (arith, ap (λ z. z.0.prefix_len) e)
            | inr d ↦ omega (arith, lt, found.1.longest o d b)
          ];
        },
      )
      | inr le ↦ inl (
        found.0,
        record {
          member = contains_there q routes found.0 found.1.member;
          holds = found.1.holds;
          longest = λ o c b. elim (contains_cases q routes o c) [
            | inl e ↦ omega (arith, le, ap (λ z. z.0.prefix_len) e)
            | inr d ↦ found.1.longest o d b
          ];
        },
      )
    ]
  ]
]
