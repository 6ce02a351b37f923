-- A rule of a prefix list matches a network or does not, so a network is permitted or denied.
use Rattle.std.proofs.Common.{◌≡◌, ◌↔◌, ℕ, ◌≤◌, ◌⊎◌, ◌/◌, ◌^◌, Bool, true, List, [], ◌∷◌}
use Rattle.std.proofs.Common.{Option, Some, None, arith, refl, inl, inr}
use Rattle.std.proofs.lemmas.Bool.{cases_eq, cases_lt, cases_Bool}
use Rattle.std.proofs.lemmas.Grind.{not_there}
use Rattle.ipnet_base.specs.Address.{Family, IPv4, IPv6, Address, width}
use Rattle.ipnet_base.specs.Network.{Network, IsNetwork, InBlock, host_bits}
use Rattle.ipnet_base.proofs.BlockLaws.{own}
use Rattle.ipnet.specs.NetworkOf.{ip_network}
use Rattle.ipnet_rules.specs.declared.prefix_list.PrefixRule.{PrefixRule}
use Rattle.ipnet_rules.specs.declared.rules.Action.{Action}
use Rattle.ipnet_rules.specs.declared.rules.Action.TheVariants.{Permit, Deny}
use Rattle.ipnet_rules.specs.PrefixLists.{IsLengthAsked, MatchesRoute, IsRouteVerdict, IsRoutePermitted}
use Rattle.ipnet_rules.specs.RoutesOfLength.{CanMatch}
use Rattle.ipnet_rules.specs.Verdicts.{HasVerdict}
use Rattle.ipnet_rules.proofs.RouteLaws.{match_of_length, can_from_match}
use Rattle.ipnet_rules.proofs.VerdictLaws.{one_verdict, not_both}

-- it is so or not
abbrev OrNot : Type 0 → Type 0
OrNot P = P ⊎ (P → ⊥)

both_or_not : (P Q : Type 0) → OrNot P → OrNot Q → OrNot (P × Q)
both_or_not P Q p q = elim p [
  | inr never ↦ inr (λ b. never b.0)
  | inl holds ↦ elim q [ inr never ↦ inr (λ b. never b.1) | inl too ↦ inl (holds, too) ]
]

at_most_or_not : (a b : ℕ) → OrNot (a ≤ b)
at_most_or_not a b = elim (cases_lt b a) [
  | inl less ↦ inr (λ le. omega (arith, less, le))
  | inr not ↦ inl (omega (arith, not))
]

family_or_not : (f g : Family) → OrNot (f ≡ g)
family_or_not IPv4 IPv4 = inl refl
family_or_not IPv4 IPv6 = inr (λ e. absurd (cc))
family_or_not IPv6 IPv4 = inr (λ e. absurd (cc))
family_or_not IPv6 IPv6 = inl refl

asked_or_not : (k : Network) (ge le : Option ℕ) (len : ℕ) → OrNot (IsLengthAsked k ge le len)
asked_or_not k None None len = cases_eq len k.prefix_len
asked_or_not k (Some ge) None len = at_most_or_not ge len
asked_or_not k None (Some le) len = at_most_or_not len le
asked_or_not k (Some ge) (Some le) len =
    both_or_not (ge ≤ len) (len ≤ le) (at_most_or_not ge len) (at_most_or_not len le)

can_or_not : (r : PrefixRule) (len : ℕ) → OrNot (CanMatch r len)
can_or_not r len =
    let k = ip_network r.network in
    elim (at_most_or_not k.prefix_len len) [
      | inr never ↦ inr (λ can. never can.0)
      | inl longer ↦ elim (at_most_or_not len (width k.family)) [
        | inr never ↦ inr (λ can. never can.1)
        | inl fits ↦ elim (asked_or_not k r.ge r.le len) [
          | inr never ↦ inr (λ can. never can.2)
          | inl asked ↦ inl (longer, fits, asked)
        ]
      ]
    ]

block_or_not : (k : Network) (x : Address) → OrNot (InBlock k x)
block_or_not k x = elim (family_or_not x.family k.family) [
  | inr never ↦ inr (λ b. never b.same_family)
  | inl same ↦ elim (cases_eq (x.number / 2 ^ host_bits k) (k.number / 2 ^ host_bits k)) [
    | inr never ↦ inr (λ b. never b.same_prefix)
    | inl agree ↦ inl (record { same_family = same; same_prefix = agree })
  ]
]

route_or_not : (r : PrefixRule) (n : Network) → IsNetwork n → OrNot (MatchesRoute r n)
route_or_not r n valid = elim (can_or_not r n.prefix_len) [
  | inr never ↦ inr (λ m. never (can_from_match r n.prefix_len (own n) valid.address_fits valid.prefix_fits m))
  | inl can ↦
      let same = match_of_length r n.prefix_len (own n) can in
      elim (block_or_not (ip_network r.network) (own n)) [
        | inr never ↦ inr (λ m. never (same.1 m))
        | inl inside ↦ inl (same.0 inside)
      ]
]

-- an action is to permit or to deny
either_action : {E X : Type 0} (M : E → X → Type 0) (action_of : E → Action) (es : List E) (x : X)
    → ((e : E) → OrNot (M e x))
    → HasVerdict M action_of Deny es x Permit ⊎ HasVerdict M action_of Deny es x Deny
either_action M action_of [] x decide = inr refl
either_action M action_of (e ∷ es) x decide = elim (decide e) [
  | inl here ↦ of_entry (action_of e) refl here
  | inr never ↦ elim (either_action M action_of es x decide) [
    | inl permit ↦ inl (inr (never, permit))
    | inr deny ↦ inr (inr (never, deny))
  ]
]
  where
    of_entry : (a : Action) → a ≡ action_of e → M e x
        → HasVerdict M action_of Deny (e ∷ es) x Permit ⊎ HasVerdict M action_of Deny (e ∷ es) x Deny
    of_entry Permit is here = inl (inl (here, is))
    of_entry Deny is here = inr (inl (here, is))

-- a network that is not permitted is denied
pub denied_otherwise : (rules : List PrefixRule) (n : Network) → IsNetwork n → ¬ (IsRoutePermitted rules n)
    → IsRouteVerdict rules n Deny
denied_otherwise rules n valid never =
    elim (either_action MatchesRoute (λ r. r.action) rules n (λ r. route_or_not r n valid)) [
      | inl permit ↦ absurd (never permit)
      | inr deny ↦ deny
    ]

-- a network is permitted or not
permitted_or_not : (rules : List PrefixRule) (n : Network) → IsNetwork n → OrNot (IsRoutePermitted rules n)
permitted_or_not rules n valid =
    elim (either_action MatchesRoute (λ r. r.action) rules n (λ r. route_or_not r n valid)) [
      | inl permit ↦ inl permit
      | inr deny ↦ inr (λ permit.
          not_both (one_verdict MatchesRoute (λ r. r.action) Deny rules n Permit Deny permit deny))
    ]

-- a test of whether a network is permitted, by a fact that is only known to have a proof
pub permits_by_fact : (Fact : Type 0) (rules : List PrefixRule) (n : Network) (b : Bool) → IsNetwork n → ∥ Fact ∥₁
    → (Fact → (b ≡ true) ↔ IsRoutePermitted rules n) → (b ≡ true) ↔ IsRoutePermitted rules n
permits_by_fact Fact rules n b valid known own = (
  λ is. elim (permitted_or_not rules n valid) [
    | inl permit ↦ permit
    | inr never ↦ absurd (not_there known (λ fact. never ((own fact).0 is)))
  ],
  λ permit. elim (cases_Bool b) [
    | inl is ↦ is
    | inr not_so ↦ absurd (not_there known (λ fact. let is = (own fact).1 permit in absurd (cc)))
  ],
)
