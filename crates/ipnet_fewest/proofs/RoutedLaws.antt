-- The value that routes give an address, and the value that a part of them gives it.
use Rattle.std.proofs.Common.{◌≡◌, ℕ, ◌<◌, ◌≤◌, ◌⊎◌, List, Contains, ap, ◌∙◌, arith, inl, inr}
use Rattle.ipnet_base.specs.Address.{Address}
use Rattle.ipnet_base.specs.Network.{InBlock}
use Rattle.ipnet_routes.specs.Routes.{Route}
use Rattle.ipnet_fewest.specs.Solved.{IsRouted}

-- two lists with the same matches of an address route it alike
module _ (R S : List (Route ℕ)) (a : Address) (to : (r : Route ℕ) → Contains R r → InBlock r.0 a → Contains S r)
    (back : (r : Route ℕ) → Contains S r → InBlock r.0 a → Contains R r) where
  pub same_routed : (v w : ℕ) → IsRouted R v a w → IsRouted S v a w
  same_routed v w (inl h) = inl (record {
    route = h.route;
    matches = record {
      member = to h.route h.matches.member h.matches.holds;
      holds = h.matches.holds;
      longest = λ other c b. h.matches.longest other (back other c b) b;
    };
    is = h.is;
  })
  same_routed v w (inr h) = inr (λ r c b. h.0 r (back r c b) b, h.1)

-- a part of a list, and a route that is no longer than its routes: the value of the route is for no match in the part
module _ (R part : List (Route ℕ)) (t : Route ℕ) (a : Address) (has : Contains R t) (holds : InBlock t.0 a)
    (sub : (r : Route ℕ) → Contains part r → Contains R r)
    (other : (r : Route ℕ) → Contains R r → InBlock r.0 a → Contains part r ⊎ (r.0.prefix_len ≤ t.0.prefix_len))
    (longer : (r : Route ℕ) → Contains part r → t.0.prefix_len ≤ r.0.prefix_len) where
  pub under_route : (v w : ℕ) → IsRouted part t.1 a w → IsRouted R v a w
  under_route v w (inl h) = inl (record {
    route = h.route;
    matches = record {
      member = sub h.route h.matches.member;
      holds = h.matches.holds;
      longest = λ r c b. elim (other r c b) [
        | inl d ↦ h.matches.longest r d b
        | inr le ↦ omega (arith, le, longer h.route h.matches.member)
      ];
    };
    is = h.is;
  })
  under_route v w (inr h) = inl (record {
    route = t;
    matches = record {
      member = has;
      holds = holds;
      longest = λ r c b. elim (other r c b) [ inl d ↦ absurd (h.0 r d b) | inr le ↦ le ];
    };
    is = h.1;
  })

-- and back, if the route is the only one besides the part
module _ (R part : List (Route ℕ)) (t : Route ℕ) (a : Address) (has : Contains R t) (holds : InBlock t.0 a)
    (sub : (r : Route ℕ) → Contains part r → Contains R r)
    (cases : (r : Route ℕ) → Contains R r → (t ≡ r) ⊎ Contains part r)
    (longer : (r : Route ℕ) → Contains part r → t.0.prefix_len < r.0.prefix_len) where
  pub over_route : (v w : ℕ) → IsRouted R v a w → IsRouted part t.1 a w
  over_route v w (inl h) = elim (cases h.route h.matches.member) [
    | inl e ↦ inr (
      λ r c b. absurd (omega (
        arith,
        longer r c,
        h.matches.longest r (sub r c) b,
        ap (λ z. z.0.prefix_len) e,
      )),
      ap (λ z. z.1) e ∙ h.is,
    )
    | inr c ↦ inl (record {
      route = h.route;
      matches = record {
        member = c;
        holds = h.matches.holds;
        longest = λ r d b. h.matches.longest r (sub r d) b;
      };
      is = h.is;
    })
  ]
  over_route v w (inr h) = absurd (h.0 t has holds)
