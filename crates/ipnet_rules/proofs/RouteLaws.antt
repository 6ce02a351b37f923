-- The networks of one prefix length by their addresses: the rules for these, one more at a time.
use Rattle.std.proofs.Common.{◌≡◌, ℕ, ◌≤◌, ◌↔◌, List, [], ◌∷◌, ◌++◌, sym, subst, ◌∙◌, inl, inr}
use Rattle.ipnet_base.specs.Address.{Address, IsAddress, width}
use Rattle.ipnet_base.specs.Network.{IsNetwork, InBlock}
use Rattle.ipnet_base.proofs.BlockLaws.{own_in}
use Rattle.ipnet_base.proofs.NestingLaws.{longer_from_subnet, subnet_from_own}
use Rattle.ipnet.specs.NetLaws.{ip_valid}
use Rattle.ipnet.specs.NetworkOf.{ip_network}
use Rattle.ipnet.specs.NetworkParts.{network_at}
use Rattle.ipnet_rules.specs.declared.rules.Rule.{Rule}
use Rattle.ipnet_rules.specs.declared.prefix_list.PrefixRule.{PrefixRule}
use Rattle.ipnet_rules.specs.Rules.{Matches}
use Rattle.ipnet_rules.specs.PrefixLists.{MatchesRoute}
use Rattle.ipnet_rules.specs.RoutesOfLength.{CanMatch, AreRulesOfLength}
use Rattle.ipnet_rules.proofs.VerdictLaws.{any_nil, any_push, permit_push}

-- the network of this length at an address
pub valid_at : (x : Address) (len : ℕ) → IsAddress x → len ≤ width x.family → IsNetwork (network_at x len)
valid_at x len a l = record { address_fits = a; prefix_fits = l }

-- such a rule matches the network at an address if and only if its own network contains the address
pub match_of_length : (rule : PrefixRule) (len : ℕ) (x : Address) → CanMatch rule len
    → InBlock (ip_network rule.network) x ↔ MatchesRoute rule (network_at x len)
match_of_length rule len x can = (
  λ b. record { inside = subnet_from_own (network_at x len) (ip_network rule.network) can.0 b; asked = can.2 },
  λ m. m.inside x (own_in (network_at x len)),
)

-- a rule that matches the network at an address matches networks of its length
pub can_from_match : (rule : PrefixRule) (len : ℕ) (x : Address) → IsAddress x → len ≤ width x.family
    → MatchesRoute rule (network_at x len) → CanMatch rule len
can_from_match rule len x a l m = (
  longer_from_subnet (network_at x len) (ip_network rule.network) (valid_at x len a l) (ip_valid rule.network) m.inside,
  subst (λ f. len ≤ width f) (m.inside x (own_in (network_at x len))).same_family l,
  m.asked,
)

-- no rule
pub length_nil : (len : ℕ) → AreRulesOfLength [] len []
length_nil len = record {
  matched = λ x a l. (
    λ any. absurd (any_nil (λ r. Matches r x) any),
    λ any. absurd (any_nil (λ r. MatchesRoute r (network_at x len)) any),
  );
  permitted = λ x a l. (λ v. v, λ v. v);
  fits = λ x any. absurd (any_nil (λ r. Matches r x) any);
}

-- one rule more, which matches networks of this length
pub length_push : (rules : List PrefixRule) (p : PrefixRule) (len : ℕ) (list : List Rule) (r : Rule)
    → AreRulesOfLength rules len list → CanMatch p len → r.action ≡ p.action
    → ((x : Address) → Matches r x ↔ InBlock (ip_network p.network) x)
    → AreRulesOfLength (rules ++ p ∷ []) len (list ++ r ∷ [])
length_push rules p len list r h can same block = record {
  matched = λ x a l.
      let one = match_of_length p len x can in
      let ours = any_push (λ q. Matches q x) list r in
      let theirs = any_push (λ q. MatchesRoute q (network_at x len)) rules p in (
        λ any. theirs.1 (elim (ours.0 any) [
          | inl f ↦ inl ((h.matched x a l).0 f)
          | inr g ↦ inr (one.0 ((block x).0 g))
        ]),
        λ any. ours.1 (elim (theirs.0 any) [
          | inl f ↦ inl ((h.matched x a l).1 f)
          | inr g ↦ inr ((block x).1 (one.1 g))
        ]),
      );
  permitted = λ x a l.
      let one = match_of_length p len x can in
      let ours = permit_push Matches (λ q. q.action) list r x in
      let theirs = permit_push MatchesRoute (λ q. q.action) rules p (network_at x len) in (
        λ v. theirs.1 (elim (ours.0 v) [
          | inl f ↦ inl ((h.permitted x a l).0 f)
          | inr g ↦ inr (λ any. g.0 ((h.matched x a l).1 any), one.0 ((block x).0 g.1), g.2 ∙ same)
        ]),
        λ v. ours.1 (elim (theirs.0 v) [
          | inl f ↦ inl ((h.permitted x a l).1 f)
          | inr g ↦ inr (λ any. g.0 ((h.matched x a l).0 any), (block x).1 (one.1 g.1), g.2 ∙ sym same)
        ]),
      );
  fits = λ x any. elim ((any_push (λ q. Matches q x) list r).0 any) [
    | inl f ↦ h.fits x f
    | inr g ↦ subst (λ f. len ≤ width f) (sym ((block x).0 g).same_family) can.1
  ];
}

-- one rule more, which matches no network of this length
pub length_skip : (rules : List PrefixRule) (p : PrefixRule) (len : ℕ) (list : List Rule)
    → AreRulesOfLength rules len list → (CanMatch p len → ⊥) → AreRulesOfLength (rules ++ p ∷ []) len list
length_skip rules p len list h cannot = record {
  matched = λ x a l. let theirs = any_push (λ q. MatchesRoute q (network_at x len)) rules p in (
    λ any. theirs.1 (inl ((h.matched x a l).0 any)),
    λ any. elim (theirs.0 any) [
      | inl f ↦ (h.matched x a l).1 f
      | inr g ↦ absurd (cannot (can_from_match p len x a l g))
    ],
  );
  permitted = λ x a l. let theirs = permit_push MatchesRoute (λ q. q.action) rules p (network_at x len) in (
    λ v. theirs.1 (inl ((h.permitted x a l).0 v)),
    λ v. elim (theirs.0 v) [
      | inl f ↦ (h.permitted x a l).1 f
      | inr g ↦ absurd (cannot (can_from_match p len x a l g.1))
    ],
  );
  fits = h.fits;
}
