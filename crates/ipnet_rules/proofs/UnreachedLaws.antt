-- Rules that decide on no address: what earlier rules match, rule by rule.
use Rattle.std.proofs.Common.{◌≡◌, ℕ, ◌+◌, ◌<◌, ◌≤◌, ◌↔◌, List, [], ◌∷◌, ◌++◌, length, get_or, All, Any}
use Rattle.std.proofs.Common.{AllPairs, Contains, Result, Ok, Err, true, arith, refl, sym, subst, ◌∙◌, inl, inr}
use Rattle.std.specs.Result.{MatchResult, is_ok}
use Rattle.std.proofs.lemmas.Bool.{cases_lt}
use Rattle.std.proofs.lemmas.List.Elements.{All-nil, All-push}
use Rattle.std.proofs.lemmas.List.Quantifiers.{all_pairs_push}
use Rattle.ipnet_base.specs.Address.{Address}
use Rattle.ipnet_base.proofs.ListLaws.{at_place}
use Rattle.ipnet_rules.specs.declared.rules.Rule.{Rule}
use Rattle.ipnet_rules.specs.declared.unreached.Unreached.{Unreached}
use Rattle.ipnet_rules.specs.Rules.{Matches}
use Rattle.ipnet_rules.specs.UnreachedRules.{MatchesAt, IsUnreached, AreDeciders, AreUnreached}
use Rattle.ipnet_rules.proofs.VerdictLaws.{any_nil, any_push}

-- the rule at a place matches what the list has there
pub matches_at : (rules : List Rule) (place : ℕ) (d : Rule) (x : Address) → place < length rules
    → MatchesAt rules place x ↔ Matches (get_or rules place d) x
matches_at rules place d x within = (
  λ m. subst (λ r. Matches r x) (sym m.2 ∙ at_place rules place m.0 d within) m.3,
  λ m. (get_or rules place d, within, at_place rules place (get_or rules place d) d within, m),
)

-- what a binary search says of the place
pub found_or_not : (xs : List ℕ) (x : ℕ) (r : Result ℕ ℕ) → MatchResult r (λ i. (i < length xs) × (get_or xs i 0 ≡ x))
    (λ i. (i ≤ length xs) × ((k : ℕ) → k < i → get_or xs k 0 < x) × ((k : ℕ) → i ≤ k → k < length xs
    → x < get_or xs k 0)) → (is_ok r ≡ true) ↔ Contains xs x
found_or_not xs x (Ok i) h = (λ _. (i, h.0, at_place xs i x 0 h.0 ∙ h.1), λ _. refl)
found_or_not xs x (Err i) h = (
  λ no. absurd (cc),
  λ c. absurd (
      let is : get_or xs c.0 0 ≡ x = at_place xs c.0 0 x c.1 ∙ c.2 in
      elim (cases_lt c.0 i) [
        | inl less ↦ let below = h.1 c.0 less in let wrong : ⊥ = omega (arith, below, is) in wrong
        | inr not ↦ let above = h.2 c.0 (omega (arith, not)) c.1 in let wrong : ⊥ = omega (arith, above, is) in wrong
      ]
      ),
)

-- The list has each unreached rule below the place.
pub record AreUnreachedTo (rules : List Rule) (place : ℕ) (found : List Unreached) : Type 0 where
  pub ascending : AllPairs (λ u v. u.rule < v.rule) found
  pub members : (i : ℕ) → Any (λ u. u.rule ≡ i) found ↔ ((i < place) × IsUnreached rules i)
  pub deciders : All (λ u. AreDeciders rules u.rule u.deciders.items) found

-- no rule is below the first place
pub unreached_none : (rules : List Rule) → AreUnreachedTo rules 0 []
unreached_none rules = record {
  ascending = λ i j d less within. absurd (let wrong : ⊥ = omega (arith, within) in wrong);
  members = λ i. (
    λ a. absurd (any_nil (λ u. u.rule ≡ i) a),
    λ known. absurd (let wrong : ⊥ = omega (arith, known.0) in wrong),
  );
  deciders = All-nil (λ u. AreDeciders rules u.rule u.deciders.items);
}

-- the rule at the place is unreached
pub unreached_push : (rules : List Rule) (place : ℕ) (found : List Unreached) (u : Unreached)
    → AreUnreachedTo rules place found → IsUnreached rules place → u.rule ≡ place
    → AreDeciders rules place u.deciders.items → AreUnreachedTo rules (place + 1) (found ++ u ∷ [])
unreached_push rules place found u h never is deciders = record {
  ascending = all_pairs_push (λ v w. v.rule < w.rule) found u h.ascending (λ k d in_list.
      let v = get_or found k d in
      let below = ((h.members v.rule).0 (k, v, in_list, at_place found k v d in_list, refl)).0 in
      omega (arith, below, is));
  members = λ i. (
    λ a. elim ((any_push (λ v. v.rule ≡ i) found u).0 a) [
      | inl old ↦ let known = (h.members i).0 old in (omega (arith, known.0), known.1)
      | inr last ↦ (omega (arith, last, is), subst (IsUnreached rules) (sym is ∙ last) never)
    ],
    λ known. (any_push (λ v. v.rule ≡ i) found u).1 (elim (cases_lt i place) [
      | inl old ↦ inl ((h.members i).1 (old, known.1))
      | inr not ↦ inr (omega (arith, is, known.0, not))
    ]),
  );
  deciders = All-push (λ v. AreDeciders rules v.rule v.deciders.items) found u h.deciders
      (subst (λ i. AreDeciders rules i u.deciders.items) (sym is) deciders);
}

-- the rule at the place decides on some address
pub unreached_skip : (rules : List Rule) (place : ℕ) (found : List Unreached) → AreUnreachedTo rules place found
    → (IsUnreached rules place → ⊥) → AreUnreachedTo rules (place + 1) found
unreached_skip rules place found h reached = record {
  ascending = h.ascending;
  members = λ i. (
    λ a. let known = (h.members i).0 a in (omega (arith, known.0), known.1),
    λ known. elim (cases_lt i place) [
      | inl old ↦ (h.members i).1 (old, known.1)
      | inr not ↦ let same : i ≡ place = omega (arith, known.0, not) in
          absurd (reached (subst (IsUnreached rules) same known.1))
    ],
  );
  deciders = h.deciders;
}

-- all rules were asked
pub unreached_end : (rules : List Rule) (place : ℕ) (found : List Unreached) → AreUnreachedTo rules place found
    → (place < length rules → ⊥) → AreUnreached rules found
unreached_end rules place found h ended = record {
  ascending = h.ascending;
  members = λ i. (
    λ a. ((h.members i).0 a).1,
    λ never. (h.members i).1 (omega (arith, ended, never.within), never),
  );
  deciders = h.deciders;
}
