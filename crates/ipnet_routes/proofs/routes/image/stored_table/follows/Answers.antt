-- A network is truncated if it is its own truncation.
use Rattle.std.proofs.Common.{◌≡◌, Bool, true, false, Some, None, refl, sym, ◌∙◌, subst}
use Rattle.ipnet_base.specs.Network.{IsTruncated, IsBefore}
use Rattle.ipnet_base.proofs.NetworkLaws.{truncation_from_relation, truncation_of_truncated, IsTruncated-truncation}
use Rattle.ipnet_base.proofs.ResultLaws.{true_gives, false_gives}
use Rattle.ipnet.specs.NetworkOf.{ip_network}
use Rattle.ipnet_routes.proofs.RouteLaws.{less_gives, not_less_gives, not_back}
use Rattle.ipnet_routes.proofs.TableImageLaws.{same_some}
use Rattle.ipnet_routes.proofs.routes.image.stored_table.follows.Goals as goal

pub returns-then-not-is_same : goal.returns-then-not-is_same
returns-then-not-is_same c =
    let n = ip_network c.args.network.now in (
      λ e. let apart : false ≡ true = e in absurd (cc),
      λ h. absurd (false_gives c.is_same.result c.is_same.ensures c.if-not-is_same.true
          (truncation_from_relation (ip_network c.trunc-first.result) n c.trunc-first.ensures
          ∙ truncation_of_truncated n h.0)),
    )

pub returns-in-Some : goal.returns-in-Some
returns-in-Some c =
    let n = ip_network c.args.network.now in
    let p = c.in-Some.before in
    let order = c.ip_nets_compare_by_network.ensures.compare p c.args.network.now in
    let cut : IsTruncated n = subst IsTruncated
    (sym (truncation_from_relation (ip_network c.trunc-first.result) n c.trunc-first.ensures)
    ∙ true_gives c.is_same.result c.is_same.ensures c.if-not-is_same.false) (IsTruncated-truncation n) in (
      λ yes. (
        cut,
        λ q e. subst (λ z. IsBefore (ip_network z) n) (same_some c.args.previous p q c.in-Some.is e)
            (less_gives p c.args.network.now order (sym c.lt.ensures ∙ yes)),
      ),
      λ h. yes_of c.lt.result (λ no. not_back (ip_network p) n (h.1 p c.in-Some.is)
          (not_less_gives p c.args.network.now order (sym c.lt.ensures ∙ no))),
    )
  where
    yes_of : (b : Bool) → (b ≡ false → ⊥) → b ≡ true
    yes_of true out = refl
    yes_of false out = absurd (out refl)

pub returns-in-None : goal.returns-in-None
returns-in-None c =
    let n = ip_network c.args.network.now in
    let cut : IsTruncated n = subst IsTruncated
    (sym (truncation_from_relation (ip_network c.trunc-first.result) n c.trunc-first.ensures)
    ∙ true_gives c.is_same.result c.is_same.ensures c.if-not-is_same.false) (IsTruncated-truncation n) in (
      λ yes. (cut, λ q e. let apart : None ≡ Some q = sym c.in-None.is ∙ e in absurd (cc)),
      λ h. refl,
    )
