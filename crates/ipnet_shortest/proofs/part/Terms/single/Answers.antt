-- One block adds nothing, if it may be covered; and no list covers it if it may not.
use Rattle.std.proofs.Common.{◌≡◌, [], ◌∷◌, ◌++◌, length, sym, ap, ◌∙◌, subst}
use Rattle.ipnet_base.specs.Blocks.{IsCoveredBy}
use Rattle.ipnet_base.proofs.ResultLaws.{true_gives, false_gives}
use Rattle.ipnet.specs.NetLaws.{ip_valid}
use Rattle.ipnet.specs.NetworkOf.{ip_network}
use Rattle.ipnet_sets.specs.Members.{IsMember}
use Rattle.ipnet_shortest.specs.PartCovers.{IsSolved}
use Rattle.ipnet_shortest.proofs.PartLaws.{one_solved, one_none}
use Rattle.ipnet_shortest.proofs.part.Terms.single.Goals as goal

pub returns-then-not-covers-clause-none : goal.returns-then-not-covers-clause-none
returns-then-not-covers-clause-none c =
    one_none (IsMember c.args.self.now.allowed) (ip_network c.args.block.now) c.args.self.now.limit
    (false_gives c.covers.result c.covers.ensures c.if-not-covers.true)

pub returns-clause-order : goal.returns-clause-order
returns-clause-order c = λ t. (t, λ x a. a)

pub returns-clause-some : goal.returns-clause-some
returns-clause-some c =
    let b = ip_network c.args.block.now in
    let costs : c.push.new.self.items ≡ 0 ∷ [] =
    c.in_ok-push.ensures.items ∙ ap (λ z. z ++ 0 ∷ []) c.in_ok-costs.ensures.items in
    record {
      solved = subst (λ z. IsSolved (IsCoveredBy (b ∷ [])) (IsMember c.args.self.now.allowed) c.args.self.now.limit b 0
          1 z (λ i. b ∷ [])) (sym costs)
          (one_solved (IsMember c.args.self.now.allowed) b c.args.self.now.limit (ip_valid c.args.block.now)
          c.requires.some (true_gives c.covers.result c.covers.ensures c.if-not-covers.false));
      sound = tt;
      size = sym (ap length costs);
    }
