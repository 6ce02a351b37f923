-- Each turn puts one network in the place of the last one and the next (`JoinLaws`).
use Rattle.std.proofs.Common.{◌≡◌, ◌∷◌, ◌++◌, [], map, ◌∙◌, sym, ap, subst}
use Rattle.std.proofs.Common.{option_copied}
use Rattle.std.proofs.lemmas.List.{map_push}
use Rattle.ipnet.specs.Blocks.{HaveSameCover}
use Rattle.ipnet.proofs.ListLaws.{popped_last}
use Rattle.ipnet_text.proofs.JoinLaws.{cover_of_last_joined}
use Rattle.ipnet_text.proofs.net_lists.push_joined.Goals as goal

pub loop-last-init : goal.loop-last-init
loop-last-init g c = λ x. (λ a. a, λ a. a)

pub loop-last-preserved : goal.loop-last-preserved
loop-last-preserved g c =
    let net = g.N.Net.network in
    let items = c.loop-last.list.items in
    let t = c.in-Some.last.now in
    let given = map net c.args.list.now.items ++ net c.args.network ∷ [] in
    let popped : items ≡ c.pop.new.self.items ++ t ∷ [] =
    popped_last items c.deref.result.now c.pop.new.self.items c.last.result c.pop.result t c.deref.ensures.value
    c.deref.ensures.len c.last.ensures.value (ap option_copied c.in-Some.is) c.pop.ensures.items
    (c.pop.ensures.value t) in
    let mapped : map net items ≡ map net c.pop.new.self.items ++ net t ∷ [] =
    ap (map net) popped ∙ map_push net c.pop.new.self.items t in
    cover_of_last_joined (map net c.pop.new.self.items) given (net t) (net c.loop-last.next)
    (net c.in-Some-merged.whole)
    (subst (λ z. HaveSameCover (z ++ net c.loop-last.next ∷ []) given) mapped c.loop-last.invariant)
    c.in-Some-merged.ensures

pub returns : goal.returns
returns g c =
    let net = g.N.Net.network in
    let given = map net c.args.list.now.items ++ net c.args.network ∷ [] in
    subst (λ z. HaveSameCover z given)
    (sym (ap (map net) c.in_ok-push.ensures.items ∙ map_push net c.loop-last.list.items c.loop-last.next))
    c.loop-last.invariant
