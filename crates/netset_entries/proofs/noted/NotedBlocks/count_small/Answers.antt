use Rattle.std.proofs.Common.{rules, ◌≡◌, ◌≤◌, [], Contains, inl, inr, sym, subst}
use Rattle.ipnet_base.specs.Blocks.{AreMaximalBlocks}
use Rattle.ipnet_base.proofs.ListLaws.{contains_cases, contains_nil}
use Rattle.ipnet.specs.NetworkOf.{ip_network}
use Rattle.ipnet.specs.SubnetsLeft.{ip_subnets_left}
use Rattle.ipnet_sets.specs.SetRanges.{IsInRange}
use Rattle.ipnet_lists.specs.EntryOf.{entry_range}
use Rattle.netset_entries.specs.NoteSteps.{largest_of}
use Rattle.netset_entries.proofs.noted.NotedBlocks.count_small.Goals as goal

pub loop-network-init : goal.loop-network-init
loop-network-init c = λ n h.
    let are = subst (λ w. AreMaximalBlocks (IsInRange (entry_range c.args.entry)) 0 (ip_subnets_left w))
    (sym c.into_iter-network-iterator.ensures.into_iter_gives) c.walk-network-items.ensures in
    inl ((are.members n).1 h)

pub loop-network-preserved : goal.loop-network-preserved
loop-network-preserved c = λ n h.
    let first = ip_network c.in-Some.network in
    let after = ip_subnets_left c.next.new.self in
    elim (c.loop-network.invariant n h) [
      | inr small ↦ inr small
      | inl left ↦
          elim (contains_cases first after n (subst (λ z. Contains z n) c.in-Some.ensures.steps left)) [
            | inr later ↦ inl later
            | inl here ↦
                inr (subst (λ z. (largest_of z.family c.args.self.now).end ≤ z.prefix_len) here
                (c.is_too_small.ensures.0 c.if-not-is_too_small.false))
          ]
    ]

pub returns : goal.returns
returns c = λ n h.
    let none : ip_subnets_left c.loop-network.network-iterator ≡ [] = search rules in
    elim (c.loop-network.invariant n h) [
      | inr small ↦ small
      | inl left ↦ absurd (contains_nil n (subst (λ z. Contains z n) none left))
    ]
