use Rattle.std.proofs.Common.{◌++◌, ap, ◌∙◌}
use Rattle.std.proofs.lemmas.List.Sorted.{IsNonDecreasingBy-from_sort}
use Rattle.ipnet_fewest.proofs.NumberLaws.{all_members}
use Rattle.ipnet_fewest.proofs.values.all_values.Goals as goal

pub returns-clause-sorted : goal.returns-clause-sorted
returns-clause-sorted c = IsNonDecreasingBy-from_sort (λ x. x) c.sort.new.self.items c.in_ok-sort.ensures.sorted

pub returns-clause-members : goal.returns-clause-members
returns-clause-members c =
    all_members c.args.first.now c.args.second.now c.extend_from_slice.new.self.items c.sort.new.self.items
    (c.in_ok-extend_from_slice.ensures.items ∙ ap (λ z. z ++ c.args.second.now) c.in_ok-values.ensures.items)
    c.sort.ensures.permutation
