use Rattle.std.proofs.lemmas.List.Elements.{All-contains_itself}
use Rattle.example_pools.proofs.pool.Pool.new.Goals as goal

-- nothing is handed out yet, so what a pool has is all subnets of the block
pub invariant_of-result : goal.invariant_of-result
invariant_of-result c = rw c.new.ensures.items (record {
  within = λ i d within. (c.in_ok-free.ensures.walk.members _).0 (All-contains_itself _ i d within);
  apart = c.in_ok-free.ensures.walk.disjoint;
})
