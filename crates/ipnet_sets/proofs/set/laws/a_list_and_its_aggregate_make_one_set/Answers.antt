-- The aggregate covers what the list covers, and is its own aggregate.
use Rattle.ipnet_base.specs.Blocks.{IsCoveredBy}
use Rattle.ipnet_base.proofs.AggregateLaws.{IsExactCover-of_aggregate, aggregate_valid, aggregate_of_aggregate}
use Rattle.ipnet_base.proofs.UniqueLaws.{AreMaximalBlocks-unique, AreMaximalBlocks-same_set}
use Rattle.ipnet_sets.specs.Members.{IsMember}
use Rattle.ipnet_sets.proofs.set.laws.a_list_and_its_aggregate_make_one_set.Goals as goal

pub returns-clause-set : goal.returns-clause-set
returns-clause-set c s t list aggregate valid h of_list of_aggregate x =
    let cover = (IsExactCover-of_aggregate list aggregate valid h).covers x in (
      λ m. (of_aggregate x).1 (cover.1 ((of_list x).0 m)),
      λ m. (of_list x).1 (cover.0 ((of_aggregate x).0 m)),
    )

pub returns-clause-networks : goal.returns-clause-networks
returns-clause-networks c t list aggregate networks valid h same blocks =
    AreMaximalBlocks-unique (IsCoveredBy aggregate) 0 networks aggregate
    (AreMaximalBlocks-same_set (IsMember t) (IsCoveredBy aggregate) 0 networks same blocks)
    (aggregate_of_aggregate list aggregate valid h)

pub returns-clause-valid : goal.returns-clause-valid
returns-clause-valid c list aggregate valid h = aggregate_valid list aggregate valid h
