use Rattle.ipnet_sets.specs.Members.{IsMember}
use Rattle.ipnet_maps.proofs.ShareLaws.{nothing_shown, whole_shown}
use Rattle.ipnet_maps.proofs.LevelOrderLaws.{level_order}
use Rattle.ipnet_maps.proofs.laws.levels_follow_sets.Goals as goal

pub returns-clause-nothing : goal.returns-clause-nothing
returns-clause-nothing c = λ s n level h. nothing_shown (IsMember s) n h.count level h.is_count h.share

pub returns-clause-whole : goal.returns-clause-whole
returns-clause-whole c = λ s n level h. whole_shown s n h.count level h.is_count h.share

pub returns-clause-ordered : goal.returns-clause-ordered
returns-clause-ordered c = λ a b n level other within h k.
    level_order (IsMember a) (IsMember b) n level other within h k
