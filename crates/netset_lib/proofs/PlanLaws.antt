-- The room that a plan needs.
use Rattle.std.proofs.Common.{ℕ, List}
use Rattle.ipnet_base.specs.Address.{Family, Address}
use Rattle.ipnet_base.specs.Network.{Network}
use Rattle.ipnet_pools.specs.Plans.{IsPlan}
use Rattle.ipnet_pools.proofs.PlanLaws.{plan_places}
use Rattle.ipnet_pools.proofs.RoomLaws.{room_for_placed}
use Rattle.netset_lib.specs.declared.operation.Families.{Families}
use Rattle.netset_lib.specs.PlanAnswers.{IsPlanFamily, HasRoomForEach}

-- a set with a plan has room for each of the lengths by itself
pub room_of_plan : (S : Address → Type 0) (families : Families) (f : Family) (lengths : List ℕ)
    (networks : List Network) → IsPlanFamily families S f → IsPlan S f lengths networks
    → HasRoomForEach S families lengths
room_of_plan S families f lengths networks chosen plan = record {
  family = f;
  chosen = chosen;
  room = room_for_placed S f lengths (plan_places S f lengths networks plan);
}
