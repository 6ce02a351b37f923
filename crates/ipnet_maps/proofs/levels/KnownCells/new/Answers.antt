use Rattle.ipnet_maps.proofs.LevelLaws.{none_pushed}
use Rattle.ipnet_maps.proofs.levels.KnownCells.new.Goals as goal

pub returns : goal.returns
returns c =
    none_pushed (record {
      some = c.new.result;
      below_quarter = c.new-2.result;
      from_quarter = c.new-3.result;
      whole = c.new-4.result;
    }) c.new.ensures c.new-2.ensures c.new-3.ensures c.new-4.ensures
