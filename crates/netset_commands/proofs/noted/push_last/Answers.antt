use Rattle.std.proofs.Common.{length, ◌-◌, refl}
use Rattle.std.proofs.Math.Seq.{map-set_same}
use Rattle.netset_commands.proofs.WordLaws.{anyway}
use Rattle.netset_commands.proofs.noted.push_last.Goals as goal
use Rattle.svg_maps.specs.declared.entry.MapEntry.{MapEntry}

pub returns : goal.returns
returns c =
    anyway c.push_title.result (map-set_same (λ (e : MapEntry). e.network) c.args.entries.now
    (length c.args.entries.now - 1) _ c.index-entries-count.result refl)
