use Rattle.std.proofs.Common.{refl}
use Rattle.netset_entries.proofs.ReadingLaws.{list_selected}
use Rattle.netset_entries.proofs.selection.Selection.read.Goals as goal

pub returns : goal.returns
returns g c = λ request lists h.
    list_selected request lists c.args.self _ (g.R.Read.remaining c.args.input.now)
    (g.R.Read.remaining c.read_list.new.input) h refl c.in_ok-read_list.ensures
