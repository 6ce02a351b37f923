use Rattle.netset_lib.specs.Answering.{IsAnswererFor}
use Rattle.netset_lib.proofs.ListsReading.{next_read}
use Rattle.netset_lib.proofs.set_reader.SetReader.read_answerer.Goals as goal

pub returns : goal.returns
returns g c =
    next_read (IsAnswererFor c.args.query c.in_ok-answerer.answerer) (g.R.Read.remaining c.args.input.now)
    (g.R.Read.remaining c.read_answerer.new.input) c.args.self _ c.in_ok-answerer.ensures
