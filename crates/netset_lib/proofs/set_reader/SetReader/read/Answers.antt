use Rattle.ipnet_lists.specs.Lists.{HaveAddresses}
use Rattle.ipnet_sets.specs.Members.{IsMember}
use Rattle.netset_lib.proofs.ListsReading.{next_read}
use Rattle.netset_lib.proofs.set_reader.SetReader.read.Goals as goal

pub returns : goal.returns
returns g c =
    next_read (HaveAddresses (IsMember c.in_ok-set.set)) (g.R.Read.remaining c.args.input.now)
    (g.R.Read.remaining c.read_set.new.input) c.args.self _ c.in_ok-set.ensures
