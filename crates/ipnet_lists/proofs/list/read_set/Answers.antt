use Rattle.ipnet_sets.specs.Members.{IsMember}
use Rattle.ipnet_sets.specs.Pushed.{IsPushed}
use Rattle.ipnet_lists.specs.Lists.{HaveAddresses}
use Rattle.ipnet_lists.proofs.MadeLaws.{made_of, made_weaker}
use Rattle.ipnet_lists.proofs.RangeCovers.{has_none}
use Rattle.ipnet_lists.proofs.list.read_set.Goals as goal

pub returns : goal.returns
returns g c =
    let left = g.R.Read.remaining c.args.input.now in
    let after = g.R.Read.remaining c.read_list.new.input in
    let made = HaveAddresses (IsPushed c.read_list.new.made) in
    made_weaker left after c.args.reading.now c.read_list.new.self made
    (HaveAddresses (IsMember c.in_ok-into_set.field-0))
    (made_of left after c.args.reading.now c.read_list.new.self (HaveAddresses (IsPushed c.new-builder.result)) made
    c.in_ok-read_list.ensures (has_none (IsPushed c.new-builder.result) c.new-builder.ensures))
    (λ entries same x.
    let is = c.in_ok-into_set.ensures.members x in
    (λ m. (same x).0 (is.0 m), λ i. is.1 ((same x).1 i)))
