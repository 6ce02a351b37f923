use Rattle.std.proofs.Common.{sym, ◌∙◌}
use Rattle.ipnet_base.specs.Address.{ip_address}
use Rattle.ipnet_lists.specs.Causes.{AreBackwards}
use Rattle.ipnet_lists.specs.CauseSteps.{WriteEnds, ends_of}
use Rattle.ipnet_lists.proofs.CauseTexts.{pair_is, pair_none}
use Rattle.ipnet_lists.proofs.EntryTexts.{some_of, none_of}
use Rattle.ipnet_lists.proofs.cause_parts.are_backwards.Goals as goal

pub returns-in-Some : goal.returns-in-Some
returns-in-Some c =
    pair_is AreBackwards c.args.front.now c.args.back.now (ip_address c.in-Some.first) (ip_address c.in-Some.last)
    (some_of ends_of (WriteEnds c.args.front.now) c.args.back.now c.read_ends.result
    (c.in-Some.first, c.in-Some.last) c.read_ends.ensures c.in-Some.is)
    c.is_backwards.result c.is_backwards.ensures

pub returns-in-None : goal.returns-in-None
returns-in-None c =
    pair_none AreBackwards c.args.front.now c.args.back.now
    (none_of ends_of (WriteEnds c.args.front.now) c.args.back.now c.read_ends.result c.read_ends.ensures
    (λ v e. let clash = sym e ∙ c.in-None.is in absurd cc))
