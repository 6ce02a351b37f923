use Rattle.std.proofs.Common.{refl}
use Rattle.ipnet_lists.specs.FoundEntry.{found_range}
use Rattle.netset_words.proofs.host.read_whole.Goals as goal

pub returns-in-Some : goal.returns-in-Some
returns-in-Some c = record {
  is = (refl, (found_range c.in-Some.found, c.in-Some.ensures.reads.some));
  entry = c.in-Some.ensures.reads.some;
  kind = c.in-Some.ensures.kind;
}

pub returns-in-None : goal.returns-in-None
returns-in-None c = λ place is. c.in-None.ensures.reads.none.0 refl is.1.0 is.1.1
