-- All IPv6 addresses are 2^128.
use Rattle.std.proofs.Common.{refl}
use Rattle.netset_lib.proofs.CountTexts.{all_counted}
use Rattle.netset_entries.proofs.fit.ipv6_hundreds.Goals as goal

pub returns-in-None-clause-count : goal.returns-in-None-clause-count
returns-in-None-clause-count c = all_counted c.args.set.now (c.in-None.ensures.none.0 refl)
