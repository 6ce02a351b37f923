-- The bar is of the set of the image.
use Rattle.std.proofs.Common.{refl, rules}
use Rattle.ipnet.specs.NetworkOf.{ip_network}
use Rattle.ipnet_c.proofs.bars.draw_bar.Goals as goal

pub returns-in_default-clause-none : goal.returns-in_default-clause-none
returns-in_default-clause-none c = λ none. (c.in_ok-first.first, c.in_ok-first.ensures, search rules)

pub returns-clause-bar : goal.returns-clause-bar
returns-clause-bar c = (
  c.in_ok-first.first,
  c.in_ok-first.ensures,
  record {
    form = c.args.form;
    options_are = refl;
    network = ip_network c.in-Some.network;
    is_frame = search rules;
    bar = search rules;
  },
)
