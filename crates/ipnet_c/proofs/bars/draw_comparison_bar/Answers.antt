-- The bar is of the sets of the two images.
use Rattle.std.proofs.Common.{refl, rules}
use Rattle.ipnet.specs.NetworkOf.{ip_network}
use Rattle.ipnet_c.proofs.bars.draw_comparison_bar.Goals as goal

pub returns-in_default-clause-none : goal.returns-in_default-clause-none
returns-in_default-clause-none c = λ none. (
  c.in_ok-before.before,
  c.in_ok-after.after,
  c.in_ok-all.all,
  c.in_ok-before.ensures,
  c.in_ok-after.ensures,
  c.in_ok-all.ensures.members,
  search rules,
)

pub returns-clause-bar : goal.returns-clause-bar
returns-clause-bar c = (
  c.in_ok-before.before,
  c.in_ok-after.after,
  c.in_ok-before.ensures,
  c.in_ok-after.ensures,
  record {
    form = c.args.form;
    options_are = refl;
    all = c.in_ok-all.all;
    both = c.in_ok-all.ensures.members;
    network = ip_network c.in-Some.network;
    is_frame = search rules;
    bar = search rules;
  },
)
