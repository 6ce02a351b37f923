use Rattle.std.proofs.Common.{◌++◌, ◌∙◌, ap, refl, codes, string_bytes, append_assoc}
use Rattle.ipnet.specs.NetworkOf.{ip_network}
use Rattle.ipnet_sets.specs.Members.{IsMember}
use Rattle.ipnet_bars.specs.Changes.{IsOnlyIn}
use Rattle.ipnet_bars.proofs.OutsideLaws.{same_outside_text}
use Rattle.ipnet_bars.proofs.comparison_bar.push_changes_outside.Goals as goal

pub returns : goal.returns
returns c =
    let n = ip_network c.args.network.now in
    let sets = c.args.sets in
    let before = IsMember sets.before.now in
    let after = IsMember sets.after.now in
    let (first, of_first, first_pushed) = c.in_ok-push_outside.ensures in
    let (second, of_second, second_pushed) = c.in_ok-push_outside-2.ensures in (
      first ++ second,
      record {
        first = first;
        second = second;
        of_first = same_outside_text (IsMember sets.removed.now) (IsOnlyIn before after) n (codes "- ") first
            c.requires.removed of_first;
        of_second = same_outside_text (IsMember sets.added.now) (IsOnlyIn after before) n (codes "+ ") second
            c.requires.added of_second;
        spelled = refl;
      },
      second_pushed ∙ ap (λ z. z ++ second) first_pushed
          ∙ append_assoc (string_bytes c.args.text.now) first second,
    )
