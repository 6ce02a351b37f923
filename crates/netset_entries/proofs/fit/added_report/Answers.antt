-- The added addresses are those that the networks cover and the set lacks.
use Rattle.std.proofs.Common.{◌++◌, ap, ◌∙◌, codes, map}
use Rattle.ipnet.specs.NetworkOf.{ip_network}
use Rattle.ipnet_sets.specs.Members.{IsMember}
use Rattle.ipnet_shortest.specs.Covers.{IsAdded}
use Rattle.netset_lib.proofs.CountTexts.{counts_same}
use Rattle.netset_entries.proofs.fit.added_report.Goals as goal

pub returns : goal.returns
returns c =
    let set = c.args.set.now in
    let networks = map ip_network c.args.networks.now in
    let (line, counts, written) = c.in_ok-push_counts.ensures in
    let covered = c.in_ok-covered.ensures.members in
    let added = c.in_ok-added.ensures.members in record {
      line = line;
      counts = counts_same (IsMember c.in_ok-added.added) (IsAdded (IsMember set) networks) line (λ x. (
        λ m. let a = (added x).0 m in ((covered x).0 a.0, a.1),
        λ a. (added x).1 ((covered x).1 a.0, a.1),
      )) counts;
      spelled = written ∙ ap (λ z. z ++ line) (c.in_ok-push_str.ensures.bytes
          ∙ ap (λ z. z ++ codes "netset: added: ") c.new-report.ensures.bytes);
    }
