-- Equal sets have no text; the two lines are of sets that are not equal.
use Rattle.std.proofs.Common.{sym, ◌∙◌, codes, string_bytes}
use Rattle.std.proofs.lemmas.Bool.{false≢true}
use Rattle.ipnet_sets.specs.Members.{IsMember}
use Rattle.ipnet_sets.proofs.SetEqualLaws.{equal_by_addresses}
use Rattle.netset_lib.proofs.CountTexts.{lines_alone, lines_some, four_joined}
use Rattle.netset_lib.proofs.counts.comparison_text.Goals as goal

pub returns-then-eq : goal.returns-then-eq
returns-then-eq c =
    let same = (equal_by_addresses c.args.first.now c.args.second.now).0 (sym c.eq.ensures ∙ c.if-eq.true) in record {
      same = λ _. c.new-text.ensures.bytes;
      only = λ _. same;
      differ = λ no. absurd (no same);
    }

pub returns : goal.returns
returns c =
    let first = c.args.first.now in
    let second = c.args.second.now in
    let one = c.in_ok-push_counts.ensures in
    let two = c.in_ok-push_counts-2.ensures in
    let lines = lines_alone first second c.in_ok-only_first.only_first c.in_ok-only_second.only_second one.0 two.0
    (string_bytes c.push_counts-2.new.text) c.in_ok-only_first.ensures.members c.in_ok-only_second.ensures.members
    one.1 two.1
    (four_joined (string_bytes c.new-text.result) (string_bytes c.push_str.new.self)
    (string_bytes c.push_counts.new.text) (string_bytes c.push_str-2.new.self) (string_bytes c.push_counts-2.new.text)
    (codes "only in the first: ") one.0 (codes "only in the second: ") two.0 c.new-text.ensures.bytes
    c.in_ok-push_str.ensures.bytes
    one.2 c.in_ok-push_str-2.ensures.bytes two.2) in
    record {
      same = λ h. absurd
          (false≢true (sym c.if-eq.false ∙ c.eq.ensures ∙ (equal_by_addresses first second).1 h));
      only = λ none. absurd (lines_some (IsMember first) (IsMember second) (string_bytes c.push_counts-2.new.text) lines
          none);
      differ = λ _. lines;
    }
