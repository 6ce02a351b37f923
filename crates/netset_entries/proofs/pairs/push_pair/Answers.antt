use Rattle.std.proofs.Common.{◌++◌, ◌∷◌, [], refl, string_bytes}
use Rattle.netset_entries.proofs.PairLineLaws.{line_joined}
use Rattle.netset_entries.proofs.pairs.push_pair.Goals as goal

pub returns : goal.returns
returns c =
    let name = c.args.names.0.now in
    let other = c.args.names.1.now in
    let (one, two, three, of_one, of_two, of_both, counts) = c.in_ok-push_pair_counts.ensures in (
      name ++ 9 ∷ [] ++ other ++ one ++ two ++ three ++ 10 ∷ [],
      record {
        only_first = one;
        only_second = two;
        both = three;
        of_first = of_one;
        of_second = of_two;
        of_both = of_both;
        spelled = refl;
      },
      line_joined (string_bytes c.args.text.now) name (9 ∷ []) other one two three (10 ∷ [])
          (string_bytes c.push_str.new.self) (string_bytes c.push_str-2.new.self) (string_bytes c.push_str-3.new.self)
          (string_bytes c.push_pair_counts.new.text) (string_bytes c.push_str-4.new.self) c.in_ok-push_str.ensures.bytes
          c.in_ok-push_str-2.ensures.bytes c.in_ok-push_str-3.ensures.bytes counts c.in_ok-push_str-4.ensures.bytes,
    )
