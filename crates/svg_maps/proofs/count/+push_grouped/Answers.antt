use Rattle.std.proofs.Common.{◌≡◌, ◌≤◌, ◌<◌, ◌-◌, ◌/◌, ◌++◌, ◌∙◌, ap, sym, codes, arith, string_bytes}
use Rattle.std.proofs.lemmas.Bool.Decides.{nat_tests}
use Rattle.svg_maps.specs.Counts.{grouped, three_digits}
use Rattle.svg_maps.proofs.GroupLaws.{none_grouped, small_grouped, large_grouped, three_texts}
use Rattle.svg_maps.proofs.count.+push_grouped.Goals as goal

pub returns-then-commas-eq0 : goal.returns-then-commas-eq0
returns-then-commas-eq0 t c =
    let none : c.args.commas ≡ 0 = grind (arith, nat_tests, c.if-commas-eq0.true) in
    c.in_ok-write.ensures.bytes
    ∙ ap (λ z. string_bytes c.args.text.now ++ z) (sym (none_grouped c.args.commas c.args.number none))

pub returns-then-is_short : goal.returns-then-is_short
returns-then-is_short t c =
    let short : c.args.number < 1000 = grind (arith, nat_tests, c.if-is_short.true) in
    c.in_ok-write-2.ensures.bytes
    ∙ ap (λ z. string_bytes c.args.text.now ++ z) (sym (small_grouped c.args.commas c.args.number short))

pub returns : goal.returns
returns t c =
    let some : 0 < c.args.commas = grind (arith, nat_tests, c.if-commas-eq0.false) in
    let long : 1000 ≤ c.args.number = grind (arith, nat_tests, c.if-is_short.false) in
    three_texts (string_bytes c.args.text.now) (grouped (c.args.commas - 1) (c.args.number / 1000)) (codes ",")
    (three_digits c.args.number) (string_bytes c.push_grouped.new.text) (string_bytes c.push_str.new.self)
    (string_bytes c.push_three.new.text) c.in_ok-push_grouped.ensures c.in_ok-push_str.ensures.bytes
    c.in_ok-push_three.ensures
    ∙ ap (λ z. string_bytes c.args.text.now ++ z) (sym (large_grouped c.args.commas c.args.number some long))
