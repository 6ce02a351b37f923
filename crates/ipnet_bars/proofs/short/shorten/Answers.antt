use Rattle.std.proofs.Common.{◌++◌, ◌∙◌, ap, arith, codes, length, sym, string_bytes}
use Rattle.std.proofs.lemmas.Bool.{eqb-true, eqb-false}
use Rattle.ipnet_bars.proofs.ShortLaws.{all_shown, front_shown}
use Rattle.ipnet_bars.proofs.short.shorten.Goals as goal

pub returns-then-is_empty : goal.returns-then-is_empty
returns-then-is_empty c =
    let end = c.floor_char_boundary-end in
    all_shown c.args.text.now (string_bytes c.in_ok-short.short) end.result end.ensures.bound end.ensures.boundary
    end.ensures.nearest
    (omega (
      arith,
      c.split_at.ensures.back_len,
      eqb-true (length c.split_at.result.1.now) 0 (sym c.if-is_empty.ensures),
    ))
    (c.in_ok-short.ensures.ok ∙ c.split_at.ensures.front)

pub returns : goal.returns
returns c =
    let end = c.floor_char_boundary-end in
    front_shown c.args.text.now (string_bytes c.push_str.new.self) end.result end.ensures.bound end.ensures.boundary
    end.ensures.nearest
    (omega (
      arith,
      c.split_at.ensures.back_len,
      eqb-false (length c.split_at.result.1.now) 0 (sym c.if-is_empty.ensures),
    ))
    (c.in_ok-push_str.ensures.bytes
    ∙ ap (λ z. z ++ codes "..") (c.in_ok-short.ensures.ok ∙ c.split_at.ensures.front))
