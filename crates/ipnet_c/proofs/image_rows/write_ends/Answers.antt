-- The second write leaves the first row as it is.
use Rattle.std.proofs.Common.{◌≡◌, ◌≢◌, ◌+◌, length, get_or, option_map, refl, ap, ◌∙◌, arith}
use Rattle.std.proofs.lemmas.Grind.{get_or-set_at}
use Rattle.std.proofs.lemmas.List.{length-set, get_or-set_other}
use Rattle.ipnet_base.specs.Address.{ip_address}
use Rattle.ipnet_base.specs.RangeOf.{ip_range}
use Rattle.ipnet_c.specs.Rows.{written_family}
use Rattle.ipnet_c.proofs.ImageRowReplies.{ends_written}
use Rattle.ipnet_c.proofs.image_rows.write_ends.Goals as goal

pub returns-clause-ends : goal.returns-clause-ends
returns-clause-ends c =
    let families = c.args.families.now in
    let index = c.args.index in
    let one = c.write_row in
    let two = c.write_row-2 in
    let now = one.new.families in
    let new = two.new.families in
    let first = written_family (option_map ip_address c.min.result) in
    let last = written_family (option_map ip_address c.max.result) in
    let long : length now ≡ length families = ap length one.ensures.family ∙ length-set families index first in
    let before : index ≢ index + 1 = λ same. omega (arith, same) in
    ends_written now one.new.octets new two.new.octets index (ip_range c.args.range) c.min.result c.max.result
    c.requires.some c.requires.fits c.min.ensures c.max.ensures
    (ap (λ z. get_or z index 0) one.ensures.family
    ∙ get_or-set_at families index index first 0 refl (omega (arith, c.requires.within)))
    one.ensures.written
    (ap (λ z. get_or z (index + 1) 0) two.ensures.family
    ∙ get_or-set_at now (index + 1) (index + 1) last 0 refl (omega (arith, c.requires.within, long)))
    two.ensures.written
    (ap (λ z. get_or z index 0) two.ensures.family ∙ get_or-set_other now (index + 1) index last 0 before)
    (two.ensures.others index before)
