-- The part of the array from the row's start to its end is replaced.
use Rattle.std.proofs.Common.{◌≡◌, length, ap, ◌∙◌}
use Rattle.ipnet_c.proofs.RowLaws.{row_part, row_len, written_row, other_row}
use Rattle.ipnet_c.proofs.row_form.write_octets.Goals as goal

pub returns-clause-written : goal.returns-clause-written
returns-clause-written c =
    let octets = c.args.octets.now in
    let index = c.args.index in
    let len : length c.copy_from_slice.new.self ≡ 16 =
    c.copy_from_slice.ensures.len ∙ ap length (row_part octets index) ∙ row_len octets index c.requires in
    written_row octets c.copy_from_slice.new.self index c.requires len ∙ c.copy_from_slice.ensures.after

pub returns-clause-others : goal.returns-clause-others
returns-clause-others c =
    let octets = c.args.octets.now in
    let index = c.args.index in
    let len : length c.copy_from_slice.new.self ≡ 16 =
    c.copy_from_slice.ensures.len ∙ ap length (row_part octets index) ∙ row_len octets index c.requires in
    λ i other. other_row octets c.copy_from_slice.new.self index i c.requires len other
