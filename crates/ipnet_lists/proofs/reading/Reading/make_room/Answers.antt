use Rattle.std.proofs.Common.{◌++◌, length, arith, ap, ◌∙◌, sym}
use Rattle.std.proofs.lemmas.List.{length-drop}
use Rattle.ipnet_text.specs.Window.{held}
use Rattle.ipnet_lists.proofs.WindowReading.{spilled}
use Rattle.ipnet_lists.proofs.reading.Reading.make_room.Goals as goal

pub returns-in_ok-extend_from_slice-clause-pending : goal.returns-in_ok-extend_from_slice-clause-pending
returns-in_ok-extend_from_slice-clause-pending c =
    let old = c.args.self.now in
    spilled old.carry.items (held old.window) c.extend_from_slice.new.self.items (held c.take.new.self) 65536
    (c.in_ok-extend_from_slice.ensures.items ∙ ap (λ z. old.carry.items ++ z) c.held-held.ensures.value)
    (sym (ap length c.held-held.ensures.value) ∙ c.if-held-eq-SIZE.true) c.take.ensures

pub returns-in_ok-extend_from_slice-clause-room : goal.returns-in_ok-extend_from_slice-clause-room
returns-in_ok-extend_from_slice-clause-room c =
    let old = held c.args.self.now.window in
    omega (
      arith,
      ap length c.take.ensures,
      length-drop 65536 old,
      ap length c.held-held.ensures.value,
      c.if-held-eq-SIZE.true,
    )
