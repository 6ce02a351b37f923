use Rattle.std.proofs.Common.{refl, subst}
use Rattle.ipnet_text.proofs.ListsLaws.{OnOk_then}
use Rattle.netset_entries.specs.NoteSteps.{ReadsLine}
use Rattle.netset_entries.proofs.noted.EntryNotes.note_line.Goals as goal

pub returns : goal.returns
returns c =
    OnOk_then c.note_line.result c.note_line.ensures
    (λ reads. record {
      blocks = subst (ReadsLine c.args.self.now.blocks c.note_line.new.self) c.after_start-line.ensures reads;
      started = refl;
      same_line = refl;
    })
