use Rattle.std.proofs.Common.{◌∙◌, ap, subst}
use Rattle.ipnet_text.proofs.ListsLaws.{OnOk_then}
use Rattle.netset_entries.specs.NoteSteps.{ReadsLine, first_text}
use Rattle.netset_entries.proofs.noted.EntryNotes.note_begun.Goals as goal

pub returns : goal.returns
returns c =
    let old = c.args.self.now in
    OnOk_then c.note_line.result c.note_line.ensures
    (λ reads. record {
      blocks = subst (λ z. ReadsLine old.blocks c.note_line.new.self.blocks (first_text old.is_start z))
          (c.as_slice.ensures.value ∙ ap (λ v. v.items) c.replace-line.ensures.value) reads.blocks;
      started = reads.started;
      no_line = ap (λ v. v.items) (reads.same_line ∙ c.replace-line.ensures.after) ∙ c.new-empty.ensures.items;
    })
