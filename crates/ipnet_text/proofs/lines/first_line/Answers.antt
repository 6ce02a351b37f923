-- The text is cut at its first newline, or has none (`LineCuts`).
use Rattle.std.proofs.Common.{ap₂, sym, ◌∙◌, ◌∷◌, lit<}
use Rattle.ipnet.specs.Lines.{lines_of}
use Rattle.ipnet_text.proofs.LineCuts.{first_cut, no_cut}
use Rattle.ipnet_text.proofs.lines.first_line.Goals as goal

pub returns-in-Some-clause-lines : goal.returns-in-Some-clause-lines
returns-in-Some-clause-lines c =
    let cut = rw c.in-Some.is at (c.split_once.ensures.byte (lit< tt) (λ w o h. h)) in
    first_cut c.args.text.now cut.2 ∙ ap₂ (λ line after. line ∷ lines_of after) (sym cut.0) (sym cut.1)

pub returns-in-None-clause-lines : goal.returns-in-None-clause-lines
returns-in-None-clause-lines c = no_cut c.args.text.now c.requires (c.in-None.ensures.byte (lit< tt) (λ w o h. h))
