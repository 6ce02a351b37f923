use Rattle.std.proofs.Common.{ℕ, arith}
use Rattle.std.proofs.lemmas.List.{length-take, length-drop}
use Rattle.ipnet_text.proofs.WindowLaws.{taken}
use Rattle.ipnet_text.proofs.window.Window.take.Goals as goal

pub returns : goal.returns
returns c =
    let w = c.args.self.now in
    taken w.bytes.items w.start w.end c.args.count (omega (arith, length-take {A = ℕ}, length-drop {A = ℕ}))
