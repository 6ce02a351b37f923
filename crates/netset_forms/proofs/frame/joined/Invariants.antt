-- The texts before this one are joined.
use Rattle.std.proofs.Common.{◌≡◌, take, string_bytes}
use Rattle.netset_forms.specs.FormSteps.{text_of_all}
use Rattle.netset_forms.proofs.frame.joined.Given as goal

abbrev pub invariant-loop-text : goal.invariant-loop-text
invariant-loop-text l = string_bytes l.whole ≡ text_of_all (take l.text-index l.texts)
