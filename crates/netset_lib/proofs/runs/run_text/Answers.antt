-- `run_text_to_end` says more: also when the whole report was written.
use Rattle.std.proofs.Common.{inl, inr}
use Rattle.netset_lib.proofs.runs.run_text.Goals as goal

pub returns-clause-other : goal.returns-clause-other
returns-clause-other g c = λ one. elim (c.run_text_to_end.ensures.other one) [
  | inl answered ↦ inl answered
  | inr failed ↦
      let (kept, (failure, is, exits, begun, whole)) = failed in
      inr (kept, (failure, is, exits, begun))
]

pub returns-clause-cut_short : goal.returns-clause-cut_short
returns-clause-cut_short g c = λ two. elim (c.run_text_to_end.ensures.cut_short two) [
  | inl failed ↦
      let (kept, (failure, is, exits, begun, whole)) = failed in
      inl (kept, (failure, is, exits, begun))
  | inr unwritten ↦
      let (front, begun, whole) = unwritten in
      inr (front, begun)
]
