-- `run_to_end` says more: also when the whole report was written.
use Rattle.std.proofs.Common.{inl, inr}
use Rattle.netset_lib.proofs.runs.run.Goals as goal

pub returns-clause-other : goal.returns-clause-other
returns-clause-other g c = λ one. elim (c.run_to_end.ensures.other one) [
  | inl answered ↦ inl answered
  | inr failed ↦
      let (kept, (failure, is, exits, begun, whole)) = failed in
      inr (kept, (failure, is, exits, begun))
]

pub returns-clause-failed : goal.returns-clause-failed
returns-clause-failed g c = λ two.
    let (failure, is, exits, begun, whole) = c.run_to_end.ensures.failed two in
    (failure, is, exits, begun)
