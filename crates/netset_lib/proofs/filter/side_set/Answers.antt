use Rattle.netset_lib.proofs.filter.side_set.Goals as goal

pub returns-in-Inside : goal.returns-in-Inside
returns-in-Inside c = rw c.in-Inside.is (λ x fits. (λ h. h, λ h. h))
