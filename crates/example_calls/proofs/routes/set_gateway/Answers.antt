-- The last value that is written through the reference is the gateway.
use Rattle.example_calls.proofs.routes.set_gateway.Goals as goal

pub returns-in-Some-clause-set : goal.returns-in-Some-clause-set
returns-in-Some-clause-set c = λ h. rw c.in-Some.is at (c.get_mut.follows.holds c.args.gateway)
