use Rattle.ipnet_lists.proofs.CommentLaws.{cut_at, cut_nowhere}
use Rattle.netset_origins.proofs.FieldLaws.{rest_at, rest_nowhere}
use Rattle.netset_origins.proofs.field.cut_field.Goals as goal

pub returns-in-Some-clause-field : goal.returns-in-Some-clause-field
returns-in-Some-clause-field c = cut_at 44 c.args.text.now c.in-Some.end c.in-Some.ensures.0 c.in-Some.ensures.1

pub returns-in-Some-clause-rest : goal.returns-in-Some-clause-rest
returns-in-Some-clause-rest c = rest_at c.args.text.now c.in-Some.end c.in-Some.ensures.0 c.in-Some.ensures.1

pub returns-in-None-clause-field : goal.returns-in-None-clause-field
returns-in-None-clause-field c = cut_nowhere 44 c.args.text.now c.in-None.ensures

pub returns-in-None-clause-rest : goal.returns-in-None-clause-rest
returns-in-None-clause-rest c = rest_nowhere c.args.text.now c.in-None.ensures
