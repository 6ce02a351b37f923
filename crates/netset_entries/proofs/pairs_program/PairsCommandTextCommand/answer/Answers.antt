use Rattle.std.proofs.Common.{◌↔◌, IsTrue, subst, string_bytes}
use Rattle.ipnet_sets.specs.Members.{IsMember}
use Rattle.netset_entries.specs.ListPairs.{ArePairs, HaveAllSame}
use Rattle.netset_entries.proofs.pairs_program.PairsCommandTextCommand.answer.Goals as goal

pub returns-clause-text : goal.returns-clause-text
returns-clause-text c =
    subst (λ z. ArePairs IsMember c.args.self.names.now z (string_bytes c.in_ok-text.text)) c.as_slice.ensures.value
    c.in_ok-text.ensures

pub returns-clause-outcome : goal.returns-clause-outcome
returns-clause-outcome c =
    subst (λ z. IsTrue c.are_all_same-same.result ↔ HaveAllSame IsMember z) c.as_slice-2.ensures.value
    c.are_all_same-same.ensures
