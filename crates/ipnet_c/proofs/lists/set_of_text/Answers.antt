use Rattle.std.proofs.Common.{◌≡◌, subst, IsUtf8}
use Rattle.std.proofs.lemmas.Result.{IfOk-weaker, IfErr-weaker}
use Rattle.ipnet_c.specs.BadTexts.{IsBadList, IsBadText}
use Rattle.ipnet_c.specs.SetReplies.{HasAddressesOfText}
use Rattle.ipnet_c.proofs.BadTexts.{not_utf8, bad_list}
use Rattle.ipnet_c.proofs.lists.set_of_text.Goals as goal

pub returns-in_default-clause-bad : goal.returns-in_default-clause-bad
returns-in_default-clause-bad c =
    not_utf8 c.args.grammar c.args.text.now c.args.line.now c.in_default.ensures.cases.0

pub returns-clause-set : goal.returns-clause-set
returns-clause-set c =
    let (same, utf8) = c.in-Ok.ensures.cases in
    IfOk-weaker c.read_set.result
    (λ set. HasAddressesOfText c.args.grammar c.in-Ok.text.now set × (c.read_set.new.line ≡ c.args.line.now))
    (λ set. IsUtf8 c.args.text.now × HasAddressesOfText c.args.grammar c.args.text.now set
    × (c.read_set.new.line ≡ c.args.line.now))
    (λ set h. (utf8, subst (λ t. HasAddressesOfText c.args.grammar t set) same h.0, h.1)) c.read_set.ensures.set

pub returns-clause-bad : goal.returns-clause-bad
returns-clause-bad c =
    let (same, utf8) = c.in-Ok.ensures.cases in
    IfErr-weaker c.read_set.result (IsBadList c.args.grammar c.in-Ok.text.now c.args.line.now c.read_set.new.line)
    (IsBadText c.args.grammar c.args.text.now c.args.line.now c.read_set.new.line)
    (λ status h. bad_list c.args.grammar c.args.text.now c.args.line.now c.read_set.new.line status utf8
    (subst (λ t. IsBadList c.args.grammar t c.args.line.now c.read_set.new.line status) same h)) c.read_set.ensures.bad
