-- The parts of the chosen addresses are those that are asked for.
use Rattle.std.proofs.lemmas.Result.{IfOk-weaker, IfErr-weaker}
use Rattle.ipnet_sets.specs.Members.{IsMember}
use Rattle.netset_forms.specs.Forms.{IsAskedText, IsAskedFailure, IsFormText, IsFormFailure}
use Rattle.netset_forms.specs.FormSteps.{MakeParts}
use Rattle.netset_forms.proofs.FormLaws.{text_of_chosen, failure_of_chosen}
use Rattle.netset_forms.proofs.parts.asked_parts.Goals as goal

pub returns-clause-parts : goal.returns-clause-parts
returns-clause-parts c =
    let r = c.args.request in
    let S = IsMember c.args.set in
    let sub = IsMember c.in_ok-chosen.chosen in
    IfOk-weaker c.parts_of.result (MakeParts (IsFormText r.form r.min_length sub)) (MakeParts (IsAskedText r S))
    (λ parts h. record {
      text_is = λ text k. text_of_chosen r S sub c.in_ok-chosen.ensures text (h.text_is text k);
      fits_first = h.fits_first;
      fits_second = h.fits_second;
    }) c.parts_of.ensures.parts

pub returns-clause-failure : goal.returns-clause-failure
returns-clause-failure c =
    let r = c.args.request in
    let S = IsMember c.args.set in
    let sub = IsMember c.in_ok-chosen.chosen in
    IfErr-weaker c.parts_of.result (IsFormFailure r.form r.min_length sub) (IsAskedFailure r S)
    (failure_of_chosen r S sub c.in_ok-chosen.ensures) c.parts_of.ensures.failure
