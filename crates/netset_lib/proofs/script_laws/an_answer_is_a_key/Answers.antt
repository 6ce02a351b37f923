use Rattle.ipnet.specs.declared.parser.Grammar.TheVariants.{Strict}
use Rattle.ipnet_sets.specs.Members.{IsMember}
use Rattle.netset_lib.proofs.ScriptLaws.{one_text, one_set}
use Rattle.netset_lib.proofs.script_laws.an_answer_is_a_key.Goals as goal

pub returns : goal.returns
returns c = λ h k.
    let form = c.args.form in
    let A = IsMember c.args.a.now in
    let B = IsMember c.args.b.now in (
      λ same. one_set Strict form form A B c.args.first.now c.args.second.now (λ x m. m.fits) (λ x m. m.fits) h k same,
      λ same. one_text form A B c.args.first.now c.args.second.now same h k,
    )
