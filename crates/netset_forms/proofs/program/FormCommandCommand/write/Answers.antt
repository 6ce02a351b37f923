use Rattle.std.proofs.Common.{refl, inl, inr}
use Rattle.ipnet_sets.specs.Members.{IsMember}
use Rattle.netset_lib.specs.Combinations.{IsInCombined}
use Rattle.netset_lib.proofs.RunLaws.{whole_weaker, front_weaker}
use Rattle.netset_forms.proofs.FormLaws.{text_of_sets, enough_same}
use Rattle.netset_forms.proofs.program.FormCommandCommand.write.Goals as goal

pub returns-in-Ok-write_form-clause-whole : goal.returns-in-Ok-write_form-clause-whole
returns-in-Ok-write_form-clause-whole g c =
    whole_weaker (text_of_sets c.args.self.combination c.args.self.form c.in-Ok.set c.in-Ok.ensures.combined)
    (g.W.Write.contents c.args.out.now) (g.W.Write.contents c.write_form.new.out) c.in-Ok-write_form.ensures.whole

pub returns-in-Ok-write_form-clause-outcome : goal.returns-in-Ok-write_form-clause-outcome
returns-in-Ok-write_form-clause-outcome g c =
    enough_same c.args.self.needs_address c.args.self.form (IsMember c.in-Ok.set) (IsInCombined c.args.self.combination)
    c.in-Ok.ensures.combined.1 c.is_enough-succeeds.result c.is_enough-succeeds.ensures

pub returns-in-Err-write_form-clause-front : goal.returns-in-Err-write_form-clause-front
returns-in-Err-write_form-clause-front g c =
    elim c.in-Err-write_form.ensures.cut_short [
      | inl kept ↦ inl kept
      | inr cut ↦ inr (
        refl,
        front_weaker (text_of_sets c.args.self.combination c.args.self.form c.in-Ok.set c.in-Ok.ensures.combined)
            (g.W.Write.contents c.args.out.now) (g.W.Write.contents c.write_form.new.out) cut,
      )
    ]

pub returns-in-Err-write_form-clause-failure : goal.returns-in-Err-write_form-clause-failure
returns-in-Err-write_form-clause-failure g c =
    (c.in-Ok.set, c.in-Ok.ensures.combined, c.in-Err-write_form.ensures.failure)
