use Rattle.netset_forms.proofs.PartLaws.{one_text}
use Rattle.netset_forms.proofs.parts.one_part.Goals as goal

pub returns : goal.returns
returns c = record {
  text_is = λ text h. one_text
      (record { frame = c.args.frame; item = c.args.item; min_length = c.args.min_length; set = c.args.set }) text h;
  fits_first = c.requires;
  fits_second = tt;
}
