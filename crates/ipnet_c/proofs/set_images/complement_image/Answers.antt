-- The image is of the complement, which is made of the set of the given image.
use Rattle.std.proofs.lemmas.Result.{IfOk-weaker}
use Rattle.ipnet_sets.specs.Images.{IsImageOf}
use Rattle.ipnet_c.specs.SetReplies.{IsImageWith, IsComplementOfImage}
use Rattle.ipnet_c.proofs.set_images.complement_image.Goals as goal

pub returns : goal.returns
returns c =
    IfOk-weaker c.to_bytes.result (λ image. IsImageOf image.items c.in_ok-complement.field-0)
    (λ image. IsImageWith (IsComplementOfImage c.args.set.image.bytes.now) image.items)
    (λ image h. record {
      set = c.in_ok-complement.field-0;
      image_of = h;
      holds = record {
        first = c.in_ok-first.first;
        first_image = c.in_ok-first.ensures;
        made = c.in_ok-complement.ensures.members;
      };
    })
    c.to_bytes.ensures
