-- The image is of the set that the operation makes of the sets of the two images.
use Rattle.std.proofs.lemmas.Result.{IfOk-weaker}
use Rattle.ipnet_sets.specs.Images.{IsImageOf}
use Rattle.ipnet_c.specs.SetReplies.{IsImageWith, IsMadeOfImages}
use Rattle.ipnet_c.proofs.set_images.combined_image.Goals as goal

pub returns : goal.returns
returns c =
    IfOk-weaker c.to_bytes.result (λ image. IsImageOf image.items c.in_ok-combine.field-0)
    (λ image. IsImageWith (IsMadeOfImages c.args.operation c.args.set.image.bytes.now c.args.other.image.bytes.now)
    image.items)
    (λ image h. record {
      set = c.in_ok-combine.field-0;
      image_of = h;
      holds = record {
        first = c.in_ok-first.first;
        second = c.in_ok-second.second;
        first_image = c.in_ok-first.ensures;
        second_image = c.in_ok-second.ensures;
        made = c.in_ok-combine.ensures.members;
      };
    })
    c.to_bytes.ensures
