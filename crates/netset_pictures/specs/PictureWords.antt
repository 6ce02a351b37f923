-- The words that report why a picture cannot be drawn.
use Rattle.std.specs.Prelude.{ℕ, List, codes}
use Rattle.netset_pictures.specs.declared.bar.PictureFailure.{PictureFailure}
use Rattle.netset_pictures.specs.declared.bar.PictureFailure.TheVariants.{NoFrame, Memory}

-- The words for a failure.
abbrev pub picture_words : PictureFailure → List ℕ
picture_words NoFrame = codes "no address to draw: name a network with --in"
picture_words Memory = codes "out of memory"
