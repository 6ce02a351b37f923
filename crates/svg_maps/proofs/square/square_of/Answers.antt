use Rattle.svg_maps.proofs.square.square_of.Goals as goal

pub returns : goal.returns
returns c = record {
  area = c.rectangle_in-rectangle.ensures.rectangle;
  title = c.in_ok-title.ensures;
}
