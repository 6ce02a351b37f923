-- Bars of lists: the network that a bar shows, and its text.
use Rattle.std.specs.Prelude.{ℕ, List, codes}
use Rattle.ipnet_base.specs.Address.{Address}
use Rattle.ipnet_base.specs.Network.{Network}
use Rattle.ipnet_bars.specs.declared.bar.BarForm.{BarForm}
use Rattle.ipnet_bars.specs.declared.frame.Frame.{Frame}
use Rattle.ipnet_bars.specs.declared.marks.RowWidth.{RowWidth}
use Rattle.ipnet_bars.specs.declared.marks.RowWidth.TheVariants.{Four, Eight, Sixteen, ThirtyTwo, SixtyFour}
use Rattle.ipnet_bars.specs.Bars.{IsBar}
use Rattle.ipnet_bars.specs.ComparisonBars.{IsComparisonBar}
use Rattle.ipnet_bars.specs.Frames.{IsFrame, HasNoFrame}
use Rattle.ipnet_sets.specs.declared.set.IpSet.{IpSet}
use Rattle.ipnet_sets.specs.Members.{IsMember, IsUnion}

-- The number of marks in a row, as a word of a command line.
abbrev pub width_text : RowWidth → List ℕ
width_text Four = codes "4"
width_text Eight = codes "8"
width_text Sixteen = codes "16"
width_text ThirtyTwo = codes "32"
width_text SixtyFour = codes "64"

-- The text is the bar of the set in its frame: a network, or the smallest around its addresses of one family.
-- Example: the bar of 10.0.0.0/28 for 10.0.0.0 to 10.0.0.9, without a named network.
pub record IsFramedBar (InSet : Address → Type 0) (frame : Frame) (form : BarForm) (text : List ℕ) : Type 0 where
  pub network : Network
  pub is_frame : IsFrame frame InSet network
  pub bar : IsBar InSet network form.row_width form.marks text

-- The text is the bar that compares the two sets, in the frame of all addresses that they have together.
-- Example: the bar of 10.0.0.0/28 for 10.0.0.0 to 10.0.0.3 and 10.0.0.8 to 10.0.0.9.
pub record IsFramedComparison (before after : IpSet) (frame : Frame) (form : BarForm) (text : List ℕ) : Type 0 where
  pub all : IpSet
  pub both : IsUnion all before after
  pub network : Network
  pub is_frame : IsFrame frame (IsMember all) network
  pub bar : IsComparisonBar (IsMember before) (IsMember after) network form.row_width form.marks text

-- The two sets together have no address around which to draw a frame.
abbrev pub HasNoCommonFrame : Frame → IpSet → IpSet → Type 0
HasNoCommonFrame frame before after = (all : IpSet) × IsUnion all before after × HasNoFrame frame (IsMember all)
