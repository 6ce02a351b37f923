-- The names of elements and attributes, and the values of attributes.
use Rattle.std.specs.Prelude.{ℕ, List, codes}
use Rattle.svg_text.specs.declared.name.ElementName.{ElementName}
use Rattle.svg_text.specs.declared.name.ElementName.TheVariants as Elements
use Rattle.svg_text.specs.declared.name.AttributeName.{AttributeName}
use Rattle.svg_text.specs.declared.name.AttributeName.TheVariants as Attributes

-- The name of an element.
abbrev pub element_text : ElementName → List ℕ
element_text Elements.Circle = codes "circle"
element_text Elements.Desc = codes "desc"
element_text Elements.Group = codes "g"
element_text Elements.Path = codes "path"
element_text Elements.Rect = codes "rect"
element_text Elements.Style = codes "style"
element_text Elements.Svg = codes "svg"
element_text Elements.Text = codes "text"
element_text Elements.Title = codes "title"

-- The name of an attribute.
abbrev pub attribute_text : AttributeName → List ℕ
attribute_text Attributes.Class = codes "class"
attribute_text Attributes.Cx = codes "cx"
attribute_text Attributes.Cy = codes "cy"
attribute_text Attributes.D = codes "d"
attribute_text Attributes.Height = codes "height"
attribute_text Attributes.Opacity = codes "opacity"
attribute_text Attributes.PointerEvents = codes "pointer-events"
attribute_text Attributes.R = codes "r"
attribute_text Attributes.Role = codes "role"
attribute_text Attributes.ShapeRendering = codes "shape-rendering"
attribute_text Attributes.TextAnchor = codes "text-anchor"
attribute_text Attributes.Transform = codes "transform"
attribute_text Attributes.ViewBox = codes "viewBox"
attribute_text Attributes.Width = codes "width"
attribute_text Attributes.X = codes "x"
attribute_text Attributes.Xmlns = codes "xmlns"
attribute_text Attributes.Y = codes "y"
