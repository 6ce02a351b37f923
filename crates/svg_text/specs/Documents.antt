-- Documents: trees of elements and texts, and the text of each.
use Rattle.std.specs.Prelude.{ℕ, List, [], ◌∷◌, ◌++◌, flat_map, codes, decimal}
use Rattle.svg_text.specs.declared.name.ElementName.{ElementName}
use Rattle.svg_text.specs.declared.name.AttributeName.{AttributeName}
use Rattle.svg_text.specs.declared.tag.Attribute.{Attribute}
use Rattle.svg_text.specs.declared.tag.Value.{Value}
use Rattle.svg_text.specs.declared.tag.Value.TheVariants as Values
use Rattle.svg_text.specs.Escapes.{escaped}
use Rattle.svg_text.specs.Names.{element_text, attribute_text}

-- The attribute of an element: its name, and its value as a text that is not escaped yet.
pub record Mark : Type 0 where
  pub name : AttributeName
  pub value : List ℕ

-- The value of an attribute as a text.
-- Example: `8`, `translate(56 76)`, `scale(4)`, `0 0 1096 1130`.
abbrev pub value_text : Value → List ℕ
value_text (Values.Text text) = text.now
value_text (Values.Number n) = decimal n
value_text (Values.Translate x y) = codes "translate(" ++ decimal x ++ codes " " ++ decimal y ++ codes ")"
value_text (Values.Scale n) = codes "scale(" ++ decimal n ++ codes ")"
value_text (Values.ViewBox width height) = codes "0 0 " ++ decimal width ++ codes " " ++ decimal height

-- The attribute of a tag.
abbrev pub mark_of : Attribute → Mark
mark_of a = record { name = a.name; value = value_text a.value }

-- An attribute in a tag. The byte 34 is a quotation mark. Example: ` class="page"`.
abbrev pub mark_text : Mark → List ℕ
mark_text m = codes " " ++ attribute_text m.name ++ codes "=" ++ 34 ∷ escaped m.value ++ 34 ∷ []

-- The name and the attributes of a tag. Example: `rect class="page"`.
abbrev pub tag_text : ElementName → List Mark → List ℕ
tag_text name marks = element_text name ++ flat_map mark_text marks

-- The start of an element. Example: `<g class="small">`.
abbrev pub start_text : ElementName → List Mark → List ℕ
start_text name marks = codes "<" ++ tag_text name marks ++ codes ">"

-- The end of an element, and of its line. Example: `</g>`.
abbrev pub end_text : ElementName → List ℕ
end_text name = codes "</" ++ element_text name ++ codes ">" ++ 10 ∷ []

-- An element with nothing in it, and the end of its line. Example: `<rect class="page"/>`.
abbrev pub empty_text : ElementName → List Mark → List ℕ
empty_text name marks = codes "<" ++ tag_text name marks ++ codes "/>" ++ 10 ∷ []

-- The nodes in an element, one after the other: elements with nothing in them, elements with nodes, and texts.
pub data Nodes : Type 0 where
  end : Nodes
  words : (text : List ℕ) (next : Nodes) → Nodes
  empty : (name : ElementName) (marks : List Mark) (next : Nodes) → Nodes
  element : (name : ElementName) (marks : List Mark) (inside next : Nodes) → Nodes

-- The text of nodes.
-- Example: `<g><title>a&#38;b</title>`, a line feed, `</g>` and a line feed, for a group with the title `a&b`.
abbrev pub nodes_text : Nodes → List ℕ
nodes_text end = []
nodes_text (words text next) = escaped text ++ nodes_text next
nodes_text (empty name marks next) = empty_text name marks ++ nodes_text next
nodes_text (element name marks inside next) =
    start_text name marks ++ nodes_text inside ++ end_text name ++ nodes_text next

-- The nodes of the first, and then the nodes of the second.
abbrev pub joined : Nodes → Nodes → Nodes
joined end others = others
joined (words text next) others = words text (joined next others)
joined (empty name marks next) others = empty name marks (joined next others)
joined (element name marks inside next) others = element name marks inside (joined next others)
