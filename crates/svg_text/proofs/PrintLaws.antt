-- The text of nodes is printable.
use Rattle.std.proofs.Common.{◌≡◌, ◌<◌, ◌+◌, ◌^◌, ◌||◌, ◌%◌, ℕ, Bool, true, List, [], ◌∷◌, ◌++◌, flat_map, codes}
use Rattle.std.proofs.Common.{decimal, refl, ap, ◌∙◌, arith, eqb}
use Rattle.std.specs.List.{AllByRecursion}
use Rattle.std.proofs.lemmas.Bool.{and_from}
use Rattle.std.proofs.lemmas.Bool.Decides.{nat_tests}
use Rattle.std.proofs.lemmas.Fmt.{decimal_by_steps}
use Rattle.std.proofs.lemmas.List.Folds.{list_all-append}
use Rattle.svg_text.specs.declared.name.ElementName.{ElementName}
use Rattle.svg_text.specs.declared.name.ElementName.TheVariants as Elements
use Rattle.svg_text.specs.declared.name.AttributeName.{AttributeName}
use Rattle.svg_text.specs.declared.name.AttributeName.TheVariants as Attributes
use Rattle.svg_text.specs.Documents.{Mark, mark_text, tag_text, start_text, end_text, empty_text}
use Rattle.svg_text.specs.Documents.{Nodes, end, words, empty, element, nodes_text}
use Rattle.svg_text.specs.Escapes.{is_from_to, is_xml_character, escaped}
use Rattle.svg_text.specs.Escapes.{Item, character, number, item_text, IsSafeItem, IsSafeText}
use Rattle.svg_text.specs.Names.{element_text, attribute_text}
use Rattle.svg_text.specs.Grammar.{are_printable}
use Rattle.svg_text.proofs.PieceLaws.{escaped_safe}

abbrev is_shown : ℕ → Bool
is_shown b = is_from_to 32 126 b || eqb b 10

both : (xs ys : List ℕ) → are_printable xs ≡ true → are_printable ys ≡ true → are_printable (xs ++ ys) ≡ true
both xs ys e f = list_all-append is_shown xs ys ∙ and_from (are_printable xs) (are_printable ys) e f

element_shown : (name : ElementName) → are_printable (element_text name) ≡ true
element_shown Elements.Circle = refl
element_shown Elements.Desc = refl
element_shown Elements.Group = refl
element_shown Elements.Path = refl
element_shown Elements.Rect = refl
element_shown Elements.Style = refl
element_shown Elements.Svg = refl
element_shown Elements.Text = refl
element_shown Elements.Title = refl

attribute_shown : (name : AttributeName) → are_printable (attribute_text name) ≡ true
attribute_shown Attributes.Class = refl
attribute_shown Attributes.Cx = refl
attribute_shown Attributes.Cy = refl
attribute_shown Attributes.D = refl
attribute_shown Attributes.Height = refl
attribute_shown Attributes.Opacity = refl
attribute_shown Attributes.PointerEvents = refl
attribute_shown Attributes.R = refl
attribute_shown Attributes.Role = refl
attribute_shown Attributes.ShapeRendering = refl
attribute_shown Attributes.TextAnchor = refl
attribute_shown Attributes.Transform = refl
attribute_shown Attributes.ViewBox = refl
attribute_shown Attributes.Width = refl
attribute_shown Attributes.X = refl
attribute_shown Attributes.Xmlns = refl
attribute_shown Attributes.Y = refl

digit_shown : (n : ℕ) → n < 10 → is_shown (48 + n) ≡ true
digit_shown n l = grind (arith, nat_tests)

decimal_shown : (n : ℕ) → n < 2 ^ 64 → are_printable (decimal n) ≡ true
decimal_shown = decimal_by_steps (λ n ds. are_printable ds ≡ true)
    (λ n l. and_from (is_shown (48 + n)) true (digit_shown n l) refl)
    (λ n ds l h. both ds ((48 + n % 10) ∷ []) h
    (and_from (is_shown (48 + n % 10)) true (digit_shown (n % 10) (omega arith)) refl))

small : (n : ℕ) → is_xml_character n ≡ true → n < 2 ^ 64
small n e = grind (arith, nat_tests)

item_shown : (item : Item) → IsSafeItem item → are_printable (item_text item) ≡ true
item_shown (character c) h = grind (arith, nat_tests, h.0, h.1)
item_shown (number n) e =
    both (codes "&#" ++ decimal n) (codes ";") (both (codes "&#") (decimal n) refl (decimal_shown n (small n e))) refl

items_shown : (items : List Item) → AllByRecursion IsSafeItem items → are_printable (flat_map item_text items) ≡ true
items_shown [] all = refl
items_shown (item ∷ items) all =
    both (item_text item) (flat_map item_text items) (item_shown item all.0) (items_shown items all.1)

safe_shown : (text : List ℕ) → IsSafeText text → are_printable text ≡ true
safe_shown text safe = ap are_printable safe.joined ∙ items_shown safe.items safe.safe

escaped_shown : (text : List ℕ) → are_printable (escaped text) ≡ true
escaped_shown text = safe_shown (escaped text) (escaped_safe text)

mark_shown : (m : Mark) → are_printable (mark_text m) ≡ true
mark_shown m =
    let name = attribute_text m.name in
    let first = both (codes " ") name refl (attribute_shown m.name) in
    let second = both (codes " " ++ name) (codes "=") first refl in
    let third = both (codes " " ++ name ++ codes "=") (34 ∷ escaped m.value) second (escaped_shown m.value) in
    both (codes " " ++ name ++ codes "=" ++ 34 ∷ escaped m.value) (34 ∷ []) third refl

marks_shown : (marks : List Mark) → are_printable (flat_map mark_text marks) ≡ true
marks_shown [] = refl
marks_shown (m ∷ marks) = both (mark_text m) (flat_map mark_text marks) (mark_shown m) (marks_shown marks)

tag_shown : (name : ElementName) (marks : List Mark) → are_printable (codes "<" ++ tag_text name marks) ≡ true
tag_shown name marks =
    both (codes "<") (tag_text name marks) refl
    (both (element_text name) (flat_map mark_text marks) (element_shown name) (marks_shown marks))

start_shown : (name : ElementName) (marks : List Mark) → are_printable (start_text name marks) ≡ true
start_shown name marks = both (codes "<" ++ tag_text name marks) (codes ">") (tag_shown name marks) refl

empty_shown : (name : ElementName) (marks : List Mark) → are_printable (empty_text name marks) ≡ true
empty_shown name marks =
    both (codes "<" ++ tag_text name marks ++ codes "/>") (10 ∷ [])
    (both (codes "<" ++ tag_text name marks) (codes "/>") (tag_shown name marks) refl) refl

end_shown : (name : ElementName) → are_printable (end_text name) ≡ true
end_shown name =
    both (codes "</" ++ element_text name ++ codes ">") (10 ∷ [])
    (both (codes "</" ++ element_text name) (codes ">")
    (both (codes "</") (element_text name) refl (element_shown name))
    refl) refl

-- The text of nodes is printable ASCII and line feeds.
pub nodes_printable : (nodes : Nodes) → are_printable (nodes_text nodes) ≡ true
nodes_printable end = refl
nodes_printable (words text next) = both (escaped text) (nodes_text next) (escaped_shown text) (nodes_printable next)
nodes_printable (empty name marks next) =
    both (empty_text name marks) (nodes_text next) (empty_shown name marks) (nodes_printable next)
nodes_printable (element name marks inside next) =
    let first = both (start_text name marks) (nodes_text inside) (start_shown name marks) (nodes_printable inside) in
    let second = both (start_text name marks ++ nodes_text inside) (end_text name) first (end_shown name) in
    both (start_text name marks ++ nodes_text inside ++ end_text name) (nodes_text next) second (nodes_printable next)
