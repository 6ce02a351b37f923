-- The grammar of documents: a small part of XML 1.0 (sections 2.4, 3 and 3.1).
use Rattle.std.specs.Prelude.{◌≡◌, ◌||◌, ◌&&◌, not, ℕ, Bool, true, nat_eq, List, [], ◌∷◌, ◌++◌, map, flat_map, codes}
use Rattle.std.specs.Prelude.{bytes_eq}
use Rattle.std.specs.List.{AllByRecursion, list_all}
use Rattle.svg_text.specs.declared.name.ElementName.{ElementName}
use Rattle.svg_text.specs.declared.name.AttributeName.{AttributeName}
use Rattle.svg_text.specs.Documents.{Nodes, end, words, empty, element}
use Rattle.svg_text.specs.Escapes.{IsSafeText, is_from_to}
use Rattle.svg_text.specs.Names.{element_text, attribute_text}

-- No two of the attributes have the same name.
abbrev pub are_distinct : List AttributeName → Bool
are_distinct [] = true
are_distinct (name ∷ names) =
    list_all (λ other. not (bytes_eq (attribute_text name) (attribute_text other))) names && are_distinct names

-- An attribute in a tag: a blank, its name, and its value between quotation marks, which are the byte 34.
abbrev pub attribute_in_tag : AttributeName × List ℕ → List ℕ
attribute_in_tag a = codes " " ++ attribute_text a.0 ++ codes "=" ++ 34 ∷ a.1 ++ 34 ∷ []

-- The text is the attributes of a tag, each with a name of its own and a safe value.
pub record AreAttributes (text : List ℕ) : Type 0 where
  pub attributes : List (AttributeName × List ℕ)
  pub distinct : are_distinct (map (λ a. a.0) attributes) ≡ true
  pub safe : AllByRecursion (λ a. IsSafeText a.1) attributes
  pub joined : text ≡ flat_map attribute_in_tag attributes

-- The text is the content of an element: safe texts and elements, each of which is closed. A line feed, the byte 10,
-- follows the end of an element.
pub data IsContent : List ℕ → Type 0 where
  nothing : IsContent []
  characters : (text rest : List ℕ) → IsSafeText text → IsContent rest → IsContent (text ++ rest)
  empty_element : (name : ElementName) (attributes rest : List ℕ) → AreAttributes attributes → IsContent rest
      → IsContent (codes "<" ++ element_text name ++ attributes ++ codes "/>" ++ 10 ∷ rest)
  whole_element : (name : ElementName) (attributes inside rest : List ℕ) → AreAttributes attributes → IsContent inside
      → IsContent rest
      → IsContent (codes "<" ++ element_text name ++ attributes ++ codes ">" ++ inside
      ++ codes "</" ++ element_text name ++ codes ">" ++ 10 ∷ rest)

-- In each tag of the nodes, no two attributes have the same name.
abbrev pub are_well_formed : Nodes → Bool
are_well_formed end = true
are_well_formed (words text next) = are_well_formed next
are_well_formed (empty name marks next) = are_distinct (map (λ m. m.name) marks) && are_well_formed next
are_well_formed (element name marks inside next) =
    are_distinct (map (λ m. m.name) marks) && are_well_formed inside && are_well_formed next

-- The bytes are printable ASCII or line feeds.
abbrev pub are_printable : List ℕ → Bool
are_printable bytes = list_all (λ b. is_from_to 32 126 b || nat_eq b 10) bytes
