-- The text of nodes is in the grammar, and is printable.
use Rattle.std.proofs.Common.{◌≡◌, ℕ, true, ◌&&◌, List, [], ◌∷◌, ◌++◌, map, flat_map, codes}
use Rattle.std.proofs.Common.{refl, sym, ap, ◌∙◌, subst, arith, append_assoc}
use Rattle.std.specs.List.{AllByRecursion}
use Rattle.std.proofs.lemmas.Bool.{and_parts}
use Rattle.svg_text.specs.declared.name.ElementName.{ElementName}
use Rattle.svg_text.specs.declared.name.AttributeName.{AttributeName}
use Rattle.svg_text.specs.Documents.{Mark, mark_text, start_text, end_text, empty_text}
use Rattle.svg_text.specs.Documents.{Nodes, end, words, empty, element, nodes_text}
use Rattle.svg_text.specs.Escapes.{IsSafeText, escaped}
use Rattle.svg_text.specs.Names.{element_text}
use Rattle.svg_text.specs.Grammar.{are_distinct, attribute_in_tag, AreAttributes, IsContent, nothing, characters}
use Rattle.svg_text.specs.Grammar.{empty_element, whole_element, are_well_formed}
use Rattle.svg_text.proofs.PieceLaws.{escaped_safe}

abbrev pairs_of : List Mark → List (AttributeName × List ℕ)
pairs_of marks = map (λ m. (m.name, escaped m.value)) marks

pairs_names : (marks : List Mark) → map (λ a. a.0) (pairs_of marks) ≡ map (λ m. m.name) marks
pairs_names [] = refl
pairs_names (m ∷ marks) = ap (λ z. m.name ∷ z) (pairs_names marks)

pairs_safe : (marks : List Mark) → AllByRecursion (λ a. IsSafeText a.1) (pairs_of marks)
pairs_safe [] = tt
pairs_safe (m ∷ marks) = (escaped_safe m.value, pairs_safe marks)

pairs_text : (marks : List Mark) → flat_map mark_text marks ≡ flat_map attribute_in_tag (pairs_of marks)
pairs_text [] = refl
pairs_text (m ∷ marks) = ap (λ z. mark_text m ++ z) (pairs_text marks)

attributes_are : (marks : List Mark) → are_distinct (map (λ m. m.name) marks) ≡ true
    → AreAttributes (flat_map mark_text marks)
attributes_are marks e = record {
  attributes = pairs_of marks;
  distinct = ap are_distinct (pairs_names marks) ∙ e;
  safe = pairs_safe marks;
  joined = pairs_text marks;
}

empty_spread : (name : ElementName) (marks : List Mark) (rest : List ℕ) → empty_text name marks ++ rest
    ≡ codes "<" ++ element_text name ++ flat_map mark_text marks ++ codes "/>" ++ 10 ∷ rest
empty_spread name marks rest = grind (arith, append_assoc)

whole_spread : (name : ElementName) (marks : List Mark) (inside rest : List ℕ)
    → start_text name marks ++ inside ++ end_text name ++ rest
    ≡ codes "<" ++ element_text name ++ flat_map mark_text marks ++ codes ">" ++ inside
    ++ codes "</" ++ element_text name ++ codes ">" ++ 10 ∷ rest
whole_spread name marks inside rest = grind (arith, append_assoc)

-- The text of nodes is in the grammar.
pub nodes_content : (nodes : Nodes) → are_well_formed nodes ≡ true → IsContent (nodes_text nodes)
nodes_content end e = nothing
nodes_content (words text next) e =
    characters (escaped text) (nodes_text next) (escaped_safe text) (nodes_content next e)
nodes_content (empty name marks next) e =
    let h = and_parts (are_distinct (map (λ m. m.name) marks)) (are_well_formed next) e in
    subst IsContent (sym (empty_spread name marks (nodes_text next)))
    (empty_element name (flat_map mark_text marks) (nodes_text next) (attributes_are marks h.0)
    (nodes_content next h.1))
nodes_content (element name marks inside next) e =
    let outer = and_parts (are_distinct (map (λ m. m.name) marks) && are_well_formed inside) (are_well_formed next) e in
    let h = and_parts (are_distinct (map (λ m. m.name) marks)) (are_well_formed inside) outer.0 in
    subst IsContent (sym (whole_spread name marks (nodes_text inside) (nodes_text next)))
    (whole_element name (flat_map mark_text marks) (nodes_text inside) (nodes_text next) (attributes_are marks h.0)
    (nodes_content inside h.1) (nodes_content next outer.1))
