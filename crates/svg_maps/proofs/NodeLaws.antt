-- Nodes, one after the other.
use Rattle.std.proofs.Common.{◌≡◌, ◌<◌, ◌+◌, List, ℕ, [], ◌∷◌, ◌++◌, flat_map, length, get_or, take, sym, ap, ◌∙◌, refl}
use Rattle.std.proofs.Common.{append_assoc}
use Rattle.std.proofs.lemmas.List.{flat_map_more, take_more}
use Rattle.svg_text.specs.Documents.{Nodes, end, words, empty, element, joined, nodes_text, start_text, end_text}
use Rattle.svg_text.specs.Documents.{empty_text}
use Rattle.svg_text.specs.Escapes.{escaped}
use Rattle.svg_maps.specs.Pages.{nodes_of, label_nodes, swatch_nodes, PageView, head_nodes, placed_nodes}
use Rattle.svg_maps.specs.Pages.{chart_nodes, content_nodes}
use Rattle.svg_maps.proofs.PageLaws.{head_then}

joined_text : (first second : Nodes) → nodes_text (joined first second) ≡ nodes_text first ++ nodes_text second
joined_text end second = refl
joined_text (words text next) second =
    ap (λ z. escaped text ++ z) (joined_text next second)
    ∙ sym (append_assoc (escaped text) (nodes_text next) (nodes_text second))
joined_text (empty name marks next) second =
    ap (λ z. empty_text name marks ++ z) (joined_text next second)
    ∙ sym (append_assoc (empty_text name marks) (nodes_text next) (nodes_text second))
joined_text (element name marks inside next) second =
    let front = start_text name marks ++ nodes_text inside ++ end_text name in
    ap (λ z. front ++ z) (joined_text next second) ∙ sym (append_assoc front (nodes_text next) (nodes_text second))

pub nodes_of_text : {X : Type 0} (f : X → Nodes) (xs : List X)
    → nodes_text (nodes_of f xs) ≡ flat_map (λ x. nodes_text (f x)) xs
nodes_of_text f [] = refl
nodes_of_text f (x ∷ xs) = joined_text (f x) (nodes_of f xs) ∙ ap (λ z. nodes_text (f x) ++ z) (nodes_of_text f xs)

-- the nodes of all members of a list, before the next nodes
pub each_then : {X : Type 0} (f : X → Nodes) (xs : List X) (next : Nodes)
    → nodes_text (joined (nodes_of f xs) next) ≡ flat_map (λ x. nodes_text (f x)) xs ++ nodes_text next
each_then f xs next = joined_text (nodes_of f xs) next ∙ ap (λ z. z ++ nodes_text next) (nodes_of_text f xs)

-- the nodes of the members so far, and of one more
pub one_more : {X : Type 0} (f : X → List ℕ) (xs : List X) (i : ℕ) (x : X) (old so_far new : List ℕ) → i < length xs
    → x ≡ get_or xs i x → so_far ≡ old ++ flat_map f (take i xs) → new ≡ so_far ++ f x
    → new ≡ old ++ flat_map f (take (i + 1) xs)
one_more f xs i x old so_far new l is before more =
    more ∙ ap (λ z. z ++ f x) before ∙ flat_map_more f old (take i xs) x
    ∙ ap (λ z. old ++ flat_map f (take i xs ++ z ∷ [])) is ∙ ap (λ z. old ++ flat_map f z) (sym (take_more xs i x l))

-- what is in a document, part by part
pub content_text : (v : PageView) → nodes_text (content_nodes v)
    ≡ nodes_text (head_nodes v.title v.summary v.style v.area end)
    ++ (flat_map (λ l. nodes_text (label_nodes l)) v.captions ++ (flat_map (λ l. nodes_text (label_nodes l)) v.heads
    ++ (flat_map (λ s. nodes_text (swatch_nodes s)) v.swatches
    ++ nodes_text (placed_nodes v.chart_place
    (chart_nodes v.layers v.squares v.outlines v.rings v.labels v.sides v.scale)))))
content_text v =
    let placed = placed_nodes v.chart_place
    (chart_nodes v.layers v.squares v.outlines v.rings v.labels v.sides v.scale) in
    let swatches = joined (nodes_of swatch_nodes v.swatches) placed in
    let heads = joined (nodes_of label_nodes v.heads) swatches in
    let front = nodes_text (head_nodes v.title v.summary v.style v.area end) in
    head_then v.title v.summary v.style v.area (joined (nodes_of label_nodes v.captions) heads)
    ∙ ap (λ z. front ++ z) (each_then label_nodes v.captions heads
    ∙ ap (λ z. flat_map (λ l. nodes_text (label_nodes l)) v.captions ++ z) (each_then label_nodes v.heads swatches
    ∙ ap (λ z. flat_map (λ l. nodes_text (label_nodes l)) v.heads ++ z) (each_then swatch_nodes v.swatches placed)))
