-- Lines of tables with texts, their routes, and the table of these.
use Rattle.std.proofs.Common.{◌≡◌, ◌≢◌, ◌⊎◌, ℕ, ◌<◌, List, [], ◌∷◌, ◌++◌, Contains}
use Rattle.std.proofs.Common.{length, map, get_or, zero, suc, refl, sym, ap, ◌∙◌, subst, inl, inr, arith}
use Rattle.std.proofs.Common.{append_assoc}
use Rattle.std.proofs.lemmas.List.{map-append}
use Rattle.std.proofs.lemmas.List.Elements.{Contains-append_left, Contains-append_right, Contains-append_cases}
use Rattle.std.specs.Borrow.{Bor}
use Rattle.ipnet_base.specs.Network.{Network, truncation}
use Rattle.ipnet_base.specs.Blocks.{IsMaximal, AreMaximalBlocks}
use Rattle.ipnet_base.specs.Ranges.{AddressRange}
use Rattle.ipnet_base.proofs.ListLaws.{contains_nil, contains_here, contains_there}
use Rattle.ipnet_base.proofs.NetworkLaws.{truncation_of_truncated}
use Rattle.ipnet_rules.proofs.VerdictLaws.{any_nil}
use Rattle.ipnet.specs.NetworkOf.{ip_network}
use Rattle.ipnet.specs.declared.net.IpNet.{IpNet}
use Rattle.ipnet_routes.specs.Routes.{Route, networks_of, ip_routes, without_host_bits, IsLatest, IsTableOf}
use Rattle.ipnet_routes.specs.RoutesOf.{routes_of}
use Rattle.ipnet_sets.specs.SetRanges.{IsInRange}
use Rattle.ipnet_routes.specs.declared.routes.RouteTable.{RouteTable}
use Rattle.ipnet_sets.proofs.JoinLaws.{any_push}
use Rattle.netset_lib.specs.TextTables.{TextLine, IsTextOf, IsTableOfLines}
use Rattle.netset_lib.specs.TextSteps.{IsLastOf, AddsBlocks, AreRoutesOf, texts_in}
use Rattle.netset_lib.proofs.TableLaws.{network_of_route, some_route, latest_of}

-- ---- the texts of networks, line by line

text_of_last : (lines : List TextLine) (l : TextLine) (n : Network) → IsMaximal (IsInRange l.range) 0 n
    → IsTextOf (lines ++ l ∷ []) n l.text
text_of_last [] l n h = inr (h, any_nil (λ z. IsMaximal (IsInRange z.range) 0 n), refl)
text_of_last (k ∷ lines) l n h = inl (text_of_last lines l n h)

text_of_others : (lines : List TextLine) (l : TextLine) (n : Network) (text : List ℕ)
    → ¬ (IsMaximal (IsInRange l.range) 0 n) → IsTextOf lines n text → IsTextOf (lines ++ l ∷ []) n text
text_of_others [] l n text not h = absurd h
text_of_others (k ∷ lines) l n text not (inl h) = inl (text_of_others lines l n text not h)
text_of_others (k ∷ lines) l n text not (inr (is, none, same)) = inr (
  is,
  λ any. elim ((any_push (λ z. IsMaximal (IsInRange z.range) 0 n) lines l).0 any) [
    | inl before ↦ none before
    | inr here ↦ not here
  ],
  same,
)

-- ---- routes, and then blocks with one text

block_networks : {V : Type 0} (blocks : List Network) (value : V) → networks_of (map (λ n. (n, value)) blocks) ≡ blocks
block_networks [] value = refl
block_networks (n ∷ blocks) value = ap (λ z. n ∷ z) (block_networks blocks value)

-- a last route among the blocks
last_of_blocks : {V : Type 0} (blocks : List Network) (value : V) (n : Network) (w : V)
    → IsLastOf (map (λ n. (n, value)) blocks) n w → Contains blocks n × (w ≡ value)
last_of_blocks [] value n w h = absurd h
last_of_blocks (k ∷ blocks) value n w (inl h) =
    let rest = last_of_blocks blocks value n w h in (contains_there k blocks n rest.0, rest.1)
last_of_blocks (k ∷ blocks) value n w (inr (none, is)) = (
  subst (Contains (k ∷ blocks)) (ap (λ z. z.0) is) (contains_here k blocks),
  sym (ap (λ z. z.1) is),
)

-- a last route of the routes and then the blocks
last_with_blocks : {V : Type 0} (routes : List (Route V)) (blocks : List Network) (value : V) (n : Network) (w : V)
    → IsLastOf (routes ++ map (λ n. (n, value)) blocks) n w
    → (Contains blocks n × (w ≡ value)) ⊎ ((¬ (Contains blocks n)) × IsLastOf routes n w)
last_with_blocks [] blocks value n w h = inl (last_of_blocks blocks value n w h)
last_with_blocks (r ∷ routes) blocks value n w (inl h) = elim (last_with_blocks routes blocks value n w h) [
  | inl here ↦ inl here
  | inr before ↦ inr (before.0, inl before.1)
]
last_with_blocks (r ∷ routes) blocks value n w (inr (none, is)) =
    let all : networks_of (routes ++ map (λ n. (n, value)) blocks) ≡ networks_of routes ++ blocks =
    map-append (λ z. z.0) routes (map (λ n. (n, value)) blocks)
    ∙ ap (λ z. networks_of routes ++ z) (block_networks blocks value) in
    inr (
      λ c. none (subst (λ z. Contains z n) (sym all) (Contains-append_right (networks_of routes) blocks n c)),
      inr (
        λ c. none (subst (λ z. Contains z n) (sym all) (Contains-append_left (networks_of routes) blocks n c)),
        is,
      ),
    )

-- ---- the routes of the lines

pub no_routes_yet : AreRoutesOf [] []
no_routes_yet = record {
  networks = λ n. (λ h. absurd (contains_nil n h), λ h. absurd (any_nil _ h));
  texts = λ n text h. absurd h;
}

-- one block more is put
pub put_more : {V : Type 0} (whole old new : List (Route V)) (n : Network) (left : List Network) (value : V)
    → old ++ map (λ k. (k, value)) (n ∷ left) ≡ whole → new ≡ old ++ (n, value) ∷ []
    → new ++ map (λ k. (k, value)) left ≡ whole
put_more whole old new n left value h is =
    ap (λ z. z ++ map (λ k. (k, value)) left) is ∙ append_assoc old ((n, value) ∷ []) (map (λ k. (k, value)) left) ∙ h

-- blocks without host bits are themselves
cut_blocks : {V : Type 0} (blocks : List Network) (value : V)
    → ((n : Network) → Contains blocks n → truncation n ≡ n)
    → without_host_bits (map (λ n. (n, value)) blocks) ≡ map (λ n. (n, value)) blocks
cut_blocks [] value own = refl
cut_blocks (k ∷ blocks) value own =
    ap (λ z. (z, value) ∷ without_host_bits (map (λ n. (n, value)) blocks)) (own k (contains_here k blocks))
    ∙ ap (λ z. (k, value) ∷ z) (cut_blocks blocks value (λ n c. own n (contains_there k blocks n c)))

more_lines : (lines : List TextLine) (range : AddressRange) (text : List ℕ) (old new : List (Route (List ℕ)))
    (blocks : List Network) → AreMaximalBlocks (IsInRange range) 0 blocks → AreRoutesOf lines old
    → new ≡ old ++ map (λ n. (n, text)) blocks
    → AreRoutesOf (lines ++ record { range = range; text = text } ∷ []) new
more_lines lines range text old new blocks maximal h is = record {
  networks = λ n.
      let push = any_push (λ z. IsMaximal (IsInRange z.range) 0 n) lines l in (
        λ c. elim (Contains-append_cases (networks_of old) blocks n (subst (λ z. Contains z n) all c)) [
          | inl before ↦ push.1 (inl ((h.networks n).0 before))
          | inr here ↦ push.1 (inr ((maximal.members n).0 here))
        ],
        λ any. subst (λ z. Contains z n) (sym all) (elim (push.0 any) [
          | inl before ↦ Contains-append_left (networks_of old) blocks n ((h.networks n).1 before)
          | inr here ↦ Contains-append_right (networks_of old) blocks n ((maximal.members n).1 here)
        ]),
      );
  texts = λ n w last. elim (last_with_blocks old blocks text n w (subst (λ z. IsLastOf z n w) is last)) [
    | inl here ↦ subst (λ z. IsTextOf (lines ++ l ∷ []) n z) (sym here.1)
        (text_of_last lines l n ((maximal.members n).0 here.0))
    | inr before ↦ text_of_others lines l n w (λ m. before.0 ((maximal.members n).1 m))
        (h.texts n w before.1)
  ];
}
  where
    l : TextLine
    l = record { range = range; text = text }

    all : networks_of new ≡ networks_of old ++ blocks
    all = ap networks_of is ∙ map-append (λ z. z.0) old (map (λ n. (n, text)) blocks)
        ∙ ap (λ z. networks_of old ++ z) (block_networks blocks text)

-- a line more
pub routes_more : (lines : List TextLine) (range : AddressRange) (text : List ℕ) (old new : List (Route (List ℕ)))
    → AddsBlocks old range text new → AreRoutesOf lines (without_host_bits old)
    → AreRoutesOf (lines ++ record { range = range; text = text } ∷ []) (without_host_bits new)
routes_more lines range text old new (blocks, maximal, is) h =
    more_lines lines range text (without_host_bits old) (without_host_bits new) blocks maximal h
    (ap without_host_bits is ∙ map-append (λ r. (truncation r.0, r.1)) old (map (λ n. (n, text)) blocks)
    ∙ ap (λ z. without_host_bits old ++ z) (cut_blocks blocks text
    (λ n c. truncation_of_truncated n ((maximal.members n).0 c).inside.truncated)))

-- ---- the table

-- the latest route of a network is the last one
last_at : {V : Type 0} (routes : List (Route V)) (n : Network) (v : V) (place : ℕ) → place < length routes
    → get_or routes place (n, v) ≡ (n, v)
    → ((later : ℕ) (d : Route V) → place < later → later < length routes → (get_or routes later d).0 ≢ n)
    → IsLastOf routes n v
last_at [] n v place within is last = absurd (omega (arith, within))
last_at (r ∷ routes) n v zero within is last =
    inr (
      λ c.
          let later = some_route routes n c in
          let (k, less, at) = later.1 in
          last (suc k) (n, later.0) (omega arith) (omega (arith, less)) (ap (λ z. z.0) at),
      is,
    )
last_at (r ∷ routes) n v (suc place) within is last =
    inl (last_at routes n v place (omega (arith, within)) is
    (λ later d after less. last (suc later) d (omega (arith, after)) (omega (arith, less))))

latest_is_last : {V : Type 0} (routes : List (Route V)) (n : Network) (v : V) → IsLatest routes (n, v)
    → IsLastOf routes n v
latest_is_last routes n v h = last_at routes n v h.place h.within h.is h.last

-- the same, with texts in place of references
text_networks : (given : List (IpNet × Bor (List ℕ)))
    → networks_of (without_host_bits (ip_routes given)) ≡ networks_of (without_host_bits (texts_in given))
text_networks [] = refl
text_networks (r ∷ given) = ap (λ z. truncation (ip_network r.0) ∷ z) (text_networks given)

last_text : (given : List (IpNet × Bor (List ℕ))) (n : Network) (v : Bor (List ℕ))
    → IsLastOf (without_host_bits (ip_routes given)) n v → IsLastOf (without_host_bits (texts_in given)) n v.now
last_text [] n v h = absurd h
last_text (r ∷ given) n v (inl h) = inl (last_text given n v h)
last_text (r ∷ given) n v (inr (none, is)) =
    inr (λ c. none (subst (λ z. Contains z n) (sym (text_networks given)) c), ap (λ z. (z.0, z.1.now)) is)

-- the table of the routes of the lines has their networks and texts
pub table_of_lines : (lines : List TextLine) (given : List (IpNet × Bor (List ℕ))) (table : RouteTable (Bor (List ℕ)))
    → IsTableOf (ip_routes given) (routes_of table) → AreRoutesOf lines (without_host_bits (texts_in given))
    → IsTableOfLines lines table
table_of_lines lines given table h are =
    let cut : List (Route (Bor (List ℕ))) = without_host_bits (ip_routes given) in
    let same = text_networks given in record {
      networks = λ n. (
        λ c.
            let (v, there) = some_route (routes_of table) n c in
            let latest = (h.members (n, v)).0 there in
            (are.networks n).0 (subst (λ z. Contains z n) same
            (network_of_route cut (n, v) (latest.place, latest.within, latest.is))),
        λ one.
            let (v, latest) = latest_of cut n (subst (λ z. Contains z n) (sym same) ((are.networks n).1 one)) in
            network_of_route (routes_of table) (n, v) ((h.members (n, v)).1 latest),
      );
      texts = λ n text c.
          are.texts n text.now (last_text given n text (latest_is_last cut n text ((h.members (n, text)).0 c)));
    }
