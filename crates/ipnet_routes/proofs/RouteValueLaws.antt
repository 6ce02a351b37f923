-- Equality and clones of lists of routes.
use Rattle.std.proofs.Common.{◌≡◌, zero, suc, ◌<◌, ◌↔◌, Bool, true, false, ◌&&◌, List, [], ◌∷◌, ◌++◌, length}
use Rattle.std.proofs.Common.{vec_len, IsTrue, refl, ap, ap₂, arith}
use Rattle.std.specs.Bool.{one_answer}
use Rattle.std.specs.Cmp.Lexicographic.{pointwise}
use Rattle.std.specs.List.{AllZip}
use Rattle.std.proofs.lemmas.Bool.{eqb-true, eq-eqb}
use Rattle.std.proofs.lemmas.Slice.Zip.{AllZip-long}
use Rattle.ipnet_base.specs.Address.{family_index}
use Rattle.ipnet_base.specs.Network.{Network}
use Rattle.ipnet_base.proofs.FamilyLaws.{same_family_from_index}
use Rattle.ipnet_base.proofs.NetworkLaws.{same_network}
use Rattle.ipnet.specs.declared.net.IpNet.{IpNet}
use Rattle.ipnet.specs.NetworkOf.{ip_network}
use Rattle.ipnet_routes.specs.Routes.{Route, ip_routes, ip_networks}
use Rattle.ipnet_routes.specs.RouteValues.{AreClones, AreEqual, is_same_network, are_equal}
use Rattle.ipnet_routes.specs.RouteMapSteps.{Chunk, all_of, AreFilled}

both : (a b : Bool) → (a && b) ≡ true → (a ≡ true) × (b ≡ true)
both true b e = (refl, e)
both false b e = let wrong : false ≡ true = e in absurd (cc)

-- the test of two networks
tested : (n k : Network) → is_same_network n k ≡ true → n ≡ k
tested n k e =
    let family = both _ _ e in
    let numbers = both _ _ family.1 in
    same_network n k
    (same_family_from_index n.family k.family (eqb-true (family_index n.family) (family_index k.family) family.0))
    (eqb-true n.number k.number numbers.0) (eqb-true n.prefix_len k.prefix_len numbers.1)

test_of : (n k : Network) → n ≡ k → is_same_network n k ≡ true
test_of n k e =
    ap₂ ◌&&◌ (eq-eqb (family_index n.family) (family_index k.family) (ap (λ m. family_index m.family) e))
    (ap₂ ◌&&◌ (eq-eqb n.number k.number (ap (λ m. m.number) e))
    (eq-eqb n.prefix_len k.prefix_len (ap (λ m. m.prefix_len) e)))

-- `==` of two routes is the test of the routes that they are
pub same_route : {V : Type 0} (same : IpNet → IpNet → Bool) (eq : V → V → Bool)
    → ((a b : IpNet) → IsTrue (same a b) ↔ (ip_network a ≡ ip_network b)) → (x y : IpNet × V)
    → (same x.0 y.0 && eq x.1 y.1) ≡ (is_same_network (ip_network x.0) (ip_network y.0) && eq x.1 y.1)
same_route same eq decides x y =
    ap (λ b. b && eq x.1 y.1)
    (one_answer (same x.0 y.0) (is_same_network (ip_network x.0) (ip_network y.0)) (decides x.0 y.0)
    (tested (ip_network x.0) (ip_network y.0), test_of (ip_network x.0) (ip_network y.0)))

pub same_routes : {V : Type 0} (same : IpNet → IpNet → Bool) (eq : V → V → Bool)
    → ((a b : IpNet) → IsTrue (same a b) ↔ (ip_network a ≡ ip_network b)) → (xs ys : List (IpNet × V))
    → pointwise (λ x y. same x.0 y.0 && eq x.1 y.1) xs ys ≡ are_equal eq (ip_routes xs) (ip_routes ys)
same_routes same eq decides [] [] = refl
same_routes same eq decides [] (y ∷ ys) = refl
same_routes same eq decides (x ∷ xs) [] = refl
same_routes same eq decides (x ∷ xs) (y ∷ ys) =
    ap₂ ◌&&◌ (same_route same eq decides x y) (same_routes same eq decides xs ys)

-- the test of two lists
pub equal_routes : {V : Type 0} (eq : V → V → Bool) (rs ss : List (Route V))
    → IsTrue (are_equal eq rs ss) ↔ AreEqual eq rs ss
equal_routes {V} eq rs ss = (there rs ss, back rs ss)
  where
    there : (rs ss : List (Route V)) → are_equal eq rs ss ≡ true → AreEqual eq rs ss
    there [] [] e = tt
    there [] (s ∷ ss) e = let wrong : false ≡ true = e in absurd (cc)
    there (r ∷ rs) [] e = let wrong : false ≡ true = e in absurd (cc)
    there (r ∷ rs) (s ∷ ss) e =
        let all = both _ _ e in
        let first = both _ _ all.0 in
        ((tested r.0 s.0 first.0, first.1), there rs ss all.1)

    back : (rs ss : List (Route V)) → AreEqual eq rs ss → are_equal eq rs ss ≡ true
    back [] [] h = refl
    back [] (s ∷ ss) h = absurd h
    back (r ∷ rs) [] h = absurd h
    back (r ∷ rs) (s ∷ ss) h =
        ap₂ ◌&&◌ (ap₂ ◌&&◌ (test_of r.0 s.0 h.0.0) h.0.1) (back rs ss h.1)

-- the clone of a route has its network, and a clone of its value
abbrev pub IsClone : {V : Type 0} → (V → V → Type 0) → IpNet × V → IpNet × V → Type 0
IsClone is_clone x y = (y.0 ≡ x.0) × is_clone x.1 y.1

pub cloned_networks : {V : Type 0} (is_clone : V → V → Type 0) (xs ys : List (IpNet × V))
    → AllZip (IsClone is_clone) xs ys → ip_networks ys ≡ ip_networks xs
cloned_networks is_clone [] [] h = refl
cloned_networks is_clone [] (y ∷ ys) h = absurd h
cloned_networks is_clone (x ∷ xs) [] h = absurd h
cloned_networks is_clone (x ∷ xs) (y ∷ ys) h =
    ap₂ (λ a b. ip_network a ∷ b) h.0.0 (cloned_networks is_clone xs ys h.1)

pub cloned_routes : {V : Type 0} (is_clone : V → V → Type 0) (xs ys : List (IpNet × V))
    → AllZip (IsClone is_clone) xs ys → AreClones is_clone (ip_routes xs) (ip_routes ys)
cloned_routes is_clone [] [] h = h
cloned_routes is_clone [] (y ∷ ys) h = h
cloned_routes is_clone (x ∷ xs) [] h = h
cloned_routes is_clone (x ∷ xs) (y ∷ ys) h =
    ((ap ip_network h.0.0, h.0.1), cloned_routes is_clone xs ys h.1)

-- clones of chunks are clones of all their routes
abbrev pub AreChunkClones : {V : Type 0} → (V → V → Type 0) → List (Chunk V) → List (Chunk V) → Type 0
AreChunkClones is_clone cs ds =
    AllZip (λ c d. AllZip (IsClone is_clone) c.items d.items × (vec_len d ≡ vec_len c)) cs ds

zip_append : {X : Type 0} (R : X → X → Type 0) (ws bs cs ds : List X) → AllZip R ws bs → AllZip R cs ds
    → AllZip R (ws ++ cs) (bs ++ ds)
zip_append R [] [] cs ds h k = k
zip_append R [] (b ∷ bs) cs ds h k = absurd h
zip_append R (a ∷ ws) [] cs ds h k = absurd h
zip_append R (a ∷ ws) (b ∷ bs) cs ds h k = (h.0, zip_append R ws bs cs ds h.1 k)

pub cloned_chunks : {V : Type 0} (is_clone : V → V → Type 0) (cs ds : List (Chunk V))
    → AreChunkClones is_clone cs ds → AllZip (IsClone is_clone) (all_of cs) (all_of ds)
cloned_chunks is_clone [] [] h = tt
cloned_chunks is_clone [] (d ∷ ds) h = absurd h
cloned_chunks is_clone (c ∷ cs) [] h = absurd h
cloned_chunks is_clone (c ∷ cs) (d ∷ ds) h =
    zip_append (IsClone is_clone) c.items d.items (all_of cs) (all_of ds) h.0.0 (cloned_chunks is_clone cs ds h.1)

filled_cons : {V : Type 0} (d : Chunk V) (ds : List (Chunk V)) → 0 < length d.items → AreFilled ds
    → AreFilled (d ∷ ds)
filled_cons d ds first others zero e l = first
filled_cons d ds first others (suc k) e l = others k e (omega (arith, l))

pub cloned_filled : {V : Type 0} (is_clone : V → V → Type 0) (cs ds : List (Chunk V))
    → AreChunkClones is_clone cs ds → AreFilled cs → AreFilled ds
cloned_filled is_clone [] [] h filled = filled
cloned_filled is_clone [] (d ∷ ds) h filled = absurd h
cloned_filled is_clone (c ∷ cs) [] h filled = absurd h
cloned_filled is_clone (c ∷ cs) (d ∷ ds) h filled =
    filled_cons d ds
    (omega (arith, filled 0 c (omega arith), AllZip-long (IsClone is_clone) c.items d.items h.0.0))
    (cloned_filled is_clone cs ds h.1 (λ k e l. filled (suc k) e (omega (arith, l))))
