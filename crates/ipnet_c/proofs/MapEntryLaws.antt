-- The entries of a map, and a table without names.
use Rattle.std.proofs.Common.{◌≡◌, ◌<◌, List, [], ◌∷◌, ◌++◌, All, length, map, refl, sym, ap, ◌∙◌, subst, arith, rules}
use Rattle.std.proofs.lemmas.List.{map-append}
use Rattle.std.proofs.lemmas.List.Elements.{All-nil, All-cons, All-append}
use Rattle.ipnet.specs.declared.net.IpNet.{IpNet}
use Rattle.ipnet_routes.specs.Routes.{Route, IsTableOf}
use Rattle.svg_maps.specs.declared.entry.MapEntry.{MapEntry}
use Rattle.ipnet_c.specs.Pictures.{IsPlainEntry}

-- one entry more
pub one_entry_more : (entries new : List MapEntry) (networks : List IpNet) (e : MapEntry) (n : IpNet)
    → new ≡ entries ++ e ∷ [] → map (λ (x : MapEntry). x.network) entries ≡ networks → All IsPlainEntry entries
    → e.network ≡ n → IsPlainEntry e
    → (map (λ (x : MapEntry). x.network) new ≡ networks ++ n ∷ []) × All IsPlainEntry new
one_entry_more entries new networks e n pushed same plain is right =
    subst (λ z. (map (λ (x : MapEntry). x.network) z ≡ networks ++ n ∷ []) × All IsPlainEntry z) (sym pushed) (
      map-append (λ (x : MapEntry). x.network) entries (e ∷ [])
          ∙ ap (λ z. z ++ e.network ∷ []) same ∙ ap (λ z. networks ++ z ∷ []) is,
      All-append IsPlainEntry entries (e ∷ []) plain (All-cons IsPlainEntry e [] right (All-nil IsPlainEntry)),
    )

-- the table of no routes has none
pub no_routes : {V : Type 0} (routes : List (Route V)) → IsTableOf [] routes → routes ≡ []
no_routes [] h = refl
no_routes (r ∷ rs) h =
    let some : 0 < length (r ∷ rs) = first_of (omega arith, search rules) in
    let latest = (h.members r).0 (0, some, refl) in
    let less : latest.place < 0 = latest.within in
    absurd (omega (arith, less))
