-- The commands of ipset before the first item, and the commands of FRR, as they are joined.
use Rattle.std.proofs.Common.{◌≡◌, ℕ, List, [], ◌∷◌, ◌++◌, codes, ap, ◌∙◌, append_assoc, append-nil, sym}
use Rattle.netset_forms.specs.Layouts.{Layout, ipset_create, ipset_start, new_name, frr_list, frr_layout}

create_is : (kind name : List ℕ)
    → codes "create " ++ (name ++ (codes " " ++ (kind ++ (codes " -exist" ++ 10 ∷ [])))) ≡ ipset_create kind name
create_is kind name = simp append_assoc

create_new_is : (kind name : List ℕ)
    → codes "create " ++ (name ++ (codes ".new " ++ (kind ++ (codes " -exist" ++ 10 ∷ []))))
    ≡ ipset_create kind (new_name name)
create_new_is kind name = simp append_assoc

flush_is : (name : List ℕ)
    → codes "flush " ++ (name ++ (codes ".new" ++ 10 ∷ [])) ≡ codes "flush " ++ new_name name ++ 10 ∷ []
flush_is name = simp append_assoc

regrouped : (a b c d e : List ℕ) → a ++ (b ++ ((c ++ d) ++ e)) ≡ (((a ++ b) ++ c) ++ d) ++ e
regrouped a b c d e = simp append_assoc

pub start_is : (kind name create create_new flush : List ℕ)
    → create ≡ codes "create " ++ (name ++ (codes " " ++ (kind ++ (codes " -exist" ++ 10 ∷ []))))
    → create_new ≡ codes "create " ++ (name ++ (codes ".new " ++ (kind ++ (codes " -exist" ++ 10 ∷ []))))
    → flush ≡ codes "flush " ++ (name ++ (codes ".new" ++ 10 ∷ []))
    → create ++ (create_new ++ (flush ++ [])) ≡ ipset_start kind name
start_is kind name create create_new flush a b c =
    ap (λ z. z ++ (create_new ++ (flush ++ []))) (a ∙ create_is kind name)
    ∙ ap (λ z. ipset_create kind name ++ (z ++ (flush ++ []))) (b ∙ create_new_is kind name)
    ∙ ap (λ z. ipset_create kind name ++ (ipset_create kind (new_name name) ++ z))
    (append-nil flush ∙ c ∙ flush_is name)
    ∙ regrouped (ipset_create kind name) (ipset_create kind (new_name name)) (codes "flush ") (new_name name) (10 ∷ [])

-- the words of FRR that name a prefix list
pub list_is : (protocol name : List ℕ)
    → protocol ++ (codes " prefix-list " ++ (name ++ [])) ≡ frr_list protocol name
list_is protocol name =
    ap (λ z. protocol ++ (codes " prefix-list " ++ z)) (append-nil name)
    ∙ sym (append_assoc protocol (codes " prefix-list ") name)

-- ---- a prefix list of FRR

first_is : (l : List ℕ) → codes "no " ++ (l ++ (10 ∷ (l ++ codes " seq ")))
    ≡ (codes "no " ++ l ++ 10 ∷ []) ++ l ++ codes " seq "
first_is l = simp append_assoc

none_is : (l all : List ℕ) → codes "no " ++ (l ++ (10 ∷ (l ++ (codes " seq 5 deny " ++ (all ++ 10 ∷ [])))))
    ≡ (codes "no " ++ l ++ 10 ∷ []) ++ l ++ codes " seq 5 deny " ++ all ++ 10 ∷ []
none_is l all = simp append_assoc

same_layout : (l k : Layout) → l.before ≡ k.before → l.between ≡ k.between → l.after ≡ k.after → l.none ≡ k.none
    → l ≡ k
same_layout l k before between after none =
    ap (λ z. record { before = z; between = l.between; after = l.after; none = l.none }) before
    ∙ ap (λ z. record { before = k.before; between = z; after = l.after; none = l.none }) between
    ∙ ap (λ z. record { before = k.before; between = k.between; after = z; none = l.none }) after
    ∙ ap (λ z. record { before = k.before; between = k.between; after = k.after; none = z }) none

pub frr_is : (protocol all name list : List ℕ) (l : Layout) → list ≡ frr_list protocol name
    → l.before ≡ codes "no " ++ (list ++ (10 ∷ (list ++ codes " seq ")))
    → l.between ≡ 10 ∷ (list ++ codes " seq ") → l.after ≡ 10 ∷ []
    → l.none ≡ codes "no " ++ (list ++ (10 ∷ (list ++ (codes " seq 5 deny " ++ (all ++ 10 ∷ [])))))
    → l ≡ frr_layout protocol all name
frr_is protocol all name list l is before between after none =
    let words = frr_list protocol name in
    same_layout l (frr_layout protocol all name)
    (before ∙ ap (λ z. codes "no " ++ (z ++ (10 ∷ (z ++ codes " seq ")))) is ∙ first_is words)
    (between ∙ ap (λ z. 10 ∷ (z ++ codes " seq ")) is) after
    (none ∙ ap (λ z. codes "no " ++ (z ++ (10 ∷ (z ++ (codes " seq 5 deny " ++ (all ++ 10 ∷ [])))))) is
    ∙ none_is words all)
