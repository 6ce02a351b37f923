-- Lists of lists, one after the other: the part before one of them, the part after it, and a change in one of them.
use Rattle.std.proofs.Common.{◌≡◌, ℕ, zero, suc, ◌+◌, ◌-◌, ◌<◌, ◌≤◌, ◌⊎◌, List, [], ◌∷◌, ◌++◌, length, get_or, set}
use Rattle.std.proofs.Common.{take, drop, Contains, All, AllPairs, refl, sym, ap, ◌∙◌, subst, subst₂, arith, inl, inr}
use Rattle.std.proofs.Common.{append_assoc, append-nil, add-one, Result, Ok, Err}
use Rattle.std.specs.List.{flat_map, insert, remove}
use Rattle.std.specs.Result.{OnErr}
use Rattle.std.proofs.lemmas.Bool.{cases_lt}
use Rattle.std.proofs.lemmas.List.{length-append, get_or_append_left, get_or-append-add, get_or-append_right, set_split}
use Rattle.std.proofs.lemmas.List.{set-append_left, set-append_right, take_more_set, drop-set-lt, drop_more, take-set}
use Rattle.std.proofs.lemmas.List.{drop_all}
use Rattle.std.proofs.lemmas.List.Concat.{flat_map-append}
use Rattle.std.proofs.lemmas.List.Edits.{insert-append_left, insert-append_right, remove-append_left}
use Rattle.std.proofs.lemmas.List.Edits.{remove-append_right}
use Rattle.ipnet_base.proofs.ListLaws.{at_place}

-- what holds of all pairs of two lists, one after the other
pub pairs_left : {X : Type 0} (R : X → X → Type 0) (xs ys : List X) → AllPairs R (xs ++ ys) → AllPairs R xs
pairs_left R xs ys h i j d l m =
    subst₂ R (get_or_append_left xs ys d i (omega (arith, l, m))) (get_or_append_left xs ys d j m)
    (h i j d l (omega (arith, m, length-append xs ys)))

pub pairs_right : {X : Type 0} (R : X → X → Type 0) (xs ys : List X) → AllPairs R (xs ++ ys) → AllPairs R ys
pairs_right R xs ys h i j d l m =
    subst₂ R (get_or-append-add xs ys i d) (get_or-append-add xs ys j d)
    (h (length xs + i) (length xs + j) d (omega (arith, l)) (omega (arith, m, length-append xs ys)))

pub pairs_across : {X : Type 0} (R : X → X → Type 0) (xs ys : List X) → AllPairs R (xs ++ ys) → (x y : X)
    → Contains xs x → Contains ys y → R x y
pairs_across R xs ys h x y c e =
    subst₂ R (get_or_append_left xs ys x c.0 c.1 ∙ c.2)
    (get_or-append-add xs ys e.0 x ∙ at_place ys e.0 x y e.1 ∙ e.2)
    (h c.0 (length xs + e.0) x (omega (arith, c.1)) (omega (arith, e.1, length-append xs ys)))

pub all_left : {X : Type 0} (P : X → Type 0) (xs ys : List X) → All P (xs ++ ys) → All P xs
all_left P xs ys h k d l =
    subst P (get_or_append_left xs ys d k l) (h k d (omega (arith, l, length-append xs ys)))

pub all_right : {X : Type 0} (P : X → Type 0) (xs ys : List X) → All P (xs ++ ys) → All P ys
all_right P xs ys h k d l =
    subst P (get_or-append-add xs ys k d) (h (length xs + k) d (omega (arith, l, length-append xs ys)))

-- a member of two lists, one after the other, with its index in its own list
pub member_of_either : {X : Type 0} (xs ys : List X) (x : X) (c : Contains (xs ++ ys) x)
    → ((d : Contains xs x) × (d.0 ≡ c.0)) ⊎ ((d : Contains ys x) × (c.0 ≡ length xs + d.0))
member_of_either xs ys x c = elim (cases_lt c.0 (length xs)) [
  | inl lt ↦ inl ((c.0, lt, sym (get_or_append_left xs ys x c.0 lt) ∙ c.2), refl)
  | inr ge ↦ inr (
    (
      c.0 - length xs,
      omega (arith, ge, c.1, length-append xs ys),
      sym (get_or-append_right xs ys (length xs) c.0 x refl ge) ∙ c.2,
    ),
    omega (arith, ge),
  )
]

-- the lists before one of them, that one, and the later ones
pub chunk_split : {C X : Type 0} (f : C → List X) (cs : List C) (i : ℕ) (c : C) → i < length cs → get_or cs i c ≡ c
    → flat_map f cs ≡ flat_map f (take i cs) ++ (f c ++ flat_map f (drop (suc i) cs))
chunk_split f [] i c l e = absurd (omega (arith, l))
chunk_split f (x ∷ xs) zero c l e = ap (λ z. f z ++ flat_map f xs) e
chunk_split f (x ∷ xs) (suc i) c l e =
    ap (λ z. f x ++ z) (chunk_split f xs i c (omega (arith, l)) e)
    ∙ sym (append_assoc (f x) (flat_map f (take i xs)) (f c ++ flat_map f (drop (suc i) xs)))

pub chunk_only : {C X : Type 0} (f : C → List X) (cs : List C) (i : ℕ) (c : C) → i < length cs → get_or cs i c ≡ c
    → flat_map f (take 1 (drop i cs)) ≡ f c
chunk_only f cs i c l e =
    ap (λ z. flat_map f (take 1 z)) (drop_more cs i c l) ∙ ap (λ z. f z ++ []) e ∙ append-nil (f c)

-- one of them exchanged
chunk_set : {C X : Type 0} (f : C → List X) (cs : List C) (i : ℕ) (d : C) → i < length cs
    → flat_map f (set cs i d) ≡ flat_map f (take i cs) ++ (f d ++ flat_map f (drop (suc i) cs))
chunk_set f cs i d l = ap (flat_map f) (set_split cs i d l) ∙ flat_map-append f (take i cs) (d ∷ drop (suc i) cs)

-- one of them taken out, after it was exchanged
chunk_remove : {C X : Type 0} (f : C → List X) (cs : List C) (i : ℕ) (d : C) → i < length cs
    → flat_map f (remove (set cs i d) i) ≡ flat_map f (take i cs) ++ flat_map f (drop (suc i) cs)
chunk_remove f cs i d l =
    flat_map-append f (take i (set cs i d)) (drop (suc i) (set cs i d))
    ∙ ap (λ z. flat_map f z ++ flat_map f (drop (suc i) (set cs i d))) (take-set cs i d)
    ∙ ap (λ z. flat_map f (take i cs) ++ flat_map f z) (drop-set-lt (suc i) cs i d (omega arith))

-- one of them exchanged for two
chunk_two : {C X : Type 0} (f : C → List X) (cs : List C) (i : ℕ) (a b : C) → i < length cs
    → flat_map f (insert (set cs i a) (i + 1) b)
    ≡ flat_map f (take i cs) ++ ((f a ++ f b) ++ flat_map f (drop (suc i) cs))
chunk_two f cs i a b l =
    flat_map-append f (take (i + 1) (set cs i a)) (b ∷ drop (i + 1) (set cs i a))
    ∙ ap (λ z. flat_map f z ++ (f b ++ flat_map f (drop (i + 1) (set cs i a)))) (take_more_set cs i a l)
    ∙ ap (λ z. flat_map f (take i cs ++ a ∷ []) ++ (f b ++ flat_map f z)) (drop-set-lt (i + 1) cs i a (omega arith))
    ∙ ap (λ z. flat_map f (take i cs ++ a ∷ []) ++ (f b ++ flat_map f (drop z cs))) (add-one i)
    ∙ ap (λ z. z ++ (f b ++ flat_map f (drop (suc i) cs))) (flat_map-append f (take i cs) (a ∷ []))
    ∙ append_assoc (flat_map f (take i cs)) (f a ++ []) (f b ++ flat_map f (drop (suc i) cs))
    ∙ ap (λ z. flat_map f (take i cs) ++ (z ++ (f b ++ flat_map f (drop (suc i) cs)))) (append-nil (f a))
    ∙ ap (λ z. flat_map f (take i cs) ++ z) (sym (append_assoc (f a) (f b) (flat_map f (drop (suc i) cs))))

-- a change in the middle of three lists
insert_middle : {X : Type 0} (es ms bs : List X) (j : ℕ) (x : X) → j ≤ length ms
    → insert (es ++ (ms ++ bs)) (length es + j) x ≡ es ++ (insert ms j x ++ bs)
insert_middle es ms bs j x l =
    insert-append_right es (ms ++ bs) (length es) (length es + j) x refl (omega arith)
    ∙ ap (λ z. es ++ insert (ms ++ bs) z x) (omega arith)
    ∙ ap (λ z. es ++ z) (insert-append_left ms bs j x l)

set_middle : {X : Type 0} (es ms bs : List X) (j : ℕ) (x : X) → j < length ms
    → set (es ++ (ms ++ bs)) (length es + j) x ≡ es ++ (set ms j x ++ bs)
set_middle es ms bs j x l =
    set-append_right es (ms ++ bs) (length es) (length es + j) x refl (omega arith)
    ∙ ap (λ z. es ++ set (ms ++ bs) z x) (omega arith)
    ∙ ap (λ z. es ++ z) (set-append_left ms bs j x l)

remove_middle : {X : Type 0} (es ms bs : List X) (j : ℕ) → j < length ms
    → remove (es ++ (ms ++ bs)) (length es + j) ≡ es ++ (remove ms j ++ bs)
remove_middle es ms bs j l =
    remove-append_right es (ms ++ bs) (length es) (length es + j) refl (omega arith)
    ∙ ap (λ z. es ++ remove (ms ++ bs) z) (omega arith)
    ∙ ap (λ z. es ++ z) (remove-append_left ms bs j l)

get_middle : {X : Type 0} (es ms bs : List X) (j : ℕ) (d : X) → j < length ms
    → get_or (es ++ (ms ++ bs)) (length es + j) d ≡ get_or ms j d
get_middle es ms bs j d l = get_or-append-add es (ms ++ bs) j d ∙ get_or_append_left ms bs d j l

-- an element put into one of the lists, exchanged there, taken out, and read
module _ {C X : Type 0} (f : C → List X) (cs : List C) (i : ℕ) (c : C) (l : i < length cs) (e : get_or cs i c ≡ c)
  where
    pub put_in_chunk : (d : C) (j : ℕ) (x : X) → j ≤ length (f c) → f d ≡ insert (f c) j x
        → flat_map f (set cs i d) ≡ insert (flat_map f cs) (length (flat_map f (take i cs)) + j) x
    put_in_chunk d j x m is =
        chunk_set f cs i d l
        ∙ ap (λ z. flat_map f (take i cs) ++ (z ++ flat_map f (drop (suc i) cs))) is
        ∙ sym (insert_middle (flat_map f (take i cs)) (f c) (flat_map f (drop (suc i) cs)) j x m)
        ∙ ap (λ z. insert z (length (flat_map f (take i cs)) + j) x) (sym (chunk_split f cs i c l e))

    pub set_in_chunk : (d : C) (j : ℕ) (x : X) → j < length (f c) → f d ≡ set (f c) j x
        → flat_map f (set cs i d) ≡ set (flat_map f cs) (length (flat_map f (take i cs)) + j) x
    set_in_chunk d j x m is =
        chunk_set f cs i d l
        ∙ ap (λ z. flat_map f (take i cs) ++ (z ++ flat_map f (drop (suc i) cs))) is
        ∙ sym (set_middle (flat_map f (take i cs)) (f c) (flat_map f (drop (suc i) cs)) j x m)
        ∙ ap (λ z. set z (length (flat_map f (take i cs)) + j) x) (sym (chunk_split f cs i c l e))

    pub taken_from_chunk : (d : C) (j : ℕ) → j < length (f c) → f d ≡ remove (f c) j
        → flat_map f (set cs i d) ≡ remove (flat_map f cs) (length (flat_map f (take i cs)) + j)
    taken_from_chunk d j m is =
        chunk_set f cs i d l
        ∙ ap (λ z. flat_map f (take i cs) ++ (z ++ flat_map f (drop (suc i) cs))) is
        ∙ sym (remove_middle (flat_map f (take i cs)) (f c) (flat_map f (drop (suc i) cs)) j m)
        ∙ ap (λ z. remove z (length (flat_map f (take i cs)) + j)) (sym (chunk_split f cs i c l e))

    pub taken_with_chunk : (d : C) (j : ℕ) → j < length (f c) → f d ≡ remove (f c) j → f d ≡ []
        → flat_map f (remove (set cs i d) i) ≡ remove (flat_map f cs) (length (flat_map f (take i cs)) + j)
    taken_with_chunk d j m is none =
        chunk_remove f cs i d l
        ∙ ap (λ z. flat_map f (take i cs) ++ (z ++ flat_map f (drop (suc i) cs))) (sym none)
        ∙ sym (chunk_set f cs i d l)
        ∙ taken_from_chunk d j m is

    pub read_in_chunk : (j : ℕ) (d : X) → j < length (f c)
        → get_or (flat_map f cs) (length (flat_map f (take i cs)) + j) d ≡ get_or (f c) j d
    read_in_chunk j d m =
        ap (λ z. get_or z (length (flat_map f (take i cs)) + j) d) (chunk_split f cs i c l e)
        ∙ get_middle (flat_map f (take i cs)) (f c) (flat_map f (drop (suc i) cs)) j d m

    pub same_in_chunk : (d : C) → f d ≡ f c → flat_map f (set cs i d) ≡ flat_map f cs
    same_in_chunk d is =
        chunk_set f cs i d l
        ∙ ap (λ z. flat_map f (take i cs) ++ (z ++ flat_map f (drop (suc i) cs))) is
        ∙ sym (chunk_split f cs i c l e)

    pub split_chunk : (a b : C) → f c ≡ f a ++ f b
        → flat_map f (insert (set cs i a) (i + 1) b) ≡ flat_map f cs
    split_chunk a b is =
        chunk_two f cs i a b l
        ∙ ap (λ z. flat_map f (take i cs) ++ (z ++ flat_map f (drop (suc i) cs))) (sym is)
        ∙ sym (chunk_split f cs i c l e)

    -- an element after the last of them
    pub push_in_last : (d : C) (x : X) → suc i ≡ length cs → f d ≡ f c ++ x ∷ []
        → flat_map f (set cs i d) ≡ flat_map f cs ++ x ∷ []
    push_in_last d x end is =
        chunk_set f cs i d l
        ∙ ap (λ z. flat_map f (take i cs) ++ (f d ++ flat_map f z)) (drop_all (suc i) cs (omega (arith, end)))
        ∙ ap (λ z. flat_map f (take i cs) ++ (z ++ [])) is
        ∙ ap (λ z. flat_map f (take i cs) ++ z) (append-nil (f c ++ x ∷ []))
        ∙ sym (append_assoc (flat_map f (take i cs)) (f c) (x ∷ []))
        ∙ ap (λ z. (flat_map f (take i cs) ++ z) ++ x ∷ []) (sym (append-nil (f c)))
        ∙ ap (λ z. (flat_map f (take i cs) ++ (f c ++ flat_map f z)) ++ x ∷ [])
        (sym (drop_all (suc i) cs (omega (arith, end))))
        ∙ ap (λ z. z ++ x ∷ []) (sym (chunk_split f cs i c l e))

-- what holds in any case holds if there is an error
pub on_err : {T E P : Type 0} (r : Result T E) → P → OnErr r P
on_err (Ok x) p = tt
on_err (Err x) p = p
