-- The classes of the cells of a map of a change.
use Rattle.std.proofs.Common.{◌≡◌, ◌≢◌, ◌↔◌, inl, inr, [], ◌∷◌, AllPairs, Contains}
use Rattle.std.proofs.Common.{refl, sym, ap, ◌∙◌, subst}
use Rattle.std.proofs.lemmas.List.Elements.{All-nil, All-cons}
use Rattle.ipnet_base.specs.Address.{Address}
use Rattle.ipnet_base.specs.Network.{Network, InBlock}
use Rattle.ipnet_base.specs.Blocks.{IsInEither}
use Rattle.ipnet_base.proofs.BlockLaws.{own, own_in}
use Rattle.ipnet_base.proofs.DecidedLaws.{IsDecided, block_decided}
use Rattle.ipnet_base.proofs.ListLaws.{contains_here, contains_there}
use Rattle.ipnet_bars.specs.declared.change.Change.TheVariants as change
use Rattle.ipnet_bars.specs.Parts.{HasSome, HasNone, HasAll}
use Rattle.ipnet_bars.specs.Changes.{IsOnlyIn, IsChange}
use Rattle.ipnet_maps.specs.declared.class.Class.{Class}
use Rattle.ipnet_maps.specs.declared.class.Class.TheVariants.{Removed, Added, Mixed, KeptPart, KeptWhole}
use Rattle.ipnet_maps.specs.Cells.{IsKeptPart, IsKeptWhole}
use Rattle.ipnet_maps.specs.Classes.{HasChangeClass, change_classes}
use Rattle.ipnet_maps.proofs.ClassLaws.{some_or_none, distinct_more, distinct_none}
use Rattle.ipnet_maps.proofs.DrawingLaws.{AreClasses}

-- Whether something of a cell went, came, or stayed.
data Kind : Type 0 where
  Gone : Kind
  New : Kind
  Both : Kind
  Part : Kind
  Full : Kind

abbrev class_at : Kind → Class
class_at Gone = Removed
class_at New = Added
class_at Both = Mixed
class_at Part = KeptPart
class_at Full = KeptWhole

-- The facts that decide the kind.
abbrev Has : (Address → Type 0) → (Address → Type 0) → Kind → Network → Type 0
Has A B Gone n = IsChange A B n change.Removed
Has A B New n = IsChange A B n change.Added
Has A B Both n = IsChange A B n change.Mixed
Has A B Part n = IsKeptPart A B n
Has A B Full n = IsKeptWhole A B n

-- ---- each cell has one kind

contrary : (P : Address → Type 0) (n : Network) → HasSome P n → HasNone P n → ⊥
contrary P n some none = none some.0 some.1.in_block some.1.in_set

-- nothing went from a cell that is kept, and nothing came
none_gone : (A B : Address → Type 0) (n : Network) → ((x : Address) → InBlock n x → A x ↔ B x)
    → HasNone (IsOnlyIn A B) n
none_gone A B n same x near only = only.1 ((same x near).0 only.0)

none_new : (A B : Address → Type 0) (n : Network) → ((x : Address) → InBlock n x → A x ↔ B x)
    → HasNone (IsOnlyIn B A) n
none_new A B n same x near only = only.1 ((same x near).1 only.0)

both_all : (A B : Address → Type 0) (n : Network) → IsKeptWhole A B n → (x : Address) → InBlock n x → A x ↔ B x
both_all A B n k x near = (λ a. k.1 x near, λ b. k.0 x near)

one_kind : (A B : Address → Type 0) (n : Network) (k l : Kind) → Has A B k n → Has A B l n → k ≡ l
one_kind A B n Gone Gone a b = refl
one_kind A B n Gone New a b = absurd (contrary (IsOnlyIn A B) n a.0 b.1)
one_kind A B n Gone Both a b = absurd (contrary (IsOnlyIn B A) n b.1 a.1)
one_kind A B n Gone Part a b = absurd (contrary (IsOnlyIn A B) n a.0 (none_gone A B n b.0.1))
one_kind A B n Gone Full a b = absurd (contrary (IsOnlyIn A B) n a.0 (none_gone A B n (both_all A B n b)))
one_kind A B n New Gone a b = absurd (contrary (IsOnlyIn A B) n b.0 a.1)
one_kind A B n New New a b = refl
one_kind A B n New Both a b = absurd (contrary (IsOnlyIn A B) n b.0 a.1)
one_kind A B n New Part a b = absurd (contrary (IsOnlyIn B A) n a.0 (none_new A B n b.0.1))
one_kind A B n New Full a b = absurd (contrary (IsOnlyIn B A) n a.0 (none_new A B n (both_all A B n b)))
one_kind A B n Both Gone a b = absurd (contrary (IsOnlyIn B A) n a.1 b.1)
one_kind A B n Both New a b = absurd (contrary (IsOnlyIn A B) n a.0 b.1)
one_kind A B n Both Both a b = refl
one_kind A B n Both Part a b = absurd (contrary (IsOnlyIn A B) n a.0 (none_gone A B n b.0.1))
one_kind A B n Both Full a b = absurd (contrary (IsOnlyIn A B) n a.0 (none_gone A B n (both_all A B n b)))
one_kind A B n Part Gone a b = absurd (contrary (IsOnlyIn A B) n b.0 (none_gone A B n a.0.1))
one_kind A B n Part New a b = absurd (contrary (IsOnlyIn B A) n b.0 (none_new A B n a.0.1))
one_kind A B n Part Both a b = absurd (contrary (IsOnlyIn A B) n b.0 (none_gone A B n a.0.1))
one_kind A B n Part Part a b = refl
one_kind A B n Part Full a b = absurd (a.1 b.0)
one_kind A B n Full Gone a b = absurd (contrary (IsOnlyIn A B) n b.0 (none_gone A B n (both_all A B n a)))
one_kind A B n Full New a b = absurd (contrary (IsOnlyIn B A) n b.0 (none_new A B n (both_all A B n a)))
one_kind A B n Full Both a b = absurd (contrary (IsOnlyIn A B) n b.0 (none_gone A B n (both_all A B n a)))
one_kind A B n Full Part a b = absurd (b.1 a.0)
one_kind A B n Full Full a b = refl

-- ---- kinds and classes

change_class : (A B : Address → Type 0) (q : Class) (n : Network) → HasChangeClass A B q n
    → (k : Kind) × (class_at k ≡ q) × Has A B k n
change_class A B Removed n h = (Gone, refl, h)
change_class A B Added n h = (New, refl, h)
change_class A B Mixed n h = (Both, refl, h)
change_class A B KeptPart n h = (Part, refl, h)
change_class A B KeptWhole n h = (Full, refl, h)
change_class A B q n h = absurd h

class_of_kind : (A B : Address → Type 0) (n : Network) (k : Kind) → Has A B k n → HasChangeClass A B (class_at k) n
class_of_kind A B n Gone h = h
class_of_kind A B n New h = h
class_of_kind A B n Both h = h
class_of_kind A B n Part h = h
class_of_kind A B n Full h = h

kind_listed : (k : Kind) → Contains change_classes (class_at k)
kind_listed Gone = contains_here Removed (Added ∷ Mixed ∷ KeptPart ∷ KeptWhole ∷ [])
kind_listed New =
    contains_there Removed (Added ∷ Mixed ∷ KeptPart ∷ KeptWhole ∷ []) Added
    (contains_here Added (Mixed ∷ KeptPart ∷ KeptWhole ∷ []))
kind_listed Both =
    contains_there Removed (Added ∷ Mixed ∷ KeptPart ∷ KeptWhole ∷ []) Mixed
    (contains_there Added (Mixed ∷ KeptPart ∷ KeptWhole ∷ []) Mixed
    (contains_here Mixed (KeptPart ∷ KeptWhole ∷ [])))
kind_listed Part =
    contains_there Removed (Added ∷ Mixed ∷ KeptPart ∷ KeptWhole ∷ []) KeptPart
    (contains_there Added (Mixed ∷ KeptPart ∷ KeptWhole ∷ []) KeptPart
    (contains_there Mixed (KeptPart ∷ KeptWhole ∷ []) KeptPart
    (contains_here KeptPart (KeptWhole ∷ []))))
kind_listed Full =
    contains_there Removed (Added ∷ Mixed ∷ KeptPart ∷ KeptWhole ∷ []) KeptWhole
    (contains_there Added (Mixed ∷ KeptPart ∷ KeptWhole ∷ []) KeptWhole
    (contains_there Mixed (KeptPart ∷ KeptWhole ∷ []) KeptWhole
    (contains_there KeptPart (KeptWhole ∷ []) KeptWhole (contains_here KeptWhole []))))

changes_distinct : AllPairs (λ q r. q ≢ r) change_classes
changes_distinct =
    distinct_more Removed (Added ∷ Mixed ∷ KeptPart ∷ KeptWhole ∷ [])
    (All-cons (λ r. Removed ≢ r) Added (Mixed ∷ KeptPart ∷ KeptWhole ∷ []) (λ e. cc)
    (All-cons (λ r. Removed ≢ r) Mixed (KeptPart ∷ KeptWhole ∷ []) (λ e. cc)
    (All-cons (λ r. Removed ≢ r) KeptPart (KeptWhole ∷ []) (λ e. cc)
    (All-cons (λ r. Removed ≢ r) KeptWhole [] (λ e. cc) (All-nil (λ r. Removed ≢ r))))))
    (distinct_more Added (Mixed ∷ KeptPart ∷ KeptWhole ∷ [])
    (All-cons (λ r. Added ≢ r) Mixed (KeptPart ∷ KeptWhole ∷ []) (λ e. cc)
    (All-cons (λ r. Added ≢ r) KeptPart (KeptWhole ∷ []) (λ e. cc)
    (All-cons (λ r. Added ≢ r) KeptWhole [] (λ e. cc) (All-nil (λ r. Added ≢ r)))))
    (distinct_more Mixed (KeptPart ∷ KeptWhole ∷ [])
    (All-cons (λ r. Mixed ≢ r) KeptPart (KeptWhole ∷ []) (λ e. cc)
    (All-cons (λ r. Mixed ≢ r) KeptWhole [] (λ e. cc) (All-nil (λ r. Mixed ≢ r))))
    (distinct_more KeptPart (KeptWhole ∷ [])
    (All-cons (λ r. KeptPart ≢ r) KeptWhole [] (λ e. cc) (All-nil (λ r. KeptPart ≢ r)))
    (distinct_more KeptWhole [] (All-nil (λ r. KeptWhole ≢ r)) distinct_none))))

-- ---- what holds of a block holds by its part of the two sets

-- The two pairs of sets have the same addresses of the blocks, which may be two names of one block.
record IsSamePart (A B C D : Address → Type 0) (n k : Network) : Type 0 where
  to : (x : Address) → InBlock n x → InBlock k x
  from : (x : Address) → InBlock k x → InBlock n x
  first : (x : Address) → InBlock n x → A x ↔ C x
  second : (x : Address) → InBlock n x → B x ↔ D x

module _ (A B C D : Address → Type 0) (n k : Network) (same : IsSamePart A B C D n k) where
  gone_moved : HasSome (IsOnlyIn A B) n → HasSome (IsOnlyIn C D) k
  gone_moved s =
      let near = s.1.in_block in (
        s.0,
        record {
          in_block = same.to s.0 near;
          in_set = (
            (same.first s.0 near).0 s.1.in_set.0,
            λ d. s.1.in_set.1 ((same.second s.0 near).1 d),
          );
        },
      )

  none_moved : HasNone (IsOnlyIn A B) n → HasNone (IsOnlyIn C D) k
  none_moved none x near only =
      let here = same.from x near in
      none x here ((same.first x here).1 only.0, λ b. only.1 ((same.second x here).0 b))

  all_moved : HasAll A n → HasAll C k
  all_moved all x near = let here = same.from x near in (same.first x here).0 (all x here)

  all_back : HasAll C k → HasAll A n
  all_back all x near = (same.first x near).1 (all x (same.to x near))

turned_part : (A B C D : Address → Type 0) (n k : Network) → IsSamePart A B C D n k → IsSamePart B A D C n k
turned_part A B C D n k same =
    record { to = same.to; from = same.from; first = same.second; second = same.first }

kind_moved : (A B C D : Address → Type 0) (n k : Network) → IsSamePart A B C D n k → (kind : Kind) → Has A B kind n
    → Has C D kind k
kind_moved A B C D n k same Gone h = (
  gone_moved A B C D n k same h.0,
  none_moved B A D C n k (turned_part A B C D n k same) h.1,
)
kind_moved A B C D n k same New h = (
  gone_moved B A D C n k (turned_part A B C D n k same) h.0,
  none_moved A B C D n k same h.1,
)
kind_moved A B C D n k same Both h = (
  gone_moved A B C D n k same h.0,
  gone_moved B A D C n k (turned_part A B C D n k same) h.1,
)
kind_moved A B C D n k same Part h =
    let x = h.0.0.0 in
    let near = h.0.0.1.in_block in (
      (
        (x, record { in_block = same.to x near; in_set = (same.first x near).0 h.0.0.1.in_set }),
        λ y in_k.
            let here = same.from y in_k in (
              λ c. (same.second y here).0 ((h.0.1 y here).0 ((same.first y here).1 c)),
              λ d. (same.first y here).0 ((h.0.1 y here).1 ((same.second y here).1 d)),
            ),
      ),
      λ all. h.1 (all_back A B C D n k same all),
    )
kind_moved A B C D n k same Full h = (
  all_moved A B C D n k same h.0,
  all_moved B A D C n k (turned_part A B C D n k same) h.1,
)

pub change_class_of_part : (A B C D : Address → Type 0) (q : Class) (n : Network)
    → ((x : Address) → InBlock n x → A x ↔ C x) → ((x : Address) → InBlock n x → B x ↔ D x)
    → HasChangeClass A B q n → HasChangeClass C D q n
change_class_of_part A B C D q n first second h =
    let k = change_class A B q n h in
    subst (λ z. HasChangeClass C D z n) k.1
    (class_of_kind C D n k.0 (kind_moved A B C D n n
    (record { to = λ x b. b; from = λ x b. b; first = first; second = second }) k.0 k.2))

-- ---- all classes

some_of_kind : (A B : Address → Type 0) (n : Network) (k : Kind) → Has A B k n → HasSome (IsInEither A B) n
some_of_kind A B n Gone h =
    (h.0.0, record { in_block = h.0.1.in_block; in_set = inl h.0.1.in_set.0 })
some_of_kind A B n New h =
    (h.0.0, record { in_block = h.0.1.in_block; in_set = inr h.0.1.in_set.0 })
some_of_kind A B n Both h =
    (h.0.0, record { in_block = h.0.1.in_block; in_set = inl h.0.1.in_set.0 })
some_of_kind A B n Part h =
    (h.0.0.0, record { in_block = h.0.0.1.in_block; in_set = inl h.0.0.1.in_set })
some_of_kind A B n Full h =
    (own n, record { in_block = own_in n; in_set = inl (h.0 (own n) (own_in n)) })

only_decided : (A B : Address → Type 0) → IsDecided A → IsDecided B → IsDecided (IsOnlyIn A B)
only_decided A B dec_a dec_b x = elim (dec_a x) [
  | inr out ↦ inr (λ o. out o.0)
  | inl a ↦ elim (dec_b x) [ inl b ↦ inr (λ o. o.1 b) | inr out ↦ inl (a, out) ]
]

-- nothing went and nothing came
nothing_changed : (A B : Address → Type 0) → IsDecided A → IsDecided B → (n : Network) → HasNone (IsOnlyIn A B) n
    → HasNone (IsOnlyIn B A) n → (x : Address) → InBlock n x → A x ↔ B x
nothing_changed A B dec_a dec_b n gone new x near = (
  λ a. elim (dec_b x) [ inl b ↦ b | inr out ↦ absurd (gone x near (a, out)) ],
  λ b. elim (dec_a x) [ inl a ↦ a | inr out ↦ absurd (new x near (b, out)) ],
)

kind_exists : (A B : Address → Type 0) → IsDecided A → IsDecided B → (n : Network) → HasSome (IsInEither A B) n
    → (k : Kind) × Has A B k n
kind_exists A B dec_a dec_b n some =
    elim (some_or_none (IsOnlyIn A B) (only_decided A B dec_a dec_b) n) [
      | inl gone ↦ elim (some_or_none (IsOnlyIn B A) (only_decided B A dec_b dec_a) n) [
        | inl new ↦ (Both, (gone, new))
        | inr none ↦ (Gone, (gone, none))
      ]
      | inr none ↦ elim (some_or_none (IsOnlyIn B A) (only_decided B A dec_b dec_a) n) [
        | inl new ↦ (New, (new, none))
        | inr no_new ↦
            let same = nothing_changed A B dec_a dec_b n none no_new in
            let kept : HasSome A n = elim some.1.in_set [
              | inl a ↦ (some.0, record { in_block = some.1.in_block; in_set = a })
              | inr b ↦ (some.0, record { in_block = some.1.in_block; in_set = (same some.0 some.1.in_block).1 b })
            ] in
            elim (block_decided A dec_a n) [
              | inl all ↦ (Full, (all, λ x near. (same x near).0 (all x near)))
              | inr part ↦ (Part, ((kept, same), part))
            ]
      ]
    ]

pub classes_of_change : (A B : Address → Type 0) → IsDecided A → IsDecided B
    → AreClasses (IsInEither A B) (HasChangeClass A B) change_classes
classes_of_change A B dec_a dec_b = record {
  distinct = changes_distinct;
  one = λ q r n a b.
      let k = change_class A B q n a in
      let l = change_class A B r n b in
      sym k.1 ∙ ap class_at (one_kind A B n k.0 l.0 k.2 l.2) ∙ l.1;
  some = λ q n a. let k = change_class A B q n a in some_of_kind A B n k.0 k.2;
  total = λ n some.
      let k = kind_exists A B dec_a dec_b n some in (class_at k.0, kind_listed k.0, class_of_kind A B n k.0 k.1);
  same = λ q n k same a.
      let kind = change_class A B q n a in
      subst (λ z. HasChangeClass A B z k) kind.1
      (class_of_kind A B k kind.0 (kind_moved A B A B n k (record {
        to = same.to;
        from = same.from;
        first = λ x near. (λ p. p, λ p. p);
        second = λ x near. (λ p. p, λ p. p);
      }) kind.0 kind.2));
}
