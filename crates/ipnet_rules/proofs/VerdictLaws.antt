-- Lists of which the first entry that matches decides: one entry in front, two lists in a row, and the default.
use Rattle.std.proofs.Common.{◌≡◌, ◌⊎◌, ◌↔◌, List, [], ◌∷◌, ◌++◌, Any, refl, sym, subst, ◌∙◌, inl, inr}
use Rattle.ipnet_base.proofs.ListLaws.{contains_nil, contains_here, contains_there, contains_cases, any_from_contains}
use Rattle.ipnet_rules.specs.declared.rules.Action.{Action}
use Rattle.ipnet_rules.specs.declared.rules.Action.TheVariants.{Permit, Deny}
use Rattle.ipnet_rules.specs.Verdicts.{HasVerdict}

-- no element of the empty list has the property
pub any_nil : {E : Type 0} (P : E → Type 0) → Any P [] → ⊥
any_nil P a = contains_nil a.1 (a.0, a.2, a.3)

-- one element in front
pub any_cons : {E : Type 0} (P : E → Type 0) (e : E) (es : List E) → Any P (e ∷ es) ↔ (P e ⊎ Any P es)
any_cons {E} P e es = (to, from)
  where
    to : Any P (e ∷ es) → P e ⊎ Any P es
    to a = elim (contains_cases e es a.1 (a.0, a.2, a.3)) [
      | inl same ↦ inl (subst P (sym same) a.4)
      | inr later ↦ inr (any_from_contains P es a.1 later a.4)
    ]

    from : P e ⊎ Any P es → Any P (e ∷ es)
    from (inl here) = any_from_contains P (e ∷ es) e (contains_here e es) here
    from (inr a) = any_from_contains P (e ∷ es) a.1 (contains_there e es a.1 (a.0, a.2, a.3)) a.4

-- two lists in a row
pub any_append : {E : Type 0} (P : E → Type 0) (es fs : List E) → Any P (es ++ fs) ↔ (Any P es ⊎ Any P fs)
any_append P [] fs = (λ a. inr a, λ h. elim h [ inl a ↦ absurd (any_nil P a) | inr a ↦ a ])
any_append P (e ∷ es) fs = (
  λ a. elim ((any_cons P e (es ++ fs)).0 a) [
    | inl here ↦ inl ((any_cons P e es).1 (inl here))
    | inr later ↦ elim ((any_append P es fs).0 later) [
      | inl first ↦ inl ((any_cons P e es).1 (inr first))
      | inr second ↦ inr second
    ]
  ],
  λ h. (any_cons P e (es ++ fs)).1 (elim h [
    | inl first ↦ elim ((any_cons P e es).0 first) [
      | inl here ↦ inl here
      | inr later ↦ inr ((any_append P es fs).1 (inl later))
    ]
    | inr second ↦ inr ((any_append P es fs).1 (inr second))
  ]),
)

-- a value has one verdict
pub one_verdict : {E X : Type 0} (Matches : E → X → Type 0) (action_of : E → Action) (default : Action) (es : List E)
    (x : X) (a b : Action) → HasVerdict Matches action_of default es x a → HasVerdict Matches action_of default es x b
    → a ≡ b
one_verdict Matches action_of default [] x a b v w = v ∙ sym w
one_verdict Matches action_of default (e ∷ es) x a b v w =
    elim v [
      | inl here ↦ elim w [ inl too ↦ here.1 ∙ sym too.1 | inr later ↦ absurd (later.0 here.0) ]
      | inr later ↦ elim w [
        | inl here ↦ absurd (later.0 here.0)
        | inr too ↦ one_verdict Matches action_of default es x a b later.1 too.1
      ]
    ]

-- one element at the end
pub any_push : {E : Type 0} (P : E → Type 0) (es : List E) (e : E) → Any P (es ++ e ∷ []) ↔ (Any P es ⊎ P e)
any_push P es e = (
  λ a. elim ((any_append P es (e ∷ [])).0 a) [
    | inl first ↦ inl first
    | inr last ↦ elim ((any_cons P e []).0 last) [ inl here ↦ inr here | inr none ↦ absurd (any_nil P none) ]
  ],
  λ h. (any_append P es (e ∷ [])).1 (elim h [
    | inl first ↦ inl first
    | inr here ↦ inr ((any_cons P e []).1 (inl here))
  ]),
)

-- the two actions differ
pub not_both : Permit ≡ Deny → ⊥
not_both e = absurd (cc)

-- If the default is to deny, two lists in a row permit what the first permits, and what the second permits and the
-- first does not match.
pub permit_append : {E X : Type 0} (Matches : E → X → Type 0) (action_of : E → Action) (es fs : List E) (x : X)
    → HasVerdict Matches action_of Deny (es ++ fs) x Permit
    ↔ (HasVerdict Matches action_of Deny es x Permit
    ⊎ ((¬ (Any (λ e. Matches e x) es)) × HasVerdict Matches action_of Deny fs x Permit))
permit_append Matches action_of [] fs x = (
  λ v. inr (λ a. any_nil (λ e. Matches e x) a, v),
  λ h. elim h [ inl v ↦ absurd (not_both v) | inr second ↦ second.1 ],
)
permit_append Matches action_of (e ∷ es) fs x = (
  λ v. elim v [
    | inl here ↦ inl (inl here)
    | inr later ↦ elim ((permit_append Matches action_of es fs x).0 later.1) [
      | inl first ↦ inl (inr (later.0, first))
      | inr second ↦ inr (
        λ a. elim ((any_cons (λ e. Matches e x) e es).0 a) [
          | inl matches ↦ later.0 matches
          | inr matched ↦ second.0 matched
        ],
        second.1,
      )
    ]
  ],
  λ h. elim h [
    | inl v ↦ elim v [
      | inl here ↦ inl here
      | inr later ↦ inr (later.0, (permit_append Matches action_of es fs x).1 (inl later.1))
    ]
    | inr second ↦ inr (
      λ matches. second.0 ((any_cons (λ e. Matches e x) e es).1 (inl matches)),
      (permit_append Matches action_of es fs x).1
          (inr (λ matched. second.0 ((any_cons (λ e. Matches e x) e es).1 (inr matched)), second.1)),
    )
  ],
)

-- one entry at the end
pub permit_push : {E X : Type 0} (Matches : E → X → Type 0) (action_of : E → Action) (es : List E) (e : E) (x : X)
    → HasVerdict Matches action_of Deny (es ++ e ∷ []) x Permit
    ↔ (HasVerdict Matches action_of Deny es x Permit
    ⊎ ((¬ (Any (λ f. Matches f x) es)) × Matches e x × (Permit ≡ action_of e)))
permit_push Matches action_of es e x = (
  λ v. elim ((permit_append Matches action_of es (e ∷ []) x).0 v) [
    | inl first ↦ inl first
    | inr second ↦ elim second.1 [
      | inl here ↦ inr (second.0, here.0, here.1)
      | inr none ↦ absurd (not_both none.1)
    ]
  ],
  λ h. (permit_append Matches action_of es (e ∷ []) x).1 (elim h [
    | inl first ↦ inl first
    | inr last ↦ inr (last.0, inl (last.1, last.2))
  ]),
)

-- a list that permits a value while its default is to deny matches it
pub permit_matched : {E X : Type 0} (Matches : E → X → Type 0) (action_of : E → Action) (es : List E) (x : X)
    → HasVerdict Matches action_of Deny es x Permit → Any (λ e. Matches e x) es
permit_matched Matches action_of [] x v = absurd (not_both v)
permit_matched Matches action_of (e ∷ es) x v =
    (any_cons (λ f. Matches f x) e es).1 (elim v [
      | inl here ↦ inl here.0
      | inr later ↦ inr (permit_matched Matches action_of es x later.1)
    ])

-- A list whose default is to permit permits also what it does not match.
pub permit_by_default : {E X : Type 0} (Matches : E → X → Type 0) (action_of : E → Action) (es : List E) (x : X)
    → HasVerdict Matches action_of Permit es x Permit
    ↔ ((¬ (Any (λ e. Matches e x) es)) ⊎ HasVerdict Matches action_of Deny es x Permit)
permit_by_default Matches action_of [] x = (λ v. inl (λ a. any_nil (λ e. Matches e x) a), λ h. refl)
permit_by_default Matches action_of (e ∷ es) x = (
  λ v. elim v [
    | inl here ↦ inr (inl here)
    | inr later ↦ elim ((permit_by_default Matches action_of es x).0 later.1) [
      | inl unmatched ↦ inl (λ a. elim ((any_cons (λ e. Matches e x) e es).0 a) [
        | inl matches ↦ later.0 matches
        | inr matched ↦ unmatched matched
      ])
      | inr permitted ↦ inr (inr (later.0, permitted))
    ]
  ],
  λ h. elim h [
    | inl unmatched ↦ inr (
      λ matches. unmatched ((any_cons (λ e. Matches e x) e es).1 (inl matches)),
      (permit_by_default Matches action_of es x).1
          (inl (λ matched. unmatched ((any_cons (λ e. Matches e x) e es).1 (inr matched)))),
    )
    | inr v ↦ elim v [
      | inl here ↦ inl here
      | inr later ↦ inr (later.0, (permit_by_default Matches action_of es x).1 (inr later.1))
    ]
  ],
)
