use Rattle.std.proofs.Common.{inl, inr, ◌≡◌, ◌⊎◌, true, false, sym, ap, ◌∙◌, [], drop, subst}
use Rattle.std.proofs.lemmas.Bool.{eqb-true, eqb-false}
use Rattle.netset_words.specs.Places.{IsHost, IsNamed, begins_with_slash, is_name}
use Rattle.netset_words.specs.PlaceSteps.{Finds}
use Rattle.netset_words.specs.WordSteps.{word_of}
use Rattle.netset_words.proofs.LogEntryLaws.{empty_length, no_items}
use Rattle.ipnet_lists.proofs.CommentLaws.{behind}
use Rattle.netset_words.proofs.PlaceLaws.{AfterSlashes, AtStart, AfterName, only_first, or_second, with_both, with_so}
use Rattle.netset_words.proofs.place.after_slash.Goals as goal

pub returns-then-begins_with_slash : goal.returns-then-begins_with_slash
returns-then-begins_with_slash c =
    let g = c.args.grammar in
    let w = word_of c.args.word in
    let front = c.args.parts.front.now in
    let back = c.args.parts.back.now in
    let so : begins_with_slash back ≡ true = sym c.begins_with_slash.ensures ∙ c.if-begins_with_slash.true in
    only_first g (AfterSlashes g back) (λ z. AtStart g front back z ⊎ AfterName g w front back z) c.read_host.result
    (λ place is. elim is [
      | inl start ↦ let clash : true ≡ false = sym so ∙ start.0 in absurd cc
      | inr name ↦ let clash : true ≡ false = sym so ∙ name.0 in absurd cc
    ])
    (with_so g (begins_with_slash back ≡ true) (IsHost g (drop 1 back)) c.read_host.result so
    (subst (λ z. Finds g (IsHost g z) c.read_host.result) (behind back 1) c.read_host.ensures))

pub returns-then-is_empty : goal.returns-then-is_empty
returns-then-is_empty c =
    let g = c.args.grammar in
    let w = word_of c.args.word in
    let front = c.args.parts.front.now in
    let back = c.args.parts.back.now in
    let read_host = c.read_host-then-is_empty in
    let other : begins_with_slash back ≡ false = sym c.begins_with_slash.ensures ∙ c.if-begins_with_slash.false in
    let empty : front ≡ [] = no_items front (eqb-true _ 0 (sym c.is_empty.ensures ∙ c.if-is_empty.true)) in
    or_second g (AfterSlashes g back) (λ z. AtStart g front back z ⊎ AfterName g w front back z) read_host.result
    (λ place is. let clash : true ≡ false = sym is.0 ∙ other in absurd cc)
    (only_first g (AtStart g front back) (AfterName g w front back) read_host.result
    (λ place is. let clash : true ≡ false = sym is.1 ∙ ap is_name empty in absurd cc)
    (with_both g (begins_with_slash back ≡ false) (IsHost g back) (front ≡ []) read_host.result other empty
    read_host.ensures))

pub returns-then-not-is_name : goal.returns-then-not-is_name
returns-then-not-is_name c = λ place is.
    let other : begins_with_slash c.args.parts.back.now ≡ false =
    sym c.begins_with_slash.ensures ∙ c.if-begins_with_slash.false in
    elim is [
      | inl slashes ↦ let clash : true ≡ false = sym slashes.0 ∙ other in absurd cc
      | inr more ↦ elim more [
        | inl start ↦ eqb-false _ 0 (sym c.is_empty.ensures ∙ c.if-is_empty.false) (empty_length start.1)
        | inr named ↦
            let clash : true ≡ false =
            sym named.1 ∙ sym c.is_name.ensures ∙ c.if-not-is_name.true in
            absurd cc
      ]
    ]

pub returns : goal.returns
returns c =
    let g = c.args.grammar in
    let w = word_of c.args.word in
    let front = c.args.parts.front.now in
    let back = c.args.parts.back.now in
    let other : begins_with_slash back ≡ false = sym c.begins_with_slash.ensures ∙ c.if-begins_with_slash.false in
    or_second g (AfterSlashes g back) (λ z. AtStart g front back z ⊎ AfterName g w front back z) c.read_named.result
    (λ place is. let clash : true ≡ false = sym is.0 ∙ other in absurd cc)
    (or_second g (AtStart g front back) (AfterName g w front back) c.read_named.result
    (λ place is. eqb-false _ 0 (sym c.is_empty.ensures ∙ c.if-is_empty.false) (empty_length is.1))
    (with_both g (begins_with_slash back ≡ false) (λ z. IsNamed g w z front back) (is_name front ≡ true)
    c.read_named.result other (sym c.is_name.ensures ∙ c.if-not-is_name.false)
    c.read_named.ensures))
