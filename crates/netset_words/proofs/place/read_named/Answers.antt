use Rattle.std.proofs.Common.{inl, inr, ◌≡◌, ◌⊎◌, true, false, sym, ◌∙◌, codes}
use Rattle.ipnet_lists.specs.Causes.{IsCutAt}
use Rattle.netset_words.specs.Places.{IsBefore, IsHost, is_host_name}
use Rattle.netset_words.specs.WordSteps.{word_of}
use Rattle.netset_words.proofs.PlaceLaws.{none_found, or_first, or_second, with_so}
use Rattle.netset_words.proofs.place.read_named.Goals as goal

pub returns-in-Some : goal.returns-in-Some
returns-in-Some c =
    let g = c.args.grammar in
    let back = c.args.parts.back.now in
    or_first g (λ z. IsCutAt 58 (IsBefore g z) back)
    (λ z. (((word_of c.args.word).after ≡ codes "(") ⊎ (is_host_name c.args.parts.front.now ≡ true)) × IsHost g back z)
    c.in-Some.place c.in-Some.ensures

pub returns-then-not-may_have_host : goal.returns-then-not-may_have_host
returns-then-not-may_have_host c = λ place is.
    let g = c.args.grammar in
    let back = c.args.parts.back.now in
    elim is [
      | inl port ↦ none_found g (λ z. IsCutAt 58 (IsBefore g z) back) c.before_colon.result
          c.before_colon.ensures c.in_default.not-Some place port
      | inr other ↦
          let clash : true ≡ false =
          sym (c.may_have_host.ensures.1 other.0) ∙ c.if-not-may_have_host.true in
          absurd cc
    ]

pub returns : goal.returns
returns c =
    let g = c.args.grammar in
    let back = c.args.parts.back.now in
    let So = ((word_of c.args.word).after ≡ codes "(") ⊎ (is_host_name c.args.parts.front.now ≡ true) in
    or_second g (λ z. IsCutAt 58 (IsBefore g z) back) (λ z. So × IsHost g back z) c.read_host.result
    (none_found g (λ z. IsCutAt 58 (IsBefore g z) back) c.before_colon.result c.before_colon.ensures
    c.in_default.not-Some)
    (with_so g So (IsHost g back) c.read_host.result
    (c.may_have_host.ensures.0 c.if-not-may_have_host.false) c.read_host.ensures)
