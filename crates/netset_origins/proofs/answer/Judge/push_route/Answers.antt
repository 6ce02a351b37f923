use Rattle.std.proofs.Common.{[], ◌∷◌, ◌++◌, inl, inr, refl, sym, ◌∙◌, append-nil}
use Rattle.ipnet_base.proofs.ResultLaws.{true_gives, false_gives}
use Rattle.ipnet.specs.NetworkOf.{ip_network}
use Rattle.ipnet_origins.specs.OriginsOf.{payloads_of}
use Rattle.netset_origins.specs.OriginAnswers.{validity_word}
use Rattle.netset_origins.proofs.AnswerLaws.{on_ok, regroup, invalid_from}
use Rattle.netset_origins.proofs.answer.Judge.push_route.Goals as goal

pub returns-then-is_shown : goal.returns-then-is_shown
returns-then-is_shown c =
    let v = c.validity-validity.result in
    let shown = true_gives c.is_shown.result c.is_shown.ensures c.if-is_shown.true in
    on_ok c.push_line.result
    (λ (part, why, spelled). record {
      line = c.args.text.now ++ 9 ∷ validity_word v ++ part ++ 10 ∷ [];
      is = (v, c.validity-validity.ensures, inl (shown, part, why, refl));
      text = spelled ∙ regroup c.args.answers.now.text.items c.args.text.now (9 ∷ validity_word v) part (10 ∷ []);
      invalid = invalid_from (payloads_of c.args.self.now.table) (ip_network c.args.route.network)
          c.args.route.origin v c.args.answers.now.invalid c.is_invalid-answers.result c.validity-validity.ensures
          c.is_invalid-answers.ensures;
    })
    c.push_line.ensures

pub returns : goal.returns
returns c =
    let v = c.validity-validity.result in
    let hidden = false_gives c.is_shown.result c.is_shown.ensures c.if-is_shown.false in
    record {
      line = [];
      is = (v, c.validity-validity.ensures, inr (hidden, refl));
      text = sym (append-nil c.args.answers.now.text.items);
      invalid = invalid_from (payloads_of c.args.self.now.table) (ip_network c.args.route.network)
          c.args.route.origin v c.args.answers.now.invalid c.is_invalid-answers.result c.validity-validity.ensures
          c.is_invalid-answers.ensures;
    }
