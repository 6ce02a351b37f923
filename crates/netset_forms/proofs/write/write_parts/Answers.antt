-- The two texts, one after the other; and a front of them if a write fails.
use Rattle.std.proofs.Common.{◌≡◌, ◌∙◌, subst, ℕ, List}
use Rattle.std.specs.Io.{StartsWith}
use Rattle.std.specs.Io.KnownBytes.{Appends}
use Rattle.ipnet_text.proofs.WritingLaws.{if_ok, if_err}
use Rattle.netset_forms.specs.FormSteps.{PutsSome, CutsSome, IsTextIfSome}
use Rattle.netset_forms.proofs.WriteLaws.{both_whole, first_cut, second_cut, end_cut, end_front, flushed}
use Rattle.netset_forms.proofs.write.write_parts.Goals as goal

pub returns-in_err-put_if_some-clause-front : goal.returns-in_err-put_if_some-clause-front
returns-in_err-put_if_some-clause-front g c =
    let held = g.W.Write.contents in
    if_err c.from_residual.result
    (first_cut c.args.parts.now (held c.args.out.now) (held c.put_if_some.new.out) c.requires.second
    (subst (CutsSome (IsTextIfSome c.args.parts.now.first) (held c.args.out.now) (held c.put_if_some.new.out))
    c.new-piece.ensures c.in_err-put_if_some.ensures.cut))

pub returns-in_err-put_if_some-2-clause-front : goal.returns-in_err-put_if_some-2-clause-front
returns-in_err-put_if_some-2-clause-front g c =
    let held = g.W.Write.contents in
    if_err c.from_residual-in_err-put_if_some-2.result
    (second_cut c.args.parts.now (held c.args.out.now) (held c.put_if_some.new.out) (held c.put_if_some-2.new.out)
    c.put_if_some.new.piece.bytes
    (subst (λ z. PutsSome (IsTextIfSome c.args.parts.now.first) (held c.args.out.now) (held c.put_if_some.new.out) z
    c.put_if_some.new.piece.bytes) c.new-piece.ensures c.in_ok-put_if_some.ensures.ok)
    c.in_err-put_if_some-2.ensures.cut)

pub returns-in_err-write_whole-clause-front : goal.returns-in_err-write_whole-clause-front
returns-in_err-write_whole-clause-front g c =
    let held = g.W.Write.contents in
    let here = held c.put_if_some-2.new.out in
    let end = held c.write_whole.new.out in
    let piece : c.as_bytes.result.now ≡ c.put_if_some-2.new.piece.bytes =
    c.as_bytes.ensures.value ∙ c.as_str.ensures.value in
    if_err c.from_residual-in_err-write_whole.result
    (end_cut c.args.parts.now (held c.args.out.now) (held c.put_if_some.new.out) here end
    c.put_if_some.new.piece.bytes c.put_if_some-2.new.piece.bytes
    (subst (λ z. PutsSome (IsTextIfSome c.args.parts.now.first) (held c.args.out.now) (held c.put_if_some.new.out) z
    c.put_if_some.new.piece.bytes) c.new-piece.ensures c.in_ok-put_if_some.ensures.ok)
    c.in_ok-put_if_some-2.ensures.ok
    (subst (λ z. (front : List ℕ) × StartsWith z front × Appends here end front) piece
    c.in_err-write_whole.ensures.front))

pub returns-clause-whole : goal.returns-clause-whole
returns-clause-whole g c =
    let held = g.W.Write.contents in
    let here = held c.put_if_some-2.new.out in
    let end = held c.write_whole.new.out in
    let piece : c.as_bytes.result.now ≡ c.put_if_some-2.new.piece.bytes =
    c.as_bytes.ensures.value ∙ c.as_str.ensures.value in
    if_ok c.flush.result
    (flushed c.args.parts.now (held c.args.out.now) end (held c.flush.new.self)
    (both_whole c.args.parts.now (held c.args.out.now) (held c.put_if_some.new.out) here end
    c.put_if_some.new.piece.bytes c.put_if_some-2.new.piece.bytes
    (subst (λ z. PutsSome (IsTextIfSome c.args.parts.now.first) (held c.args.out.now) (held c.put_if_some.new.out) z
    c.put_if_some.new.piece.bytes) c.new-piece.ensures c.in_ok-put_if_some.ensures.ok)
    c.in_ok-put_if_some-2.ensures.ok (subst (Appends here end) piece c.in_ok-write_whole.ensures.whole))
    c.flush.ensures.bytes)

pub returns-clause-front : goal.returns-clause-front
returns-clause-front g c =
    let held = g.W.Write.contents in
    let here = held c.put_if_some-2.new.out in
    let end = held c.write_whole.new.out in
    let piece : c.as_bytes.result.now ≡ c.put_if_some-2.new.piece.bytes =
    c.as_bytes.ensures.value ∙ c.as_str.ensures.value in
    if_err c.flush.result
    (end_front c.args.parts.now (held c.args.out.now) (held c.flush.new.self)
    (flushed c.args.parts.now (held c.args.out.now) end (held c.flush.new.self)
    (both_whole c.args.parts.now (held c.args.out.now) (held c.put_if_some.new.out) here end
    c.put_if_some.new.piece.bytes c.put_if_some-2.new.piece.bytes
    (subst (λ z. PutsSome (IsTextIfSome c.args.parts.now.first) (held c.args.out.now) (held c.put_if_some.new.out) z
    c.put_if_some.new.piece.bytes) c.new-piece.ensures c.in_ok-put_if_some.ensures.ok)
    c.in_ok-put_if_some-2.ensures.ok (subst (Appends here end) piece c.in_ok-write_whole.ensures.whole))
    c.flush.ensures.bytes))
