use Rattle.std.proofs.Common.{◌≡◌, ◌<◌, [], take, length, inl, inr, sym, ◌∙◌, subst, arith}
use Rattle.ipnet_text.proofs.LineCuts.{no_bytes, some_bytes, empty_text}
use Rattle.ipnet_lists.specs.Comments.{HidesEntry, IsCommentAt}
use Rattle.ipnet_lists.specs.Entries.{HasReturn}
use Rattle.ipnet_lists.proofs.CommentLaws.{behind, divided, whole_contents}
use Rattle.ipnet_lists.proofs.ListLines.{trimmed}
use Rattle.ipnet_lists.proofs.comment.contents_of.Goals as goal

pub returns-then-start-line : goal.returns-then-start-line
returns-then-start-line c =
    let line = c.args.line.now in
    let whole = c.trim_ascii-whole.result.now in
    whole_contents line whole
    (subst (IsCommentAt line) c.if-start-line.true c.comment_start-start.ensures)
    (trimmed line whole c.trim_ascii-whole.ensures.value)

pub returns-then-has_byte : goal.returns-then-has_byte
returns-then-has_byte c =
    let is = trimmed c.args.line.now c.trim_ascii-whole.result.now c.trim_ascii-whole.ensures.value in record {
      start = c.comment_start-start.result;
      comment = c.comment_start-start.ensures;
      is = inr (is, inl (subst HasReturn is (sym c.has_byte.ensures ∙ c.if-has_byte.true)));
    }

pub returns-then-is_empty : goal.returns-then-is_empty
returns-then-is_empty c =
    let line = c.args.line.now in
    let text = c.trim_ascii-text.result.now in
    let whole = c.trim_ascii-whole.result.now in
    let front = trimmed (take c.comment_start-start.result line) text c.trim_ascii-text.ensures.value in record {
      start = c.comment_start-start.result;
      comment = c.comment_start-start.ensures;
      is = inl (
        front,
        divided line whole c.comment_start-start.result c.has_byte.result
            (trimmed line whole c.trim_ascii-whole.ensures.value) c.has_byte.ensures c.if-has_byte.false
            (λ hides. hides.0 (sym front ∙ empty_text text (no_bytes (length text) c.if-is_empty.ensures))),
      );
    }

pub returns-then-hides_entry : goal.returns-then-hides_entry
returns-then-hides_entry c =
    let text = c.trim_ascii-text.result.now in record {
      start = c.comment_start-start.result;
      comment = c.comment_start-start.ensures;
      is = inr (
        trimmed c.args.line.now c.trim_ascii-whole.result.now c.trim_ascii-whole.ensures.value,
        inr (
          λ none.
              let empty : text ≡ [] =
              trimmed (take c.comment_start-start.result c.args.line.now) text c.trim_ascii-text.ensures.value ∙ none in
              let some : 0 < length text = some_bytes (length text) c.if-is_empty.ensures in
              let wrong : 0 < 0 = subst (λ t. 0 < length t) empty some in
              absurd (omega (arith, wrong)),
          subst HidesEntry (behind c.args.line.now c.comment_start-start.result)
              (c.hides_entry.ensures.0 c.if-hides_entry.true),
        ),
      );
    }

pub returns : goal.returns
returns c =
    let line = c.args.line.now in
    let whole = c.trim_ascii-whole.result.now in record {
      start = c.comment_start-start.result;
      comment = c.comment_start-start.ensures;
      is = inl (
        trimmed (take c.comment_start-start.result line) c.trim_ascii-text.result.now c.trim_ascii-text.ensures.value,
        divided line whole c.comment_start-start.result c.has_byte.result
            (trimmed line whole c.trim_ascii-whole.ensures.value) c.has_byte.ensures c.if-has_byte.false
            (λ hides. let is = c.hides_entry.ensures.1
            (subst HidesEntry (sym (behind line c.comment_start-start.result)) hides.1) in
            let not = c.if-hides_entry.false in
            absurd cc),
      );
    }
