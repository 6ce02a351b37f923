use Rattle.std.proofs.Common.{◌≡◌, ◌+◌, ◌++◌, [], map, refl, sym, ap, ◌∙◌, subst, arith, string_bytes}
use Rattle.std.proofs.Common.{append_assoc, append-nil}
use Rattle.ipnet_base.specs.Address.{width}
use Rattle.ipnet.specs.NetworkOf.{ip_network}
use Rattle.netset_entries.specs.Lengths.{count_with, length_line}
use Rattle.netset_entries.specs.Spans.{family_of}
use Rattle.netset_entries.specs.TextParts.{AreTextParts}
use Rattle.netset_entries.proofs.PartLaws.{no_parts, parts_more}
use Rattle.netset_entries.proofs.lengths.push_family.Goals as goal

pub loop-len-init : goal.loop-len-init
loop-len-init c = ([], no_parts _ 0, sym (append-nil (string_bytes c.args.text.now)))

pub loop-len-preserved : goal.loop-len-preserved
loop-len-preserved c =
    let f = family_of c.args.family in
    let networks = map ip_network c.args.networks.now in
    let len = c.loop-len.len in
    let (lines, are, so_far) = c.loop-len.invariant in
    let line = length_line f len (count_with f len networks) in (
      lines ++ line,
      parts_more (λ n z. z ≡ length_line f n (count_with f n networks)) 0 len len (len + 1) lines line are (omega arith)
          refl refl,
      c.in_ok-push_length.ensures ∙ ap (λ n. string_bytes c.loop-len.text ++ length_line f len n) c.count_of.ensures
          ∙ ap (λ z. z ++ line) so_far ∙ append_assoc (string_bytes c.args.text.now) lines line,
    )

pub returns : goal.returns
returns c =
    let f = family_of c.args.family in
    let networks = map ip_network c.args.networks.now in
    let (lines, are, so_far) = c.loop-len.invariant in
    let all : c.loop-len.len ≡ width f + 1
    = omega (arith, c.loop-len-test.false, c.loop-len.auto.len-end, c.width_of-end.ensures) in (
      lines,
      subst (λ n. AreTextParts (λ m z. z ≡ length_line f m (count_with f m networks)) 0 n lines) all are,
      so_far,
    )
