use Rattle.std.proofs.Common.{refl, sym, subst}
use Rattle.std.proofs.lemmas.Str.Ascii.{trim_ascii_end_is, trim_ascii_start_is}
use Rattle.ipnet_base.specs.Address.{ip_address}
use Rattle.ipnet.specs.declared.parser.Grammar.TheVariants.{Legacy}
use Rattle.ipnet_lists.specs.CauseSteps.{WriteEnds, ends_of}
use Rattle.ipnet_lists.specs.Entries.{IsAddressText}
use Rattle.ipnet_lists.proofs.EntryTexts.{reads_none, reads_some}
use Rattle.ipnet_lists.proofs.cause_parts.read_ends.Goals as goal

pub returns-in_default : goal.returns-in_default
returns-in_default c =
    let before = trim_ascii_end_is c.args.front.now c.trim_ascii_end.result.now c.trim_ascii_end.ensures.value in
    reads_none ends_of (WriteEnds c.args.front.now) c.args.back.now
    (λ p k. c.in_default.ensures.none.0 refl p.0 (subst (λ z. IsAddressText Legacy z p.0) (sym before) k.0))

pub returns-in_default-parse_address : goal.returns-in_default-parse_address
returns-in_default-parse_address c =
    let after = trim_ascii_start_is c.args.back.now c.trim_ascii_start.result.now c.trim_ascii_start.ensures.value in
    reads_none ends_of (WriteEnds c.args.front.now) c.args.back.now
    (λ p k.
    c.in_default-parse_address.ensures.none.0 refl p.1 (subst (λ z. IsAddressText Legacy z p.1) (sym after) k.1))

pub returns : goal.returns
returns c =
    let before = trim_ascii_end_is c.args.front.now c.trim_ascii_end.result.now c.trim_ascii_end.ensures.value in
    let after = trim_ascii_start_is c.args.back.now c.trim_ascii_start.result.now c.trim_ascii_start.ensures.value in
    let first = ip_address c.in-Some.first in
    let last = ip_address c.in-Some-parse_address.last in
    reads_some ends_of (WriteEnds c.args.front.now) c.args.back.now
    (c.in-Some.first, c.in-Some-parse_address.last) (
      subst (λ z. IsAddressText Legacy z first) before c.in-Some.ensures.some,
      subst (λ z. IsAddressText Legacy z last) after c.in-Some-parse_address.ensures.some,
    )
