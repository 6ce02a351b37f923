use Rattle.std.proofs.Common.{◌≤◌, sym, ◌∙◌, arith, take, length}
use Rattle.std.specs.Net.Addr.{ipv4_octets}
use Rattle.ipnet.specs.declared.parser.Grammar.TheVariants.{Strict}
use Rattle.netset_words.proofs.Letters.{ipv4_letters, letters_at}
use Rattle.netset_words.proofs.LogLaws.{address_front}
use Rattle.netset_words.proofs.log_line.leading_address.Goals as goal

pub returns-clause-entry : goal.returns-clause-entry
returns-clause-entry c = λ how.
    let bytes = c.args.bytes.now in
    let len = c.in_ok-address.len in
    let writes = c.in_ok-address.ensures.address in
    let within : len ≤ length bytes = omega (arith, c.in_ok-address.ensures.few, c.if-bytes-lt-LONGEST.false) in
    address_front how bytes len c.in_ok-address.address c.in_ok-address.ensures.some within
    (letters_at bytes len within (ipv4_letters Strict (take len bytes) (ipv4_octets c.in_ok-address.address) writes))
    (λ less. sym c.is_cut.ensures ∙ c.if-not-is_cut.false) writes
