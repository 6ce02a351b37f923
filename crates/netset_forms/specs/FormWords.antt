-- The words that report why an answer was not written in a form.
use Rattle.std.specs.Prelude.{ℕ, List, codes}
use Rattle.netset_forms.specs.declared.form.FormFailure.{FormFailure}
use Rattle.netset_forms.specs.declared.form.FormFailure.TheVariants as Failures
use Rattle.netset_lib.specs.Reports.{long_words, unwritable}

-- The words for a failure. Example: `the result has IPv4 addresses: name a set for them by --ipv4-set`.
abbrev pub form_words : FormFailure → List ℕ
form_words (Failures.MinLength length most) = long_words length most
form_words Failures.NoIpv4Set = codes "the result has IPv4 addresses: name a set for them by --ipv4-set"
form_words Failures.NoIpv6Set = codes "the result has IPv6 addresses: name a set for them by --ipv6-set"
form_words Failures.Memory = codes "out of memory"
form_words Failures.Unwritable = unwritable
