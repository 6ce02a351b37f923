-- The meaning of flags of the program netset.
use Rattle.std.specs.Prelude.{Bool, true, false}
use Rattle.ipnet.specs.declared.parser.Grammar.{Grammar}
use Rattle.ipnet.specs.declared.parser.Grammar.TheVariants.{Strict, Legacy}
use Rattle.netset_lib.specs.declared.answer.Form.{Form}
use Rattle.netset_lib.specs.declared.answer.Form.TheVariants.{Networks, Ranges}
use Rattle.netset_lib.specs.declared.filter.Side.{Side}
use Rattle.netset_lib.specs.declared.filter.Side.TheVariants.{Inside, Outside}
use Rattle.netset_lib.specs.declared.operation.Families.{Families}
use Rattle.netset_lib.specs.declared.operation.Families.TheVariants.{Named, Ipv4, Ipv6, Both}

-- The families of a complement under the flags `--ipv4` and `--ipv6`. Without a flag they are the families of the list.
abbrev pub families_of : Bool → Bool → Families
families_of false false = Named
families_of true false = Ipv4
families_of false true = Ipv6
families_of true true = Both

-- The grammar of entries. The flag is `--legacy`.
abbrev pub grammar_of : Bool → Grammar
grammar_of true = Legacy
grammar_of false = Strict

-- The form of a set. The flag is `--ranges`.
abbrev pub form_of : Bool → Form
form_of true = Ranges
form_of false = Networks

-- The side of a filter. The flag is `--outside`.
abbrev pub side_of : Bool → Side
side_of true = Outside
side_of false = Inside
