-- The private steps of reading words.
-- Only private contracts use these.
use Rattle.std.specs.Prelude.{ℕ, List, Option, Some, None}
use Rattle.std.specs.Net.Addr.{ipv4_bits}
use Rattle.std.specs.declared.net.ipv4_addr.Ipv4Addr.{Ipv4Addr}
use Rattle.ipnet_base.specs.Address.{IPv4}
use Rattle.ipnet.specs.CanonicalTexts.{address_text}
use Rattle.netset_words.specs.declared.item.Kind.{Kind}
use Rattle.netset_words.specs.declared.item.Kind.TheVariants as Kinds
use Rattle.netset_words.specs.declared.item.LineItem.{LineItem}
use Rattle.netset_words.specs.declared.word.NextWord.{NextWord}
use Rattle.netset_words.specs.Items.{Item}
use Rattle.netset_words.specs.Words.{Word, first_gap, words_of}

-- The word as contracts see it.
abbrev pub word_of : NextWord → Word
word_of w = record { before = w.before.now; text = w.text.now; after = first_gap (words_of w.after.now) }

-- The text that is printed for an item: of the IPv4 address, if the text is its IPv4-mapped address.
abbrev pub shown_text : Option Ipv4Addr → List ℕ → List ℕ
shown_text None text = text
shown_text (Some a) text = address_text IPv4 (ipv4_bits a)

-- The text of an item of this kind.
abbrev pub item_text : Kind → Option Ipv4Addr → List ℕ → List ℕ
item_text Kinds.Entry mapped text = shown_text mapped text
item_text Kinds.Mask mapped text = text
item_text Kinds.Other mapped text = text

-- The item as contracts see it.
abbrev pub item_of : LineItem → Item
item_of item = record { kind = item.kind; text = item_text item.kind item.mapped item.text.now }
