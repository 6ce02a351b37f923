-- The statuses that the C functions return. A number means the same in all functions.
use Rattle.std.specs.Prelude.{ℕ}
use Rattle.ipnet.specs.declared.compact.CompactError.{CompactError}
use Rattle.ipnet.specs.declared.compact.CompactError.TheVariants.{Length, Variant, Prefix}

-- The result is in the caller's memory.
abbrev pub ok : ℕ
ok = 0

-- A line of the text is neither empty nor a network.
abbrev pub bad_line : ℕ
bad_line = 1

-- The text is not UTF-8 (RFC 3629).
abbrev pub not_utf8 : ℕ
not_utf8 = 2

-- Memory ran out.
abbrev pub out_of_memory : ℕ
out_of_memory = 3

-- There is an answer, and the buffer is too short for it.
abbrev pub buffer_too_short : ℕ
buffer_too_short = 4

-- The text is not a network.
abbrev pub not_a_network : ℕ
not_a_network = 5

-- The number of bytes is wrong for a network.
abbrev pub wrong_length : ℕ
wrong_length = 6

-- The first byte is not a family's byte.
abbrev pub unknown_family : ℕ
unknown_family = 7

-- The last byte, the prefix length, is greater than the width of the address.
abbrev pub prefix_too_long : ℕ
prefix_too_long = 8

-- A line of the second text is neither empty nor a network.
abbrev pub bad_line_in_other : ℕ
bad_line_in_other = 9

-- The second text is not UTF-8.
abbrev pub other_not_utf8 : ℕ
other_not_utf8 = 10

-- The bytes are not the image of a set.
abbrev pub not_a_set : ℕ
not_a_set = 11

-- The second of two images is not the image of a set.
abbrev pub other_not_a_set : ℕ
other_not_a_set = 12

-- The bytes do not begin with the header of the image of a table.
abbrev pub not_a_table : ℕ
not_a_table = 13

-- An offset is less than the offset before it, or greater than the length of the text.
abbrev pub bad_offsets : ℕ
bad_offsets = 14

-- A row is not what the call reads.
abbrev pub bad_row : ℕ
bad_row = 15

-- The bytes are not the image of a table of payloads.
abbrev pub not_origins : ℕ
not_origins = 16

-- A number is not one of the numbers of an option.
abbrev pub unknown_option : ℕ
unknown_option = 17

-- There is no address around which to draw a network.
abbrev pub no_address : ℕ
no_address = 18

-- The set has no room for the networks of a plan.
abbrev pub no_place : ℕ
no_place = 19

-- The status for bytes that are not a network.
abbrev pub status_of_bytes : CompactError → ℕ
status_of_bytes Length = wrong_length
status_of_bytes Variant = unknown_family
status_of_bytes Prefix = prefix_too_long
