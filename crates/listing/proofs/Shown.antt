-- Lines and words, worked out.
use mathlib.Core.Path.{◌≡◌, refl}
use Rattle.choice.specs.Tells.{accepted, refused, accepted_whole, refused_at}
use Rattle.choice.specs.Text.{ascii, hex}
use Rattle.isa.specs.Words.{decode_of, encode_of}
use Rattle.listing.specs.Items.{normal}
use Rattle.listing.specs.Lines.{line_of, word_of}
use Rattle.listing.specs.Data.{data_line, data_of}

shown_sose : line_of 0xD947 ≡ accepted (ascii "SOR W MOVE SOSE 7")
unfolding line_of decode_of
shown_sose = refl

shown_noop : line_of 0x7140 ≡ accepted (ascii "NOOP B")
unfolding line_of decode_of
shown_noop = refl

shown_refused : line_of 0xF140 ≡ refused 7
unfolding line_of decode_of
shown_refused = refl

read_blanks : word_of (ascii "  SOR W  MOVE SOSE 7 ") ≡ accepted_whole 0xD947
unfolding word_of encode_of
read_blanks = refl

read_normal : normal (ascii "  SOR W  MOVE SOSE 7 ") ≡ ascii "SOR W MOVE SOSE 7"
unfolding normal
read_normal = refl

-- a name of another place, a leading zero, a number outside its field, an item missing, an item left over, and a refused instruction
read_20 : word_of (ascii "SOR W MOVE SOA 7") ≡ refused_at 20 12
unfolding word_of encode_of
read_20 = refl

read_zero : word_of (ascii "SOR W MOVE SOSE 07 X") ≡ refused_at 21 17
unfolding word_of encode_of
read_zero = refl

read_32 : word_of (ascii "SOR W MOVE SOSE 32") ≡ refused_at 21 17
unfolding word_of encode_of
read_32 = refl

read_missing : word_of (ascii "SOR W MOVE SOSE ") ≡ refused_at 21 17
unfolding word_of encode_of
read_missing = refl

read_22 : word_of (ascii "NOOP W X") ≡ refused_at 22 8
unfolding word_of encode_of
read_22 = refl

read_7 : word_of (ascii "NOOP W") ≡ refused_at 7 0
unfolding word_of encode_of
read_7 = refl

-- immediate data
shown_data : data_line 0x0F1A ≡ ascii "0F1A"
unfolding hex
shown_data = refl

read_data : data_of (ascii " 0F1A ") ≡ accepted_whole 0x0F1A
unfolding data_of
read_data = refl

-- a small letter, too few digits, none, and an item left over
read_small : data_of (ascii "0f1A") ≡ refused_at 21 1
unfolding data_of
read_small = refl

read_few : data_of (ascii " F1A 22") ≡ refused_at 21 2
unfolding data_of
read_few = refl

read_no_data : data_of (ascii "  ") ≡ refused_at 21 3
unfolding data_of
read_no_data = refl

read_more : data_of (ascii "0F1A 22") ≡ refused_at 22 6
unfolding data_of
read_more = refl
