-- The reader of a text, byte by byte. What it reads is defined in `Place`, and not here.
use Rattle.std.specs.Prelude.{◌≡◌, ◌≤◌, slice_index, ℕ, ◌+◌, ◌-◌, ◌*◌, ◌%◌, ◌^◌, ◌<◌, ◌==◌, nat_le, nat_lt, Bool}
use Rattle.std.specs.Prelude.{true, false, ◌&&◌, if◌then◌else◌, List, [], ◌∷◌, ◌++◌, length, take, Option, Some, None}
use Rattle.std.specs.Prelude.{option_map, unwrap_or}
use Rattle.std.specs.Char.{is_ascii_alphanumeric}
use Rattle.csn_treetext.specs.declared.stack.TheConstants.{MOST_ROUND}
use Rattle.csn_treetext.specs.declared.bounds.TheConstants.{GREATEST_ALTERNATIVE, MOST_SHORT, MOST_OCTETS}
use Rattle.csn_bits.specs.declared.bits.TheConstants.{MOST_BITS}
use Rattle.csn_desc.specs.declared.tree.TheConstants.{MOST_TREES}
use Rattle.csn_bits.specs.Octets.{bits_of_octets, IsBits}
use Rattle.csn_desc.specs.Label.{IsLabel}
use Rattle.csn_bits.specs.Line.{last_of}
use Rattle.csn_lexer.specs.Word.{begins_word, goes_on_in_word, joins_pieces}
use Rattle.csn_desc.specs.TreeV.{TreeV, empty, bits, row, alt, named, none, trees_of}
use Rattle.csn_treetext.specs.declared.version.Version.{Version}
use Rattle.csn_treetext.specs.declared.version.Version.TheVariants.{First, Second}
use Rattle.csn_treetext.specs.declared.stack.Frame.{Frame}
use Rattle.csn_treetext.specs.declared.stack.Frame.TheVariants.{Row, Alt, Named}
use Rattle.csn_treetext.specs.declared.name.NameAt.{NameAt}
use Rattle.csn_treetext.specs.declared.name.NameAt.TheVariants.{Front, Within, Joint}
use Rattle.csn_treetext.specs.reader.Mode.{Mode}
use Rattle.csn_treetext.specs.reader.Mode.{Start, Opened, Behind, Done, Width, Quote, Value, Hash, Number, Name, NameEnd, Octets, Slash, Bare}
use Rattle.csn_treetext.specs.Text.{is_short}
use Rattle.csn_bits.specs.Numbers.{low_bits}
use Rattle.csn_treetext.specs.reader.Numeral.{grown, greatest_of}

pub record State : Type 0 where
  pub mode : Mode
  pub stack : List Frame

abbrev pub state : Mode → List Frame → State
state mode stack = record { mode = mode; stack = stack }

abbrev pub with_stack : List Frame → Option Mode → Option State
with_stack stack None = None
with_stack stack (Some mode) = Some (state mode stack)

-- each row that has begun can take one tree more
abbrev pub HasRoom : List Frame → Type 0
HasRoom [] = Unit {0}
HasRoom (Row ts ∷ stack) = (length ts < MOST_TREES) × HasRoom stack
HasRoom (Alt j ∷ stack) = HasRoom stack
HasRoom (Named l ∷ stack) = HasRoom stack

abbrev pub last_octet : List ℕ → ℕ
last_octet octets = unwrap_or (last_of octets) 0

-- where a label stands after one byte more
abbrev pub name_after : NameAt → ℕ → Option NameAt
name_after Front byte = if begins_word byte then Some Within else None
name_after Within byte =
    if byte == 32 then Some Front
    else if joins_pieces byte then Some Joint
    else if goes_on_in_word byte then Some Within
    else None
name_after Joint byte = if is_ascii_alphanumeric byte then Some Within else None

-- where a label stands after some bytes of it
abbrev pub name_from : Option NameAt → ℕ → Option NameAt
name_from None byte = None
name_from (Some at) byte = name_after at byte

abbrev pub name_run : Option NameAt → List ℕ → Option NameAt
name_run at [] = at
name_run at (byte ∷ rest) = name_run (name_from at byte) rest

-- each is an octet
abbrev pub AreOctets : List ℕ → Type 0
AreOctets octets = (k : ℕ) → slice_index octets k < 256

-- octets that a leaf can have, with the first digit of one more
abbrev pub AreDigits : List ℕ → Option ℕ → Type 0
AreDigits octets None = length octets ≤ MOST_OCTETS
AreDigits octets (Some high) = (length octets < MOST_OCTETS) × (high < 16)

-- what a mode holds can stand there
abbrev pub IsMode : Mode → Type 0
IsMode Start = Unit {0}
IsMode Opened = Unit {0}
IsMode Behind = Unit {0}
IsMode (Done t) = Unit {0}
IsMode (Width width) = (1 ≤ width) × (width ≤ MOST_SHORT)
IsMode (Quote width) = (1 ≤ width) × (width ≤ MOST_SHORT)
IsMode (Value width number) = (1 ≤ width) × (width ≤ MOST_SHORT) × (number ≤ greatest_of width)
IsMode Hash = Unit {0}
IsMode (Number number) = number ≤ GREATEST_ALTERNATIVE
IsMode (Name name at) = name_run (Some Front) name ≡ Some at
IsMode (NameEnd name) = IsLabel name
IsMode (Octets octets high) = AreOctets octets × AreDigits octets high
IsMode (Slash octets) = AreOctets octets × (9 ≤ length octets) × (length octets ≤ MOST_OCTETS) × (last_octet octets % 2 ≡ 0)
IsMode (Bare b) = IsBits b × (length b ≤ MOST_BITS)

-- each row that has begun can take one tree more, but for the innermost tree
abbrev pub HasRoomBelow : List Frame → Type 0
HasRoomBelow [] = Unit {0}
HasRoomBelow (frame ∷ stack) = HasRoom stack

-- ---- a whole tree

-- after a whole tree: it ends the alternatives and labelled parts that it is the tree of
abbrev pub with_tree : List Frame → TreeV → State
with_tree [] t = state (Done t) []
with_tree (Row ts ∷ stack) t = state Behind (Row (ts ++ t ∷ []) ∷ stack)
with_tree (Alt j ∷ stack) t = with_tree stack (alt j t)
with_tree (Named l ∷ stack) t = with_tree stack (named l t)

-- whether the innermost tree that has begun is a row
abbrev pub is_in_row : List Frame → Bool
is_in_row [] = false
is_in_row (Row ts ∷ stack) = true
is_in_row (Alt j ∷ stack) = false
is_in_row (Named l ∷ stack) = false

-- a byte behind a tree of the innermost row
abbrev pub after_tree : List Frame → ℕ → Option State
after_tree [] byte = None
after_tree (Row ts ∷ stack) byte =
    if byte == 32 then Some (state Start (Row ts ∷ stack))
    else if byte == 93 then Some (with_tree stack (row (trees_of ts)))
    else None
after_tree (Alt j ∷ stack) byte = None
after_tree (Named l ∷ stack) byte = None

abbrev pub closed_at : Mode → List Frame → ℕ → Option State
closed_at Behind stack byte = after_tree stack byte
closed_at mode stack byte = None

-- a byte behind a whole tree
abbrev pub closed : List Frame → TreeV → ℕ → Option State
closed stack t byte = closed_at (with_tree stack t).mode (with_tree stack t).stack byte

-- ---- leaves

-- so many octets at least are more than 64 bits, whatever bits of the last one belong to them
abbrev pub are_many : List ℕ → Bool
are_many octets = nat_le 9 (length octets)

-- the value of a hexadecimal digit in upper case
abbrev pub upper_value : ℕ → Option ℕ
upper_value byte =
    if nat_le 48 byte && nat_le byte 57 then Some (byte - 48)
    else if nat_le 65 byte && nat_le byte 70 then Some (byte - 55)
    else None

-- octets of whose last one the first `used` bits belong to the leaf
abbrev pub cut_octets : List ℕ → ℕ → TreeV
cut_octets octets used = bits (take (8 * length octets - 8 + used) (bits_of_octets octets))

-- ---- where a tree begins

-- a tree that has another one inside can begin
abbrev pub inside : List Frame → Mode → Option State
inside stack mode = if nat_lt (length stack) MOST_ROUND then Some (state mode stack) else None

abbrev pub begun_b : Version → List Frame → State
begun_b First stack = state (Bare []) stack
begun_b Second stack = with_tree stack (bits [])

abbrev pub begun_x : Version → List Frame → Option State
begun_x First stack = None
begun_x Second stack = Some (state (Octets [] None) stack)

abbrev pub begun : Version → List Frame → ℕ → Option State
begun version stack byte =
    if byte == 46 then Some (with_tree stack empty)
    else if byte == 91 then Some (state Opened stack)
    else if byte == 35 then inside stack Hash
    else if byte == 60 then inside stack (Name [] Front)
    else if byte == 98 then Some (begun_b version stack)
    else if byte == 120 then begun_x version stack
    else if nat_le 49 byte && nat_le byte 57 then Some (state (Width (byte - 48)) stack)
    else None

-- ---- one byte more

abbrev pub may_end : NameAt → Bool
may_end Front = false
may_end Within = true
may_end Joint = false

abbrev pub after_name : List ℕ → NameAt → ℕ → Option Mode
after_name name at byte =
    if byte == 62 && may_end at then Some (NameEnd name)
    else option_map (Name (name ++ byte ∷ [])) (name_after at byte)

abbrev pub after_width : ℕ → ℕ → Option Mode
after_width width byte = if byte == 39 then Some (Quote width) else option_map Width (grown MOST_SHORT (Some width) byte)

abbrev pub after_quote : ℕ → ℕ → Option Mode
after_quote width byte = option_map (Value width) (grown (greatest_of width) None byte)

abbrev pub after_hash : Option ℕ → ℕ → Option Mode
after_hash number byte = option_map Number (grown GREATEST_ALTERNATIVE number byte)

abbrev pub after_number : Option ℕ → ℕ → ℕ → List Frame → ℕ → Option State
after_number (Some next) width number stack byte = Some (state (Value width next) stack)
after_number None width number stack byte = closed stack (bits (low_bits width number)) byte

abbrev pub after_high : List ℕ → ℕ → Option ℕ → Option Mode
after_high octets high None = None
after_high octets high (Some low) = Some (Octets (octets ++ (16 * high + low) ∷ []) None)

abbrev pub after_octets : List ℕ → Option ℕ → List Frame → ℕ → Option State
after_octets octets (Some high) stack byte =
    if nat_lt (length octets) MOST_OCTETS then Some (state (Octets octets (Some high)) stack) else None
after_octets octets None stack byte =
    if are_many octets then
    (if byte == 47 then (if last_octet octets % 2 == 0 then Some (state (Slash octets) stack) else None)
    else closed stack (cut_octets octets 8) byte)
    else None

abbrev pub after_digits : List ℕ → Option ℕ → List Frame → ℕ → Option State
after_digits octets None stack byte = after_octets octets (upper_value byte) stack byte
after_digits octets (Some high) stack byte = with_stack stack (after_high octets high (upper_value byte))

abbrev pub after_slash : List ℕ → List Frame → ℕ → Option State
after_slash octets stack byte =
    if (nat_le 49 byte && nat_le byte 55) && last_octet octets % 2 ^ (56 - byte) == 0
    then Some (with_tree stack (cut_octets octets (byte - 48))) else None

abbrev pub is_bit_digit : ℕ → Bool
is_bit_digit byte = nat_le 48 byte && nat_le byte 49

abbrev pub after_bits : List ℕ → List Frame → ℕ → Option State
after_bits b stack byte =
    if is_bit_digit byte then
    (if nat_lt (length b) MOST_BITS then Some (state (Bare (b ++ (byte - 48) ∷ [])) stack) else None)
    else if is_short b then None
    else closed stack (bits b) byte

abbrev pub after_bracket : Version → List Frame → ℕ → Option State
after_bracket version stack byte =
    if byte == 93 then Some (with_tree stack (row none))
    else if nat_lt (length stack) MOST_ROUND then begun version (Row [] ∷ stack) byte
    else None

abbrev pub after_alternative : ℕ → List Frame → ℕ → Option State
after_alternative number stack byte =
    if byte == 58 then Some (state Start (Alt number ∷ stack)) else with_stack stack (after_hash (Some number) byte)

abbrev pub after_name_end : List ℕ → List Frame → ℕ → Option State
after_name_end name stack byte = if byte == 61 then Some (state Start (Named name ∷ stack)) else None

abbrev pub step : Version → Mode → List Frame → ℕ → Option State
step version Start stack byte = begun version stack byte
step version Opened stack byte = after_bracket version stack byte
step version Behind stack byte = after_tree stack byte
step version (Done t) stack byte = None
step version (Width width) stack byte = with_stack stack (after_width width byte)
step version (Quote width) stack byte = with_stack stack (after_quote width byte)
step version (Value width number) stack byte = after_number (grown (greatest_of width) (Some number) byte) width number stack byte
step version Hash stack byte = with_stack stack (after_hash None byte)
step version (Number number) stack byte = after_alternative number stack byte
step version (Name name at) stack byte = with_stack stack (after_name name at byte)
step version (NameEnd name) stack byte = after_name_end name stack byte
step version (Octets octets high) stack byte = after_digits octets high stack byte
step version (Slash octets) stack byte = after_slash octets stack byte
step version (Bare b) stack byte = after_bits b stack byte

-- ---- many bytes, and the end

abbrev pub step_from : Version → Option State → ℕ → Option State
step_from version None byte = None
step_from version (Some s) byte = step version s.mode s.stack byte

abbrev pub steps : Version → Option State → List ℕ → Option State
steps version s [] = s
steps version s (byte ∷ rest) = steps version (step_from version s byte) rest

abbrev pub root_at : Mode → Option TreeV
root_at (Done t) = Some t
root_at mode = None

abbrev pub root_of : State → Option TreeV
root_of s = root_at s.mode

abbrev pub ended_octets : List ℕ → Option ℕ → List Frame → Option TreeV
ended_octets octets None stack = if are_many octets then root_of (with_tree stack (cut_octets octets 8)) else None
ended_octets octets (Some high) stack = None

-- the tree of the whole text, at its end
abbrev pub ended : Mode → List Frame → Option TreeV
ended (Done t) stack = Some t
ended (Value width number) stack = root_of (with_tree stack (bits (low_bits width number)))
ended (Octets octets high) stack = ended_octets octets high stack
ended (Bare b) stack = if is_short b then None else root_of (with_tree stack (bits b))
ended mode stack = None
