-- How a text that is being written is kept: what is written, and the last bits of the leaf that is open as a number.
-- (This project's own choice.)
use Rattle.std.specs.Prelude.{◌≡◌, ℕ, ◌+◌, ◌%◌, ◌<◌, Bool, true, false, List, [], ◌++◌, length}
use Rattle.hex.specs.Hex.{encode_upper}
use Rattle.csn_bits.specs.Octets.{IsBits, octets_of}
use Rattle.csn_bits.specs.Numbers.{number_of}
use Rattle.csn_json.specs.declared.form.TreeForm.{TreeForm}
use Rattle.csn_movetext.specs.declared.writing.Writing.{Writing}
use Rattle.csn_json.specs.Forms.{octets_sign}
use Rattle.csn_movetext.specs.Writing.{WritingV}

-- what is written ahead of a leaf that has more than 64 bits, where these are its first ones
abbrev pub begun : TreeForm → Bool → List ℕ → List ℕ
begun form false front = []
begun form true front = octets_sign form ++ encode_upper (octets_of front)

-- bits are written ahead only where there are more than 64
abbrev pub IsFront : Bool → List ℕ → List ℕ → Type 0
IsFront false front back = front ≡ []
IsFront true front back = 64 < length front + length back

-- what is written, whether the last move left a node, whether the open leaf is written ahead, and how many bits of it
-- are held, with the number that they write
pub record KeptV : Type 0 where
  pub text : List ℕ
  pub left : Bool
  pub long : Bool
  pub held : ℕ
  pub bits : ℕ

abbrev pub kept_of : Writing → KeptV
kept_of s = record { text = s.out.items; left = s.left; long = s.long; held = s.held; bits = s.bits }

-- the bits of the open leaf are those that are written ahead, whole octets, and the held ones behind them
pub record Shows (form : TreeForm) (s : KeptV) (w : WritingV) : Type 0 where
  pub front : List ℕ
  pub back : List ℕ
  pub cut : w.gathered ≡ front ++ back
  pub octets : length front % 8 ≡ 0
  pub written_ahead : IsFront s.long front back
  pub written : s.text ≡ w.text ++ begun form s.long front
  pub count : s.held ≡ length back
  pub number : s.bits ≡ number_of back
  pub front_bits : IsBits front
  pub back_bits : IsBits back
  pub left_is : s.left ≡ w.left

-- the first octets of the held bits b, as many as there are whole ones, are written behind `before`
pub record Flushed (before text b : List ℕ) (held bits : ℕ) : Type 0 where
  pub front : List ℕ
  pub back : List ℕ
  pub cut : b ≡ front ++ back
  pub octets : length front % 8 ≡ 0
  pub written : text ≡ before ++ encode_upper (octets_of front)
  pub count : held ≡ length back
  pub number : bits ≡ number_of back
  pub front_bits : IsBits front
  pub back_bits : IsBits back

-- what is written before octets of a leaf, where others are written ahead or not
abbrev pub sign : TreeForm → Bool → List ℕ
sign form true = []
sign form false = octets_sign form

-- some bytes more stand behind a text
abbrev pub Extends : List ℕ → List ℕ → Type 0
Extends old new = (more : List ℕ) × (new ≡ old ++ more)
