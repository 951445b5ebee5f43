-- What is written of numbers, places and text. (This project's own choice.)
use Rattle.std.specs.Prelude.{◌≡◌, ℕ, ◌/◌, ◌%◌, true, List, [], ◌∷◌, ◌++◌, codes, length, ◌==◌, nat_lt, if◌then◌else◌}
use Rattle.std.specs.Fmt.{decimal, digit_glyph}

-- what was written stays, and text may stand behind it
abbrev pub HasGrown : List ℕ → List ℕ → Type 0
HasGrown old new = (text : List ℕ) × (new ≡ old ++ text)

-- an octet as two hexadecimal digits
abbrev pub octet_text : ℕ → List ℕ
octet_text octet = digit_glyph true (octet / 16) ∷ digit_glyph true (octet % 16) ∷ []

-- a place of a block as its octet and the bit in it
abbrev pub place_text : ℕ → List ℕ
place_text place = decimal (place / 8) ++ 46 ∷ decimal (place % 8)

-- what is answered to so many bits that are refused at a place
abbrev pub verdict_text : ℕ → ℕ → List ℕ
verdict_text place bits = codes "no " ++ (decimal place ++ (if nat_lt place bits then codes " bit" else codes " ended"))

-- a number and a noun, with an `s` behind it unless the number is 1
abbrev pub counted_text : ℕ → List ℕ → List ℕ
counted_text count noun = decimal count ++ 32 ∷ (noun ++ (if count == 1 then [] else 115 ∷ []))

-- a byte in HTML
abbrev pub html_byte : ℕ → List ℕ
html_byte byte =
    if byte == 38 then codes "&amp;"
    else (if byte == 60 then codes "&lt;"
    else (if byte == 62 then codes "&gt;"
    else (if byte == 34 then codes "&quot;" else byte ∷ [])))

-- text in HTML
abbrev pub html_text : List ℕ → List ℕ
html_text [] = []
html_text (byte ∷ rest) = html_byte byte ++ html_text rest

-- a way as it is told, which is a dot for the root
abbrev pub named_way : List ℕ → List ℕ
named_way text = if nat_lt 0 (length text) then text else 46 ∷ []
