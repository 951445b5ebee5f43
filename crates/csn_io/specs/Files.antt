-- Files in memory by their names. (This project's own choice.)
use Rattle.std.specs.Prelude.{ℕ, List, Option, String, Vec}
use Rattle.std.specs.Option.{option_map}
use Rattle.std.specs.BTreeMap.{BTreeMap, get_by_text}

-- the bytes of the file with a name, if there is one
abbrev pub file_of : {A B : Type 0} → BTreeMap (String A) (Vec ℕ B) → List ℕ → Option (List ℕ)
file_of files name = option_map (λ file. file.items) (get_by_text files name)
