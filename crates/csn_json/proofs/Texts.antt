-- Bytes, the value that they are, and the tree that it shows.
use Rattle.std.proofs.Common.{◌≡◌, List, ℕ, None, IsUtf8, refl, subst}
use Rattle.csn_desc.specs.TreeV.{TreeV}
use Rattle.serde_json.specs.Data.{Data}
use Rattle.serde_json.specs.Read.{read}
use Rattle.csn_json.specs.declared.fault.JsonFault.{JsonFault}
use Rattle.csn_json.specs.declared.fault.JsonFault.TheVariants.{NotJson, NotTree, NoMemory}
use Rattle.csn_json.specs.JsonTree.{JsonTree}
use Rattle.csn_json.specs.JsonText.{IsJson, JsonText, IsFaultOf}
use Rattle.csn_json.specs.Reading.{IsShown, Refuses}

pub is_text : (text : List ℕ) (value : Data) (t : TreeV) → IsJson text value → IsShown 0 value t → JsonText t text
is_text text value t json is = (value, json, record { fits = is.fits; parts = is.parts; shown = is.shown })

pub is_fault : (text : List ℕ) (value : Data) (fault : JsonFault)
    → IsJson text value → Refuses fault ((t : TreeV) → IsShown 0 value t → ⊥) → IsFaultOf text fault
is_fault text value NotJson json h = absurd h
is_fault text value NotTree json h = (value, json, λ t is. h t (record { fits = is.fits; parts = is.parts; shown = is.shown }))
is_fault text value NoMemory json h = tt

pub is_no_json : (text : List ℕ) → (IsUtf8 text → read text ≡ None) → (value : Data) → IsJson text value → ⊥
is_no_json text h value is = let nothing = h is.utf8 in let some = is.reads in absurd cc

-- bytes are one value
pub one_value : (text : List ℕ) (a b : Data) → IsJson text a → IsJson text b → a ≡ b
one_value text a b x y = let first = x.reads in let second = y.reads in cc

pub not_refused : (t : TreeV) (text : List ℕ) (fault : JsonFault) → JsonText t text → IsFaultOf text fault → fault ≡ NoMemory
not_refused t text NotJson shown fault = absurd (fault shown.0 shown.1)
not_refused t text NotTree shown fault = absurd (fault.2 t (subst (JsonTree t) (one_value text shown.0 fault.0 shown.1 fault.1) shown.2))
not_refused t text NoMemory shown fault = refl
