-- Texts that stand one after another in one list of bytes, each with its place, and behind some of them a label.
use Rattle.std.specs.Prelude.{◌≡◌, ℕ, ◌-◌, ◌<◌, ◌≤◌, List, ◌++◌, length, take, drop, map, slice_get, Option, Some, None, IfSome}
use Rattle.csn_json.specs.declared.form.TreeForm.{TreeForm}
use Rattle.csn_movetext.specs.declared.openings.Place.{Place}
use Rattle.csn_movetext.specs.declared.openings.Openings.TheInside.{Inside}
use Rattle.csn_movetext.specs.Openings.{OpeningsV, label_part}

-- the bytes at a place
abbrev pub bytes_at : List ℕ → Place → List ℕ
bytes_at pool place = take (place.end - place.start) (drop place.start pool)

-- the label with a number, where there is one
abbrev pub label_at : List (List ℕ) → Option ℕ → Option (List ℕ)
label_at labels None = None
label_at labels (Some number) = slice_get labels number

-- the bytes at a place, and the text of the label behind them
abbrev pub text_at : TreeForm → List ℕ → List (List ℕ) → Place → List ℕ
text_at form pool labels place = bytes_at pool place ++ label_part form (label_at labels place.label)

abbrev pub openings_of : Inside → OpeningsV
openings_of o =
    record {
      form = o.form;
      texts = map (text_at o.form o.pool.items o.labels.items) o.places.items;
      templates = o.templates.items;
    }

-- there is a label with this number, or none is meant
abbrev pub IsNumber : List (List ℕ) → Option ℕ → Type 0
IsNumber labels number = IfSome number (λ n. n < length labels)

-- a place lies in the bytes, and its label among the labels
pub record IsWithin (pool : List ℕ) (labels : List (List ℕ)) (place : Place) : Type 0 where
  pub order : place.start ≤ place.end
  pub bytes : place.end ≤ length pool
  pub label : IsNumber labels place.label

pub record ArePlaces (o : Inside) : Type 0 where
  pub within : (i : ℕ) (place : Place) → slice_get o.places.items i ≡ Some place → IsWithin o.pool.items o.labels.items place
