-- How held bits stand to the alternatives of a choice, for the contracts of the functions that go through them.
use Rattle.std.specs.Prelude.{◌≡◌, ℕ, Bool, ◌↔◌, List, slice_get, Option, Some, None, IsTrue}
use Rattle.csn_look.specs.declared.key_table.Begins.{Begins}
use Rattle.csn_look.specs.declared.key_table.Begins.TheVariants as answer
use Rattle.csn_desc.specs.Nodes.{DescV}
use Rattle.csn_certify.specs.Conflicts.{IsNull}
use Rattle.csn_certify.specs.Picks.{BeginsWithKey, BeginsKey}

module _ (d : DescV) (parts : List ℕ) where
  -- the alternative j takes no bits
  pub record IsNone (j : ℕ) : Type 0 where
    pub part : ℕ
    pub is_part : slice_get parts j ≡ Some part
    pub is_null : IsNull d part

  module _ (octet : ℕ) (held : List ℕ) where
    -- the held bits are the beginning of a key of the alternative j, and not all of it
    pub record BeginsKeyOf (j : ℕ) : Type 0 where
      pub key : BeginsKey d 12 parts octet held
      pub its : key.j ≡ j

    -- what is told of the alternative j: that it takes no bits, or how the held bits stand to its keys
    abbrev pub StandsTo : ℕ → Option Begins → Type 0
    StandsTo j None = IsNone j
    StandsTo j (Some answer.Key) = BeginsWithKey d 12 parts octet held j
    StandsTo j (Some answer.Proper) = (¬ IsNone j) × (¬ BeginsWithKey d 12 parts octet held j) × BeginsKeyOf j
    StandsTo j (Some answer.Neither) =
        (¬ IsNone j) × (¬ BeginsWithKey d 12 parts octet held j) × (¬ BeginsKeyOf j)

    -- the held bits begin with no key; `none` is an alternative that takes no bits, where there is one, and
    -- `begun` says whether they are the beginning of a key
    pub record AreWithoutKey (none : Option ℕ) (begun : Bool) : Type 0 where
      pub no_key : (j : ℕ) → ¬ BeginsWithKey d 12 parts octet held j
      pub is_none : (j : ℕ) → none ≡ Some j → IsNone j
      pub no_none : none ≡ None → (j : ℕ) → ¬ IsNone j
      pub begins : IsTrue begun ↔ BeginsKey d 12 parts octet held
