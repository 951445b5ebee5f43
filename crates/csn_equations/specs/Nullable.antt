-- Which nodes may have no bits, from which of their parts may: the equation of this set. (This project's own choice; the
-- kinds of node are the constructs of 3GPP TS 24.007 Annex B.)
use Rattle.std.specs.Prelude.{◌≡◌, ℕ, List, [], ◌∷◌, slice_get, Some}
use Rattle.csn_desc.specs.declared.node.Count.{Count}
use Rattle.csn_desc.specs.declared.node.Count.TheVariants.{Counted}
use Rattle.csn_desc.specs.declared.node.Node.{Node}
use Rattle.csn_desc.specs.declared.node.Node.TheVariants.{Null, Field, Rest, Seq, Choice, Times, Many, Trunc, Window, Named}

module _ (nullable : ℕ → Type 0) where
  -- each of the parts is nullable
  pub data AllNullable : List ℕ → Type 0 where
    all_end : AllNullable []
    all_next : {i : ℕ} {parts : List ℕ} → nullable i → AllNullable parts → AllNullable (i ∷ parts)

  pub data NodeNullable : Node → Type 0 where
    -- these are, whatever their parts
    nullable_null : NodeNullable Null
    nullable_rest : NodeNullable Rest
    nullable_many : {i : ℕ} → NodeNullable (Many i)
    nullable_trunc : {parts : List ℕ} → NodeNullable (Trunc parts)
    -- a field whose count may be 0
    nullable_field : {unit m field c : ℕ} → c ≡ 0 → NodeNullable (Field unit (Counted m field c))
    -- a repetition whose part is, or whose count may be 0
    nullable_times : {count : Count} {i : ℕ} → nullable i → NodeNullable (Times count i)
    nullable_no_times : {m field c i : ℕ} → c ≡ 0 → NodeNullable (Times (Counted m field c) i)
    -- a window whose length may be 0 and whose part is
    nullable_window :
        {unit m field c i : ℕ}
        → c ≡ 0 → nullable i
        → NodeNullable (Window unit (Counted m field c) i)
    -- a sequence of which all parts are, and a choice of which some part is
    nullable_seq : {parts : List ℕ} → AllNullable parts → NodeNullable (Seq parts)
    nullable_choice :
        {parts : List ℕ} {i : ℕ}
        (j : ℕ) → slice_get parts j ≡ Some i → nullable i
        → NodeNullable (Choice parts)
    nullable_named : {label : List ℕ} {i : ℕ} → nullable i → NodeNullable (Named label i)
