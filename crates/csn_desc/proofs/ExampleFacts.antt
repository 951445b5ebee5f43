-- The worked examples.
use Rattle.std.proofs.Common.{◌≡◌, ℕ, ◌*◌, ◌≤◌, List, [], ◌∷◌, ◌++◌, length, refl, Some, lit≤, lit<, inl}
use Rattle.std.specs.Prelude.{slice_get, map}
use Rattle.csn_bits.specs.Octets.{IsBits}
use Rattle.csn_desc.specs.declared.symbol.Symbol.{Symbol}
use Rattle.csn_desc.specs.declared.node.Count.{Count}
use Rattle.csn_desc.specs.declared.node.Node.TheVariants.{Lits, Pad, Field, Named}
use Rattle.csn_desc.specs.TreeV.{TreeV, empty, bits, row, named, trees_of}
use Rattle.csn_desc.specs.Nodes.{DescV}
use Rattle.csn_desc.specs.Spelled.{spelled}
use Rattle.csn_desc.specs.Values.{Values, count_of}
use Rattle.csn_desc.specs.Means.{NMeans, NodeMeans, means_at, means_lits, means_pad, means_field, means_seq}
use Rattle.csn_desc.specs.Means.{means_many, means_cut, means_trunc, means_window, means_named, parts_end, parts_next}
use Rattle.csn_desc.specs.Means.{many_end, many_next, lead_last, lead_next}
use Rattle.csn_desc.specs.Walks.{Walk, walk_at, walk_lits, walk_field, walk_seq, walk_named}
use Rattle.csn_desc.specs.Walks as walk
use Rattle.csn_desc.specs.declared.moves.Move.TheVariants.{Enter, Bit, Leave}
use Rattle.csn_desc.specs.Formed.{spans, span_end, span_next, formed, formed_end, formed_next}
use Rattle.csn_desc.specs.Examples.{A, fields, A5HasItsTree, TreeOfA5HasItsMoves, FieldsAreADescription}
use Rattle.csn_desc.specs.Examples.{PaddingGoesByReading, counted, CountsGoByValue, window, PlacesGoOnInWindows}
use Rattle.csn_desc.specs.Examples.{truncated, TruncationsTakeFirstParts, repeated, RepetitionsHaveARow, sent}
use Rattle.csn_desc.proofs.Nodewise.{meaning_at}

o : 0 ≤ 1
o = lit≤ tt

l : 1 ≤ 1
l = lit≤ tt

-- a labelled field, and a literal
labelled : (d : DescV) {i p at : ℕ} {v : Values} {label : List ℕ} {count : Count} (n : ℕ) (b : List ℕ)
    → slice_get d.nodes i ≡ Some (Named label p) → slice_get d.nodes p ≡ Some (Field 1 count)
    → count_of v count ≡ Some n → length b ≡ 1 * n → IsBits b → NMeans d i at v b (named label (bits b))
labelled d n b named_at field_at counts wide are = means_at _ named_at (means_named (means_at _ field_at (means_field n counts wide are)))

literal : (d : DescV) {i at : ℕ} {v : Values} {run : List Symbol} (b : List ℕ) → slice_get d.nodes i ≡ Some (Lits run)
    → b ≡ spelled run at → NMeans d i at v b empty
literal d b is spells = means_at _ is (means_lits spells)

pub a5_has_its_tree : A5HasItsTree
a5_has_its_tree =
    means_at _ refl (means_seq
    (parts_next (1 ∷ 0 ∷ 1 ∷ []) _ refl (labelled fields 3 (1 ∷ 0 ∷ 1 ∷ []) refl refl refl refl (l, (o, (l, tt))))
    (parts_next (0 ∷ []) _ refl (literal fields (0 ∷ []) refl refl)
    (parts_next (0 ∷ 1 ∷ 0 ∷ 1 ∷ []) [] refl (labelled fields 4 (0 ∷ 1 ∷ 0 ∷ 1 ∷ []) refl refl refl refl (o, (l, (o, (l, tt)))))
    (parts_end refl)))))

padding_of : (d : DescV) (b : List ℕ) (t : TreeV) → slice_get d.nodes 0 ≡ Some Pad → NodeMeans d Pad 6 [] b t → NMeans d 0 6 [] b t
padding_of d b t at h = means_at Pad at h

not_sent : (t : TreeV) → NodeMeans (sent (Pad ∷ [])) Pad 6 [] (1 ∷ 0 ∷ []) t → ⊥
not_sent t (means_pad some is) = cc

pub padding_goes_by_reading : PaddingGoesByReading
padding_goes_by_reading =
    (means_at _ refl (means_pad (lit< tt) (l, (o, tt))), means_at _ refl (means_pad (lit< tt) refl), λ t h. not_sent t (meaning_at (sent (Pad ∷ [])) refl h))

pub counts_go_by_value : CountsGoByValue
counts_go_by_value =
    means_at _ refl (means_seq
    (parts_next (1 ∷ 1 ∷ []) _ refl (labelled counted 2 (1 ∷ 1 ∷ []) refl refl refl refl (l, (l, tt)))
    (parts_next (0 ∷ 1 ∷ 0 ∷ 0 ∷ []) [] refl (labelled counted 4 (0 ∷ 1 ∷ 0 ∷ 0 ∷ []) refl refl refl refl (o, (l, (o, (o, tt)))))
    (parts_end refl))))

pub places_go_on_in_windows : PlacesGoOnInWindows
places_go_on_in_windows =
    means_at _ refl (means_seq
    (parts_next (0 ∷ 0 ∷ []) _ refl (labelled window 2 (0 ∷ 0 ∷ []) refl refl refl refl (o, (o, tt)))
    (parts_next (1 ∷ 1 ∷ []) [] refl (means_at _ refl (means_window 2 refl refl (literal window (1 ∷ 1 ∷ []) refl refl)))
    (parts_end refl))))

first_component : {at : ℕ} → NMeans truncated 1 at [] (0 ∷ 1 ∷ []) (named A (bits (0 ∷ 1 ∷ [])))
first_component = labelled truncated 2 (0 ∷ 1 ∷ []) refl refl refl refl (o, (l, tt))

pub truncations_take_first_parts : TruncationsTakeFirstParts
truncations_take_first_parts = (
  means_at _ refl (means_cut refl),
  means_at _ refl (means_trunc (lead_last (lit< tt) first_component)),
  means_at _ refl (means_trunc (lead_next (0 ∷ 1 ∷ []) (1 ∷ 1 ∷ []) refl first_component
      (lead_last (lit< tt) (labelled truncated 2 (1 ∷ 1 ∷ []) refl refl refl refl (l, (l, tt)))))),
)

-- one turn of the repetition
turn : (at bit : ℕ) → bit ≤ 1 → NMeans repeated 1 at [] (1 ∷ bit ∷ []) (row (trees_of (empty ∷ named A (bits (bit ∷ [])) ∷ [])))
turn at bit small =
    means_at _ refl (means_seq
    (parts_next (1 ∷ []) (bit ∷ []) refl (literal repeated (1 ∷ []) refl refl)
    (parts_next (bit ∷ []) [] refl (labelled repeated 1 (bit ∷ []) refl refl refl refl (small, tt)) (parts_end refl))))

pub repetitions_have_a_row : RepetitionsHaveARow
repetitions_have_a_row =
    means_at _ refl (means_many
    (many_next (1 ∷ 0 ∷ []) (1 ∷ 1 ∷ []) refl (lit< tt) (turn 0 0 o)
    (many_next (1 ∷ 1 ∷ []) [] refl (lit< tt) (turn 2 1 l) (many_end refl))))

-- ---- the moves of the first tree, and that its description is well formed

labelled_walk : (d : DescV) {i p at : ℕ} {label : List ℕ} {count : Count} (b : List ℕ)
    → slice_get d.nodes i ≡ Some (Named label p) → slice_get d.nodes p ≡ Some (Field 1 count)
    → Walk d i at (named label (bits b)) (Enter i ∷ ((Enter p ∷ (map Bit b ++ Leave ∷ [])) ++ Leave ∷ []))
labelled_walk d b named_at field_at = walk_at _ _ named_at (walk_named (walk_at _ _ field_at (walk_field refl) refl)) refl

pub tree_of_a5_has_its_moves : TreeOfA5HasItsMoves
tree_of_a5_has_its_moves =
    walk_at _ _ refl (walk_seq
    (walk.parts_next _ _ refl (labelled_walk fields (1 ∷ 0 ∷ 1 ∷ []) refl refl)
    (walk.parts_next _ _ refl (walk_at _ _ refl (walk_lits refl) refl)
    (walk.parts_next _ [] refl (labelled_walk fields (0 ∷ 1 ∷ 0 ∷ 1 ∷ []) refl refl) (walk.parts_end refl))))) refl

pub fields_are_a_description : FieldsAreADescription
fields_are_a_description =
    record {
      few = lit≤ tt;
      numbered =
          spans _ refl
          (span_next 3 refl (spans _ refl (span_next 3 refl (spans _ refl (span_end refl)) (span_end refl)))
          (span_next 4 refl (spans _ refl (span_end refl))
          (span_next 6 refl (spans _ refl (span_next 6 refl (spans _ refl (span_end refl)) (span_end refl)))
          (span_end refl))));
      well_formed =
          formed _ refl (lit< tt) tt (lit≤ tt) (λ h. cc)
          (formed_next (formed _ refl (lit< tt) tt refl (λ h. cc)
          (formed_next (formed _ refl (lit< tt) (inl refl, (lit≤ tt, lit≤ tt)) refl (λ h. cc) formed_end)
          formed_end))
          (formed_next (formed _ refl (lit< tt) (lit≤ tt) refl (λ h. cc) formed_end)
          (formed_next (formed _ refl (lit< tt) tt refl (λ h. cc)
          (formed_next (formed _ refl (lit< tt) (inl refl, (lit≤ tt, lit≤ tt)) refl (λ h. cc) formed_end)
          formed_end))
          formed_end)));
    }
