-- The widths of the bits of counted fields. Other crates cite this.
use Rattle.std.proofs.Common.{◌≡◌, ℕ, ◌*◌, List, length, refl, sym, ◌∙◌, ap, Some, Option}
use Rattle.std.specs.Prelude.{slice_get}
use Rattle.std.specs.Option.{option_and_then}
use Rattle.csn_desc.specs.declared.node.Count.TheVariants.{Fixed}
use Rattle.csn_desc.specs.declared.node.Node.{Node}
use Rattle.csn_desc.specs.declared.node.Node.TheVariants.{Field, Named}
use Rattle.csn_desc.specs.TreeV.{TreeV}
use Rattle.csn_desc.specs.Nodes.{DescV}
use Rattle.csn_desc.specs.Values.{Values}
use Rattle.csn_desc.specs.Means.{NMeans, NodeMeans, means_field, means_named}
use Rattle.csn_desc.specs.Formed.{width_of, labelled_part, value_width}
use Rattle.csn_desc.proofs.Nodewise.{meaning_at}

-- a labelled field of constant width has bits of that width
fixed_field : (d : DescV) {p o : ℕ} {v : Values} {b : List ℕ} {t : TreeV} (n : Option Node) (w : ℕ)
    → slice_get d.nodes p ≡ n → width_of n ≡ Some w → NMeans d p o v b t → length b ≡ w
fixed_field d (Some (Field unit (Fixed k))) w at is h = measured (meaning_at d at h)
  where
    measured : {o : ℕ} {v : Values} {b : List ℕ} {t : TreeV} → NodeMeans d (Field unit (Fixed k)) o v b t → length b ≡ w
    measured (means_field n counts wide are) = let same : k ≡ n = cc in let width : unit * k ≡ w = cc in wide ∙ ap (λ m. unit * m) (sym same) ∙ width
fixed_field d _ w at is h = cc

labelled_field : (d : DescV) {i o : ℕ} {v : Values} {b : List ℕ} {t : TreeV} (n : Option Node) (w : ℕ)
    → slice_get d.nodes i ≡ n → option_and_then (λ part. width_of (slice_get d.nodes part)) (labelled_part n) ≡ Some w
    → NMeans d i o v b t → length b ≡ w
labelled_field d (Some (Named label p)) w at is h = inner (meaning_at d at h)
  where
    inner : {o : ℕ} {v : Values} {b : List ℕ} {t : TreeV} → NodeMeans d (Named label p) o v b t → length b ≡ w
    inner (means_named h) = fixed_field d (slice_get d.nodes p) w refl is h
labelled_field d _ w at is h = cc

pub value_has_width : (d : DescV) {i o : ℕ} {v : Values} {b : List ℕ} {t : TreeV} (w : ℕ) → value_width d.nodes i ≡ Some w → NMeans d i o v b t → length b ≡ w
value_has_width d {i = i} w is h = labelled_field d (slice_get d.nodes i) w refl is h
