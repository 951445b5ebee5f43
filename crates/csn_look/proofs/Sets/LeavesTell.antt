-- What the sets tell that are made for nodes without parts, and for no parts.
use Rattle.std.proofs.Common.{◌≡◌, ℕ, ◌+◌, ◌%◌, ◌<◌, ◌≤◌, Bool, true, false, ◌↔◌, List, [], ◌∷◌, length, refl, sym, ◌∙◌, subst, arith, Some}
use Rattle.std.specs.Prelude.{slice_get, IsTrue}
use Rattle.std.specs.Ordering.{nat_cmp}
use Rattle.std.specs.FinSet as set
use Rattle.csn_desc.specs.declared.symbol.Symbol.{Symbol}
use Rattle.csn_desc.specs.declared.symbol.Symbol.TheVariants.{Low}
use Rattle.csn_desc.specs.declared.node.Node.{Node}
use Rattle.csn_desc.specs.declared.node.Node.TheVariants.{Lits, Spare, Pad, Null, Rest}
use Rattle.csn_desc.specs.Nodes.{DescV}
use Rattle.csn_desc.specs.Spelled.{spelled, symbol_bit, IsSpare}
use Rattle.csn_look.specs.declared.node_sets.NodeSets.{NodeSets}
use Rattle.csn_look.specs.declared.word.TheConstants.{MOST_WORD}
use Rattle.csn_look.specs.Told.{OctetsAre}
use Rattle.csn_look.specs.Sums.{Has}
use Rattle.csn_look.specs.NodeSets.{SetsAre, NodeSetsAre}
use Rattle.csn_look.specs.Nullable.{Nullable, nullable_null, nullable_rest, all_end}
use Rattle.csn_look.specs.Ends.{InEnds, NodeEnds, PartsEnd, LeadEnd, ends_lits, ends_spare, ends_null, ends_pad, ends_rest, parts_end, lead_end}
use Rattle.csn_look.specs.Starts.{InStart, NodeStarts, PartsStart, starts_lits, starts_spare, starts_pad, starts_rest}
use Rattle.csn_look.specs.Keys.{InKeys, NodeKeys, PartsKeys, keys_lits, keys_spare, keys_pad, keys_null, keys_rest, parts_none}
use Rattle.csn_look.proofs.Meaning.LeastSets.{nullable_at, as_nullable, ends_at, as_ends, starts_at, as_starts, keys_at, as_keys}
use Rattle.csn_look.proofs.Meaning.EmptyKeys.{cut_empty, empty_cut, one_is_some}
use Rattle.csn_look.proofs.Sets.Telling.{AnyOf, ChoiceSetsAre, LeadSetsAre, NoBits, Nothing, PartsSetsAre}
use Rattle.csn_look.proofs.Sets.Telling.{all_lengths, all_octets, both, falsity, no_lengths, no_octets, one_length}
use Rattle.csn_look.proofs.Sets.Telling.{retell, some_word, true_is_not, truth, zero_length}

module _ (d : DescV) where
  -- ---- the node with a number

  pub node_at : (i : ℕ) (n : Node) (sets : NodeSets) → slice_get d.nodes i ≡ Some n → NodeSetsAre d n sets → SetsAre d i sets
  node_at i n sets at t =
      retell t
      ((λ h. nullable_at n at h), (λ h. as_nullable at h))
      (λ o p small. ((λ h. ends_at n at h), (λ h. as_ends at h)))
      (λ o bit. ((λ h. starts_at n at h), (λ h. as_starts at h)))
      (λ mark. ((λ h. keys_at n at h), (λ h. as_keys at h)))

  -- ---- nodes without parts

  null_ends : {o p : ℕ} → NodeEnds d Null o p → p ≡ o
  null_ends (ends_null e) = e

  no_null_start : {o bit : ℕ} → NodeStarts d Null o bit → ⊥
  no_null_start h = elim h [ ]

  null_mark : {o : ℕ} {x : List ℕ} {mark : Bool} → NodeKeys d MOST_WORD Null o x mark → mark ≡ true
  null_mark (keys_null e m) = m

  no_parts_end : {o p : ℕ} → PartsEnd d [] o p → p ≡ o
  no_parts_end (parts_end e) = e

  no_parts_start : {o bit : ℕ} → PartsStart d [] o bit → ⊥
  no_parts_start h = elim h [ ]

  no_parts_mark : {o : ℕ} {x : List ℕ} {mark : Bool} → PartsKeys d MOST_WORD [] o x mark → mark ≡ true
  no_parts_mark (parts_none e m) = m

  pub no_parts : (s : NodeSets) → NoBits s → PartsSetsAre d [] s
  no_parts s n =
      record {
        nullable = truth n.nullable all_end;
        whole_empty = truth n.whole_empty (parts_none refl refl);
        cut_empty = falsity n.cut_empty (λ h. true_is_not (no_parts_mark h));
        lengths = λ o p small. both (zero_length s.lengths n.lengths o p small) ((λ h. parts_end h), (λ h. no_parts_end h));
        zero = no_octets s.zero (λ o. PartsStart d [] o 0) n.zero (λ o h. no_parts_start h);
        one = no_octets s.one (λ o. PartsStart d [] o 1) n.one (λ o h. no_parts_start h);
      }

  pub null_sets : (s : NodeSets) → NoBits s → NodeSetsAre d Null s
  null_sets s n =
      retell (no_parts s n)
      ((λ h. nullable_null), (λ h. all_end))
      (λ o p small. ((λ h. ends_null (no_parts_end h)), (λ h. parts_end (null_ends h))))
      (λ o bit. ((λ h. absurd (no_parts_start h)), (λ h. absurd (no_null_start h))))
      (λ mark. ((λ h. keys_null refl (no_parts_mark h)), (λ h. parts_none refl (null_mark h))))

  no_lead_end : {o p : ℕ} → LeadEnd d [] o p → p ≡ o
  no_lead_end (lead_end e) = e

  pub no_lead : (s : NodeSets) → NoBits s → LeadSetsAre d [] (record s { whole_empty = false; cut_empty = true })
  no_lead s n =
      let parts = no_parts s n in
      record {
        nullable = truth n.nullable tt;
        whole_empty = falsity refl (λ h. true_is_not (sym h));
        cut_empty = truth refl refl;
        lengths = λ o p small. both (parts.lengths o p small) ((λ h. lead_end (no_parts_end h)), (λ h. parts_end (no_lead_end h)));
        zero = parts.zero;
        one = parts.one;
      }

  none_of : (parts : List ℕ) (P : ℕ → Type 0) → AnyOf parts 0 P → ⊥
  none_of parts P (j, i, below, at, h) = absurd (omega (arith, below))

  pub no_choice : (parts : List ℕ) (s : NodeSets) → Nothing s → ChoiceSetsAre d parts 0 s
  no_choice parts s n =
      record {
        nullable = falsity n.nullable (λ h. none_of parts (λ i. Nullable d i) h);
        whole_empty = falsity n.whole_empty (λ h. none_of parts (λ i. InKeys d MOST_WORD i 0 [] true) h);
        cut_empty = falsity n.cut_empty (λ h. none_of parts (λ i. InKeys d MOST_WORD i 0 [] false) h);
        lengths = no_lengths s.lengths (λ o p. AnyOf parts 0 (λ i. InEnds d i o p)) n.lengths (λ o p h. none_of parts (λ i. InEnds d i o p) h);
        zero = no_octets s.zero (λ o. AnyOf parts 0 (λ i. InStart d i o 0)) n.zero (λ o h. none_of parts (λ i. InStart d i o 0) h);
        one = no_octets s.one (λ o. AnyOf parts 0 (λ i. InStart d i o 1)) n.one (λ o h. none_of parts (λ i. InStart d i o 1) h);
      }

  no_spare_key : {s : Symbol} {x : List ℕ} {mark : Bool} → NodeKeys d MOST_WORD (Spare s) 0 x mark → x ≡ [] → ⊥
  no_spare_key (keys_spare w one spare h) none = one_is_some w one (cut_empty some_word h none).word

  spare_end : {s : Symbol} {o p : ℕ} → NodeEnds d (Spare s) o p → p ≡ (o + 1) % 8
  spare_end (ends_spare e) = e

  spare_start : {s : Symbol} {o bit : ℕ} → NodeStarts d (Spare s) o bit → IsSpare d.reading s o (bit ∷ [])
  spare_start (starts_spare h) = h

  pub spare_sets : (symbol : Symbol) (s : NodeSets) → s.nullable ≡ false → s.whole_empty ≡ false → s.cut_empty ≡ false
      → s.lengths ≡ set.insert set.empty 1 → OctetsAre s.zero (λ o. IsSpare d.reading symbol o (0 ∷ []))
      → OctetsAre s.one (λ o. IsSpare d.reading symbol o (1 ∷ [])) → NodeSetsAre d (Spare symbol) s
  spare_sets symbol s n w c l z e =
      record {
        nullable = falsity n (λ h. elim h [ ]);
        whole_empty = falsity w (λ h. no_spare_key h refl);
        cut_empty = falsity c (λ h. no_spare_key h refl);
        lengths = λ o p small. both (one_length s.lengths 1 (omega arith) l o p small) ((λ h. ends_spare h), (λ h. spare_end h));
        zero = λ o small. both (z o small) ((λ h. starts_spare h), (λ h. spare_start h));
        one = λ o small. both (e o small) ((λ h. starts_spare h), (λ h. spare_start h));
      }

  no_pad_key : {x : List ℕ} {mark : Bool} → NodeKeys d MOST_WORD Pad 0 x mark → x ≡ [] → ⊥
  no_pad_key (keys_pad w one spare h) none = one_is_some w one (cut_empty some_word h none).word

  pad_end : {o p : ℕ} → NodeEnds d Pad o p → p < 8
  pad_end (ends_pad e) = e

  pad_start : {o bit : ℕ} → NodeStarts d Pad o bit → IsSpare d.reading Low o (bit ∷ [])
  pad_start (starts_pad h) = h

  pub pad_sets : (s : NodeSets) → s.nullable ≡ false → s.whole_empty ≡ false → s.cut_empty ≡ false
      → ((o : ℕ) → o ≤ 7 → Has s.lengths o) → OctetsAre s.zero (λ o. IsSpare d.reading Low o (0 ∷ []))
      → OctetsAre s.one (λ o. IsSpare d.reading Low o (1 ∷ [])) → NodeSetsAre d Pad s
  pad_sets s n w c l z e =
      record {
        nullable = falsity n (λ h. elim h [ ]);
        whole_empty = falsity w (λ h. no_pad_key h refl);
        cut_empty = falsity c (λ h. no_pad_key h refl);
        lengths = λ o p small. both (all_lengths s.lengths l o p small) ((λ h. ends_pad h), (λ h. pad_end h));
        zero = λ o small. both (z o small) ((λ h. starts_pad h), (λ h. pad_start h));
        one = λ o small. both (e o small) ((λ h. starts_pad h), (λ h. pad_start h));
      }

  no_rest_whole : {o : ℕ} {x : List ℕ} {mark : Bool} → NodeKeys d MOST_WORD Rest o x mark → mark ≡ true → ⊥
  no_rest_whole (keys_rest e m) h = cc

  rest_end : {o p : ℕ} → NodeEnds d Rest o p → p < 8
  rest_end (ends_rest e) = e

  pub rest_sets : (s : NodeSets) → s.nullable ≡ true → s.whole_empty ≡ false → s.cut_empty ≡ true
      → ((o : ℕ) → o ≤ 7 → Has s.lengths o) → ((o : ℕ) → o ≤ 7 → Has s.zero o) → ((o : ℕ) → o ≤ 7 → Has s.one o)
      → NodeSetsAre d Rest s
  rest_sets s n w c l z e =
      record {
        nullable = truth n nullable_rest;
        whole_empty = falsity w (λ h. no_rest_whole h refl);
        cut_empty = truth c (keys_rest refl refl);
        lengths = λ o p small. both (all_lengths s.lengths l o p small) ((λ h. ends_rest h), (λ h. rest_end h));
        zero = all_octets s.zero (λ o. NodeStarts d Rest o 0) z (λ o. starts_rest (omega arith));
        one = all_octets s.one (λ o. NodeStarts d Rest o 1) e (λ o. starts_rest (omega arith));
      }

  lits_end : {run : List Symbol} {o p : ℕ} → NodeEnds d (Lits run) o p → p ≡ (o + length run) % 8
  lits_end (ends_lits e) = e

  lits_key : {run : List Symbol} {o : ℕ} {x : List ℕ} {mark : Bool} → NodeKeys d MOST_WORD (Lits run) o x mark → x ≡ [] → (length run ≡ 0) × (mark ≡ true)
  lits_key {run} {o} (keys_lits h) none = let was = cut_empty some_word h none in (no_symbols run o was.word, was.same)
    where
      no_symbols : (run : List Symbol) (o : ℕ) → spelled run o ≡ [] → length run ≡ 0
      no_symbols [] o e = refl
      no_symbols (s ∷ run) o e = cc

  no_word : (run : List Symbol) → length run ≡ 0 → spelled run 0 ≡ []
  no_word [] e = refl
  no_word (s ∷ run) e = absurd (omega arith)

  pub lits_sets : (run : List Symbol) (s : NodeSets) → s.nullable ≡ false → (IsTrue s.whole_empty ↔ (length run ≡ 0))
      → s.cut_empty ≡ false → s.lengths ≡ set.insert set.empty (length run % 8)
      → OctetsAre s.zero (λ o. NodeStarts d (Lits run) o 0) → OctetsAre s.one (λ o. NodeStarts d (Lits run) o 1)
      → NodeSetsAre d (Lits run) s
  lits_sets run s n w c l z e =
      record {
        nullable = falsity n (λ h. elim h [ ]);
        whole_empty = both w ((λ h. keys_lits (empty_cut (spelled run 0) (no_word run h) refl)), (λ h. (lits_key h refl).0));
        cut_empty = falsity c (λ h. true_is_not ((lits_key h refl).1));
        lengths = λ o p small. both (one_length s.lengths (length run % 8) (omega arith) l o p small)
            ((λ h. ends_lits (h ∙ sum_of o (length run))), (λ h. lits_end h ∙ sym (sum_of o (length run))));
        zero = z;
        one = e;
      }
    where
      sum_of : (o k : ℕ) → (o + k % 8) % 8 ≡ (o + k) % 8
      sum_of o k = omega arith

  lits_start : {s : Symbol} {run : List Symbol} {o bit : ℕ} → NodeStarts d (Lits (s ∷ run)) o bit → bit ≡ symbol_bit s o
  lits_start (starts_lits e) = e

  pub no_lits_start : (run : List Symbol) (s : set.FinSet nat_cmp) (bit : ℕ) → length run ≡ 0 → s ≡ set.empty
      → OctetsAre s (λ o. NodeStarts d (Lits run) o bit)
  no_lits_start [] s bit e none = no_octets s (λ o. NodeStarts d (Lits []) o bit) none (λ o h. elim h [ ])
  no_lits_start (t ∷ run) s bit e none = absurd (omega arith)

  pub some_lits_start : (run : List Symbol) (t : Symbol) (s : set.FinSet nat_cmp) (bit : ℕ)
      → slice_get run 0 ≡ Some t → OctetsAre s (λ o. symbol_bit t o ≡ bit)
      → OctetsAre s (λ o. NodeStarts d (Lits run) o bit)
  some_lits_start [] t s bit at are = cc
  some_lits_start (u ∷ run) t s bit at are =
      let same : u ≡ t = cc in
      subst (λ v. OctetsAre s (λ o. NodeStarts d (Lits (v ∷ run)) o bit)) (sym same)
      (λ o small. both (are o small) ((λ h. starts_lits (sym h)), (λ h. sym (lits_start h))))
