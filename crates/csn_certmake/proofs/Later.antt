-- Rows of patterns stay right when that of an earlier node is written.
use Rattle.std.proofs.Common.{◌≡◌, ◌≢◌, ℕ, zero, suc, ◌+◌, ◌%◌, ◌<◌, ◌≤◌, inl, inr, Bool, true, false, List, [], ◌∷◌}
use Rattle.std.proofs.Common.{length, map, flat_map, refl, sym, ap, ◌∙◌, subst, arith, slice_index_or, slice_get}
use Rattle.std.proofs.Common.{Some, get_or-set_same, get_or-set_other, ◌++◌}
use Rattle.std.specs.Prelude.{IsTrue}
use Rattle.std.specs.Ordering.{nat_cmp}
use Rattle.std.specs.FinSet as set
use Rattle.std.proofs.Math.ListN.{set}
use Rattle.std.proofs.lemmas.Bool.{cases_order}
use Rattle.csn_desc.specs.declared.reading.Reading.{Reading}
use Rattle.csn_desc.specs.declared.node.Node.{Node}
use Rattle.csn_desc.specs.declared.node.Node.TheVariants.{Lits, Spare, Pad, Null, Field, Rest, Seq, Choice, Times, Many, Trunc, Window, Named}
use Rattle.csn_desc.specs.declared.node.Count.{Count}
use Rattle.csn_desc.specs.declared.node.Count.TheVariants.{Fixed, Counted}
use Rattle.csn_desc.specs.Nodes.{DescV, parts_of}
use Rattle.csn_desc.specs.Formed.{IsDescription}
use Rattle.csn_desc.proofs.Numbering.{parts_later}
use Rattle.csn_cert.specs.PatternV.{PatternV}
use Rattle.csn_cert.specs.PatternText.{ComesBefore}
use Rattle.csn_cert.specs.CertificateV.{Rises}
use Rattle.csn_look.specs.Told.{OctetsAre}
use Rattle.csn_look.specs.Reached.{Reached}
use Rattle.csn_certmake.specs.Patterns.{joined, before_all, sequence_of, times_of, turns_of, choice_of, patterns_in}
use Rattle.csn_certmake.specs.Patterns.{patterns_at, node_patterns, HasSame, IsRow, AreRows}
use Rattle.csn_certmake.specs.Rows.{kept_if, IsReachedPart, IsInOrder, HasItsRow}

-- ---- what is made of the same patterns

flat_alike : (g h : PatternV → List PatternV) (xs : List PatternV) → ((x : PatternV) → g x ≡ h x) → flat_map g xs ≡ flat_map h xs
flat_alike g h [] same = refl
flat_alike g h (x ∷ xs) same = ap (λ l. l ++ flat_map g xs) (same x) ∙ ap (λ l. h x ++ l) (flat_alike g h xs same)

before_alike : (f g : ℕ → List PatternV) (octet : ℕ) (first : PatternV) → ((o : ℕ) → f o ≡ g o) → before_all f octet first ≡ before_all g octet first
before_alike f g octet first same = by_whole first.whole refl
  where
    by_whole : (b : Bool) → first.whole ≡ b → before_all f octet first ≡ before_all g octet first
    by_whole true is = rw is (ap (map (joined first)) (same ((octet + length first.marks) % 8)))
    by_whole false is = rw is refl

AreAlike : (f g : ℕ → ℕ → List PatternV) → List ℕ → Type 0
AreAlike f g parts = (j p : ℕ) → slice_get parts j ≡ Some p → (o : ℕ) → f p o ≡ g p o

sequence_alike : (f g : ℕ → ℕ → List PatternV) (parts : List ℕ) → AreAlike f g parts → (octet : ℕ) → sequence_of f parts octet ≡ sequence_of g parts octet
unfolding AreAlike
sequence_alike f g [] same octet = refl
sequence_alike f g (i ∷ parts) same octet =
    flat_alike (before_all (sequence_of f parts) octet) (before_all (sequence_of g parts) octet) (f i octet)
    (λ first. before_alike (sequence_of f parts) (sequence_of g parts) octet first (sequence_alike f g parts (λ j p there. same (suc j) p there)))
    ∙ ap (flat_map (before_all (sequence_of g parts) octet)) (same 0 i refl octet)

times_alike : (f g : ℕ → List PatternV) → ((o : ℕ) → f o ≡ g o) → (n octet : ℕ) → times_of f n octet ≡ times_of g n octet
times_alike f g same zero octet = refl
times_alike f g same (suc n) octet =
    flat_alike (before_all (times_of f n) octet) (before_all (times_of g n) octet) (f octet)
    (λ first. before_alike (times_of f n) (times_of g n) octet first (times_alike f g same n))
    ∙ ap (flat_map (before_all (times_of g n) octet)) (same octet)

turns_alike : (f g : ℕ → List PatternV) → ((o : ℕ) → f o ≡ g o) → (count : Count) (octet : ℕ) → turns_of f count octet ≡ turns_of g count octet
turns_alike f g same (Fixed n) octet = times_alike f g same n octet
turns_alike f g same (Counted m field k) octet = refl

choice_alike : (f g : ℕ → ℕ → List PatternV) (parts : List ℕ) → AreAlike f g parts → (octet : ℕ) → choice_of f parts octet ≡ choice_of g parts octet
unfolding AreAlike
choice_alike f g [] same octet = refl
choice_alike f g (i ∷ parts) same octet =
    ap (λ l. l ++ choice_of f parts octet) (same 0 i refl octet) ∙ ap (λ l. g i octet ++ l) (choice_alike f g parts (λ j p there. same (suc j) p there) octet)

node_alike : (reading : Reading) (rows others : List (List (List PatternV))) (n : Node)
    → AreAlike (patterns_at rows) (patterns_at others) (parts_of n) → (octet : ℕ)
    → node_patterns reading rows n octet ≡ node_patterns reading others n octet
unfolding AreAlike
node_alike reading rows others (Seq parts) same octet = sequence_alike (patterns_at rows) (patterns_at others) parts same octet
node_alike reading rows others (Choice parts) same octet = choice_alike (patterns_at rows) (patterns_at others) parts same octet
node_alike reading rows others (Times count i) same octet = turns_alike (patterns_at rows i) (patterns_at others i) (same 0 i refl) count octet
node_alike reading rows others (Named label i) same octet = same 0 i refl octet
node_alike reading rows others (Lits run) same octet = refl
node_alike reading rows others (Spare symbol) same octet = refl
node_alike reading rows others Pad same octet = refl
node_alike reading rows others Null same octet = refl
node_alike reading rows others (Field unit count) same octet = refl
node_alike reading rows others Rest same octet = refl
node_alike reading rows others (Many i) same octet = refl
node_alike reading rows others (Trunc parts) same octet = refl
node_alike reading rows others (Window unit count i) same octet = refl

-- ---- a row is written

other_row : (rows : List (List (List PatternV))) (at : ℕ) (row : List (List PatternV)) (j : ℕ)
    → at < j → slice_index_or (set rows at row) j [] ≡ slice_index_or rows j []
other_row rows at row j less = (let differ : j ≢ at = omega (arith, less) in get_or-set_other rows at j row [] differ)

-- the parts of a node not before the one that is written have the same rows
parts_alike : (d : DescV) (rows : List (List (List PatternV))) (at : ℕ) (row : List (List PatternV)) (j : ℕ)
    (n : Node) → IsDescription d → slice_get d.nodes j ≡ Some n → at ≤ j
    → AreAlike (patterns_at rows) (patterns_at (set rows at row)) (parts_of n)
unfolding AreAlike
parts_alike d rows at row j n is there low place p found o =
    let after : at < p = parts_later d j n (λ (k : ℕ). at < k) is there (λ k above inside. omega (arith, above, low)) place p found in
    ap (λ r. patterns_in r o) (sym (other_row rows at row p after))

row_kept : (d : DescV) (rows : List (List (List PatternV))) (at : ℕ) (row : List (List PatternV)) (j : ℕ)
    → IsDescription d → at < j → HasItsRow d rows j → HasItsRow d (set rows at row) j
row_kept d rows at row j is less has =
    let same : slice_index_or rows j [] ≡ slice_index_or (set rows at row) j [] = sym (other_row rows at row j less) in
    record {
      ordered = subst (λ (r : List (List PatternV)). IsInOrder r) same has.ordered;
      made = λ n octet there low reached.
          subst (λ (l : List PatternV). HasSame (patterns_at (set rows at row) j octet) l)
          (node_alike d.reading rows (set rows at row) n
          (parts_alike d rows at row j n is there (omega (arith, less))) octet)
          (subst (λ (r : List (List PatternV)). HasSame (patterns_in r octet) (node_patterns d.reading rows n octet))
          same (has.made n octet there low reached));
      none = λ octet low unreached. ap (λ r. patterns_in r octet) (sym same) ∙ has.none octet low unreached;
    }

-- the part of a row that is reached
kept_rises : (keep : Bool) (patterns : List PatternV) → Rises ComesBefore patterns → Rises ComesBefore (kept_if keep patterns)
kept_rises true patterns rises = rises
kept_rises false patterns rises = tt

kept_same : (keep : Bool) (P : Type 0) (patterns others : List PatternV) → (P → IsTrue keep)
    → P → HasSame patterns others → HasSame (kept_if keep patterns) others
kept_same true P patterns others tells holds same = same
kept_same false P patterns others tells holds same = (let never = tells holds in absurd (cc))

kept_none : (keep : Bool) (P : Type 0) (patterns : List PatternV) → (IsTrue keep → P) → ¬ P → kept_if keep patterns ≡ []
kept_none true P patterns tells never = absurd (never (tells refl))
kept_none false P patterns tells never = refl

row_new : (d : DescV) (rows : List (List (List PatternV))) (at : ℕ) (n : Node) (row part : List (List PatternV))
    (reached : set.FinSet nat_cmp) → at < length rows → IsDescription d → slice_get d.nodes at ≡ Some n
    → IsRow (node_patterns d.reading rows n) row → OctetsAre reached (Reached d at) → IsReachedPart row reached part
    → HasItsRow d (set rows at part) at
row_new d rows at n row part reached inside is there made octets kept =
    let same : part ≡ slice_index_or (set rows at part) at [] = sym (get_or-set_same rows at part [] inside) in
    record {
      ordered = subst (λ (r : List (List PatternV)). IsInOrder r) same (record {
        eight = kept.eight;
        rising = λ octet low. subst (λ (l : List PatternV). Rises ComesBefore l) (sym (kept.same octet low))
            (kept_rises (set.contains reached octet) (patterns_in row octet) (made.rising octet low));
      });
      made = λ m octet also low holds.
          let one : n ≡ m = cc in
          subst (λ (k : Node). HasSame (patterns_at (set rows at part) at octet) (node_patterns d.reading (set rows at part) k octet)) one
          (subst (λ (l : List PatternV). HasSame (patterns_at (set rows at part) at octet) l)
          (node_alike d.reading rows (set rows at part) n (parts_alike d rows at part at n is there (omega arith))
          octet)
          (subst (λ (r : List (List PatternV)). HasSame (patterns_in r octet) (node_patterns d.reading rows n octet)) same
          (subst (λ (l : List PatternV). HasSame l (node_patterns d.reading rows n octet)) (sym (kept.same octet low))
          (kept_same (set.contains reached octet) (Reached d at octet) (patterns_in row octet)
          (node_patterns d.reading rows n octet) (octets octet low).1 holds (made.same octet low)))));
      none = λ octet low never.
          ap (λ r. patterns_in r octet) (sym same) ∙ kept.same octet low ∙ kept_none (set.contains reached octet)
          (Reached d at octet) (patterns_in row octet) (octets octet low).0 never;
    }

-- one row more
pub rows_more : (d : DescV) (rows : List (List (List PatternV))) (at : ℕ) (n : Node) (row part : List (List PatternV))
    (reached : set.FinSet nat_cmp) → length rows ≡ length d.nodes → at < length d.nodes → IsDescription d
    → slice_get d.nodes at ≡ Some n → IsRow (node_patterns d.reading rows n) row → OctetsAre reached (Reached d at)
    → IsReachedPart row reached part → ((j : ℕ) → at < j → j < length d.nodes → HasItsRow d rows j) → (j : ℕ)
    → at ≤ j → j < length d.nodes → HasItsRow d (set rows at part) j
rows_more d rows at n row part reached same inside is there made octets kept later j low high =
    elim (cases_order at j) [
      | inl here ↦ subst (λ (k : ℕ). HasItsRow d (set rows at part) k) here
          (row_new d rows at n row part reached (omega (arith, same, inside)) is there made octets kept)
      | inr apart ↦ elim apart [
        | inl after ↦ row_kept d rows at part j is after (later j after high)
        | inr before ↦ absurd (omega (arith, low, before))
      ]
    ]

-- the parts of a node have rows, where all later nodes have
pub parts_have_rows : (d : DescV) (rows : List (List (List PatternV))) (at : ℕ) (n : Node)
    → length rows ≡ length d.nodes → IsDescription d → slice_get d.nodes at ≡ Some n
    → ((j : ℕ) → at < j → j < length d.nodes → HasItsRow d rows j) → AreRows rows (parts_of n)
parts_have_rows d rows at n same is there later =
    record {
      there = λ place i found. parts_later d at n (λ (k : ℕ). k < length rows) is there (λ k above inside. omega (arith, inside, same)) place i found;
      rows = λ place i found.
          let has : HasItsRow d rows i = parts_later d at n (HasItsRow d rows) is there later place i found in
          record {
            eight = has.ordered.eight;
            same = λ octet low p. (λ h. h, λ h. h);
            rising = has.ordered.rising;
          };
    }
