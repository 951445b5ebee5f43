-- Trees that miss a description.
use Rattle.std.specs.Prelude.{[], ◌∷◌, refl}
use Rattle.std.proofs.Common.{lit≤, lit<}
use Rattle.csn_desc.specs.declared.reading.Reading.TheVariants.{Received}
use Rattle.csn_desc.specs.declared.symbol.Symbol.TheVariants.{Zero, One}
use Rattle.csn_desc.specs.declared.node.Count.TheVariants.{Fixed, Counted}
use Rattle.csn_desc.specs.declared.node.Node.TheVariants.{Lits, Spare, Field, Seq, Many, Trunc, Window, Named}
use Rattle.csn_desc.specs.TreeV.{TreeV, empty, bits, row, named, none, more}
use Rattle.csn_desc.specs.Nodes.{DescV}
use Rattle.csn_desc.specs.Means.{means_at, means_field, means_named, means_seq, means_many, means_spare, many_next, many_end, parts_next, parts_end}
use Rattle.csn_encode.specs.declared.misfit.MisfitWhy.TheVariants.{WrongCount, WrongWidth, WindowLength}
use Rattle.csn_encode.specs.Misfits.{IsMisfit, misses_at, misses_here, misses_named, misses_seq, wrong_field}
use Rattle.csn_encode.specs.Misfits.{wrong_window, idle_trunc, pieces_next, pieces_end}
use Rattle.csn_encode.specs.Misfits as miss

-- <A : bit (3)> 0 <B : bit (4)>
abbrev two_fields : DescV
two_fields =
    record {
      reading = Received;
      nodes = Seq (1 ∷ 3 ∷ 4 ∷ []) ∷ Named (65 ∷ []) 2 ∷ Field 1 (Fixed 3) ∷ Lits (Zero ∷ []) ∷ Named (66 ∷ []) 5 ∷ Field 1 (Fixed 4) ∷ [];
    }

-- its tree with four bits in the first field, of which it has three
wide : TreeV
wide =
    row (
    more (named (65 ∷ []) (bits (0 ∷ 1 ∷ 0 ∷ 1 ∷ []))) (
    more empty (
    more (named (66 ∷ []) (bits (0 ∷ 1 ∷ 0 ∷ 1 ∷ []))) none)))

is_wide : IsMisfit two_fields wide (0 ∷ 0 ∷ []) (WrongWidth 3 4)
unfolding wide
is_wide =
    misses_at _ refl (misses_seq refl (miss.parts_here (0 ∷ []) refl (
    misses_at _ refl (misses_named [] refl refl (misses_at _ refl (misses_here refl (wrong_field 3 refl (λ same. cc) refl)))))))

-- <L : bit(3)> { bit(val(L) + 1) & { <A : bit(2)> <spare bit> ** } } 1
abbrev windowed : DescV
windowed =
    record {
      reading = Received;
      nodes =
          Seq (1 ∷ 3 ∷ 9 ∷ []) ∷ Named (76 ∷ []) 2 ∷ Field 1 (Fixed 3)
          ∷ Window 1 (Counted 1 1 1) 4 ∷ Seq (5 ∷ 7 ∷ []) ∷ Named (65 ∷ []) 6 ∷ Field 1 (Fixed 2) ∷ Many 8 ∷ Spare Zero
          ∷ Lits (One ∷ []) ∷ [];
    }

-- three bits inside a window of two
overfull : TreeV
overfull =
    row (
    more (named (76 ∷ []) (bits (0 ∷ 0 ∷ 1 ∷ []))) (
    more (row (more (named (65 ∷ []) (bits (1 ∷ 1 ∷ []))) (more (row (more (bits (0 ∷ [])) none)) none))) (
    more empty none)))

is_overfull : IsMisfit windowed overfull (1 ∷ []) (WindowLength 2 3)
unfolding overfull
is_overfull =
    misses_at _ refl (misses_seq refl (
    miss.parts_later (0 ∷ 0 ∷ 1 ∷ [])
    (means_at _ refl (means_named (means_at _ refl (means_field 3 refl refl (lit≤ tt, (lit≤ tt, (lit≤ tt, tt))))))) (lit≤ tt)
    (miss.parts_here [] refl (misses_at _ refl (misses_here refl (
    wrong_window 2 (1 ∷ 1 ∷ 0 ∷ []) refl
    (means_at _ refl (means_seq (
    parts_next (1 ∷ 1 ∷ []) (0 ∷ []) refl
    (means_at _ refl (means_named (means_at _ refl (means_field 2 refl refl (lit≤ tt, (lit≤ tt, tt))))))
    (parts_next (0 ∷ []) [] refl
    (means_at _ refl (means_many (many_next (0 ∷ []) [] refl (lit< tt) (means_at _ refl (means_spare refl (lit≤ tt, tt))) (many_end refl))))
    (parts_end refl)))))
    (lit≤ tt) (λ same. cc) refl))))))

-- { <A : bit(2)> <spare bit> ** } //
abbrev cut_off : DescV
cut_off =
    record {
      reading = Received;
      nodes = Trunc (1 ∷ 3 ∷ []) ∷ Named (65 ∷ []) 2 ∷ Field 1 (Fixed 2) ∷ Many 4 ∷ Spare Zero ∷ [];
    }

-- the second tree has no bits, so that bits have the first one alone
idle : TreeV
idle = row (more (named (65 ∷ []) (bits (1 ∷ 1 ∷ []))) (more (row none) none))

is_idle : IsMisfit cut_off idle [] (WrongCount 1 2)
unfolding idle
is_idle =
    misses_at _ refl (misses_here refl (idle_trunc ((1 ∷ 1 ∷ []) ∷ [] ∷ [])
    (pieces_next (1 ∷ 1 ∷ []) ([] ∷ []) refl
    (means_at _ refl (means_named (means_at _ refl (means_field 2 refl refl (lit≤ tt, (lit≤ tt, tt)))))) (lit≤ tt)
    (pieces_next [] [] refl (means_at _ refl (means_many (many_end refl))) (lit≤ tt) (pieces_end refl)))
    (lit< tt) refl))
