-- Small descriptions and their conflicts.
use Rattle.std.specs.Prelude.{[], ◌∷◌, true, false, refl}
use Rattle.std.proofs.Common.{lit<, lit≤, inl}
use Rattle.csn_desc.specs.declared.reading.Reading.TheVariants.{Received}
use Rattle.csn_desc.specs.declared.symbol.Symbol.TheVariants.{Zero, One}
use Rattle.csn_desc.specs.declared.node.Count.TheVariants.{Fixed}
use Rattle.csn_desc.specs.declared.node.Node.TheVariants.{Lits, Field, Seq, Choice, Named}
use Rattle.csn_desc.specs.Nodes.{DescV}
use Rattle.csn_look.specs.Keys.{InKeys, keys_lits, keys_seq, keys_named, keys_field, parts_whole, parts_none, kept}
use Rattle.csn_look.specs.Reached.{reached_root}
use Rattle.csn_look.proofs.Meaning.LeastSets.{keys_at}
use Rattle.csn_certify.specs.declared.conflict.Conflict.TheVariants.{Overlap}
use Rattle.csn_certify.specs.declared.pick.Pick.TheVariants.{Take, Wait}
use Rattle.csn_certify.specs.Conflicts.{IsConflict, overlap, Certified}
use Rattle.csn_certify.specs.Picks.{Picks}

-- { 0 1 | 0 <A : bit> }
abbrev either_from_zero : DescV
either_from_zero =
    record {
      reading = Received;
      nodes =
          Choice (1 ∷ 4 ∷ [])
          ∷ Seq (2 ∷ 3 ∷ []) ∷ Lits (Zero ∷ []) ∷ Lits (One ∷ [])
          ∷ Seq (5 ∷ 6 ∷ []) ∷ Lits (Zero ∷ []) ∷ Named (65 ∷ []) 7 ∷ Field 1 (Fixed 1) ∷ [];
    }

-- 01 is a key of both alternatives
left_key : InKeys either_from_zero 12 1 0 (0 ∷ 1 ∷ []) true
left_key =
    keys_at _ refl (keys_seq (
    parts_whole (0 ∷ []) (1 ∷ []) true (keys_at _ refl (keys_lits (kept (lit≤ tt) refl refl)))
    (parts_whole (1 ∷ []) [] true (keys_at _ refl (keys_lits (kept (lit≤ tt) refl refl))) (parts_none refl refl) (kept (lit≤ tt) refl refl))
    (kept (lit≤ tt) refl refl)))

right_key : InKeys either_from_zero 12 4 0 (0 ∷ 1 ∷ []) true
right_key =
    keys_at _ refl (keys_seq (
    parts_whole (0 ∷ []) (1 ∷ []) true (keys_at _ refl (keys_lits (kept (lit≤ tt) refl refl)))
    (parts_whole (1 ∷ []) [] true
    (keys_at _ refl
    (keys_named (keys_at _ refl (keys_field (1 ∷ []) refl (lit≤ tt, tt) (kept (lit≤ tt) refl refl)))))
    (parts_none refl refl) (kept (lit≤ tt) refl refl))
    (kept (lit≤ tt) refl refl)))

-- so they overlap
both_begin_alike : IsConflict either_from_zero 12 (Overlap 0 0 0 1 (0 ∷ 1 ∷ []) (0 ∷ 1 ∷ []))
both_begin_alike =
    overlap true true refl (reached_root refl refl) (lit< tt) refl refl (λ null. cc) (λ null. cc) left_key right_key (inl ([], refl))

-- ---- a certified description

-- { 0 | 1 }
abbrev pub zero_or_one : DescV
zero_or_one =
    record {
      reading = Received;
      nodes = Choice (1 ∷ 2 ∷ []) ∷ Lits (Zero ∷ []) ∷ Lits (One ∷ []) ∷ [];
    }

abbrev pub IsCertified : Type 0
IsCertified = Certified zero_or_one 12

-- the bit 1 is that of the second alternative, and with no bit one is needed
abbrev pub PicksTheSecond : Type 0
PicksTheSecond = Picks zero_or_one 12 0 0 (1 ∷ []) false (Take 1)

abbrev pub NeedsABit : Type 0
NeedsABit = Picks zero_or_one 12 0 0 [] false Wait
