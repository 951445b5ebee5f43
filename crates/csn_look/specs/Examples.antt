-- Small descriptions and what look-ahead knows of them.
use Rattle.std.specs.Prelude.{[], ◌∷◌, true, refl}
use Rattle.std.proofs.Common.{lit≤}
use Rattle.csn_desc.specs.declared.reading.Reading.TheVariants.{Received}
use Rattle.csn_desc.specs.declared.symbol.Symbol.TheVariants.{Zero, Low}
use Rattle.csn_desc.specs.declared.node.Count.TheVariants.{Fixed}
use Rattle.csn_desc.specs.declared.node.Node.TheVariants.{Lits, Field, Many, Named}
use Rattle.csn_desc.specs.Nodes.{DescV}
use Rattle.csn_look.specs.Ends.{InEnds, many_next, many_end, ends_lits}
use Rattle.csn_look.specs.Starts.{InStart, starts_lits}
use Rattle.csn_look.specs.Keys.{InKeys, keys_named, keys_field, kept}
use Rattle.csn_look.specs.Reached.{Reached, reached_root, reached_part, reached_many}

-- <A : bit>
abbrev one_bit : DescV
one_bit = record { reading = Received; nodes = Named (65 ∷ []) 1 ∷ Field 1 (Fixed 1) ∷ [] }

-- its keys are 0 and 1, both whole: the field has them in the first round, and the labelled part in the second
zero_is_key : InKeys one_bit 12 0 0 (0 ∷ []) true
zero_is_key = record {
  rounds = 2;
  made = record {
    node = _;
    at = refl;
    has = keys_named (record { node = _; at = refl; has = keys_field (0 ∷ []) refl (lit≤ tt, tt) (kept (lit≤ tt) refl refl) });
  };
}

one_is_key : InKeys one_bit 12 0 0 (1 ∷ []) true
one_is_key = record {
  rounds = 2;
  made = record {
    node = _;
    at = refl;
    has = keys_named (record { node = _; at = refl; has = keys_field (1 ∷ []) refl (lit≤ tt, tt) (kept (lit≤ tt) refl refl) });
  };
}

-- { L0L } **
abbrev triples : DescV
triples = record { reading = Received; nodes = Many 1 ∷ Lits (Low ∷ Zero ∷ Low ∷ []) ∷ [] }

-- L is 0 at the octet position 0 and 1 at the octet position 6, where a third repetition may begin
begins_with_zero : InStart triples 1 0 0
begins_with_zero = record { rounds = 1; made = record { node = _; at = refl; has = starts_lits refl } }

first_ends : InEnds triples 1 0 3
first_ends = record { rounds = 1; made = record { node = _; at = refl; has = ends_lits refl } }

second_ends : InEnds triples 1 3 6
second_ends = record { rounds = 1; made = record { node = _; at = refl; has = ends_lits refl } }

third_is_reached : Reached triples 1 6
third_is_reached = reached_part 0 0 _ [] [] refl refl (reached_root refl refl)
    (reached_many (many_next 3 first_ends (many_next 6 second_ends (many_end refl))))

third_begins_with_one : InStart triples 1 6 1
third_begins_with_one = record { rounds = 1; made = record { node = _; at = refl; has = starts_lits refl } }
