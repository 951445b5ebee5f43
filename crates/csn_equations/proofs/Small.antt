-- The sets that equations make are of octet positions and of bits, where those of the parts are.
use Rattle.std.proofs.Common.{ℕ, ◌≤◌, List, [], ◌∷◌, arith}
use Rattle.csn_desc.specs.declared.reading.Reading.{Reading}
use Rattle.csn_desc.specs.declared.symbol.Symbol.{Symbol}
use Rattle.csn_desc.specs.declared.symbol.Symbol.TheVariants.{Low}
use Rattle.csn_desc.specs.declared.node.Node.{Node}
use Rattle.csn_desc.specs.Nodes.{DescV}
use Rattle.csn_desc.specs.Spelled.{IsSpare}
use Rattle.csn_desc.proofs.BitFacts.{symbol_bit-le-one, IsBits-spare}
use Rattle.csn_equations.specs.Ends.{PartsEnd, TimesEnd, ManyEnd, LeadEnd, NodeEnds, parts_end, parts_next, times_end}
use Rattle.csn_equations.specs.Ends.{times_next, many_end, many_next, lead_end, lead_next, ends_lits, ends_spare}
use Rattle.csn_equations.specs.Ends.{ends_null, ends_pad, ends_rest, ends_field, ends_window, ends_seq, ends_choice}
use Rattle.csn_equations.specs.Ends.{ends_times, ends_counted, ends_many, ends_trunc, ends_named}
use Rattle.csn_equations.specs.Starts.{PartsStart, NodeStarts, starts_here, starts_later, starts_lits, starts_spare}
use Rattle.csn_equations.specs.Starts.{starts_pad, starts_field, starts_rest, starts_seq, starts_trunc, starts_choice}
use Rattle.csn_equations.specs.Starts.{starts_times, starts_many, starts_window, starts_named}

-- an octet position leads to one
abbrev pub LeadsOn : ℕ → ℕ → Type 0
LeadsOn o p = o ≤ 7 → p ≤ 7

module _ (P : ℕ → ℕ → ℕ → Type 0) (small : (i o p : ℕ) → P i o p → LeadsOn o p) where
  pub parts_small : {parts : List ℕ} {o p : ℕ} → PartsEnd P parts o p → o ≤ 7 → p ≤ 7
  parts_small (parts_end e) low = omega arith
  parts_small (parts_next middle h others) low = parts_small others (small _ _ _ h low)

  pub times_small : {n i o p : ℕ} → TimesEnd P n i o p → o ≤ 7 → p ≤ 7
  times_small (times_end e f) low = omega arith
  times_small (times_next m middle e h others) low = times_small others (small _ _ _ h low)

  pub many_small : {i o p : ℕ} → ManyEnd P i o p → o ≤ 7 → p ≤ 7
  many_small (many_end e) low = omega arith
  many_small (many_next middle h others) low = many_small others (small _ _ _ h low)

  lead_small : {parts : List ℕ} {o p : ℕ} → LeadEnd P parts o p → o ≤ 7 → p ≤ 7
  lead_small (lead_end e) low = omega arith
  lead_small (lead_next middle h others) low = lead_small others (small _ _ _ h low)

  pub node_small : (d : DescV) {n : Node} {o p : ℕ} → NodeEnds d P n o p → o ≤ 7 → p ≤ 7
  node_small d (ends_lits e) low = omega arith
  node_small d (ends_spare e) low = omega arith
  node_small d (ends_null e) low = omega arith
  node_small d (ends_pad e) low = omega arith
  node_small d (ends_rest e) low = omega arith
  node_small d (ends_field n may e) low = omega arith
  node_small d (ends_window n may e) low = omega arith
  node_small d (ends_seq h) low = parts_small h low
  node_small d (ends_choice j at h) low = small _ _ _ h low
  node_small d (ends_times h) low = times_small h low
  node_small d (ends_counted h) low = many_small h low
  node_small d (ends_many h) low = many_small h low
  node_small d (ends_trunc h) low = lead_small h low
  node_small d (ends_named h) low = small _ _ _ h low

spare_bit : (reading : Reading) (s : Symbol) (o bit : ℕ) → IsSpare reading s o (bit ∷ []) → bit ≤ 1
spare_bit reading s o bit h = (IsBits-spare reading s o (bit ∷ []) h).0

module _ (nullable : ℕ → Type 0) (ends P : ℕ → ℕ → ℕ → Type 0) (one : (i o bit : ℕ) → P i o bit → bit ≤ 1) where
  pub parts_bit : {parts : List ℕ} {o bit : ℕ} → PartsStart nullable ends P parts o bit → bit ≤ 1
  parts_bit (starts_here h) = one _ _ _ h
  parts_bit (starts_later middle null over h) = parts_bit h

  pub node_bit : (d : DescV) {n : Node} {o bit : ℕ} → NodeStarts d nullable ends P n o bit → bit ≤ 1
  node_bit d {o = o} (starts_lits {s = s} is) = let low = symbol_bit-le-one s o in omega (arith, is, low)
  node_bit d {o = o} {bit = bit} (starts_spare {s = s} spare) = spare_bit d.reading s o bit spare
  node_bit d {o = o} {bit = bit} (starts_pad spare) = spare_bit d.reading Low o bit spare
  node_bit d (starts_field low) = low
  node_bit d (starts_rest low) = low
  node_bit d (starts_seq h) = parts_bit h
  node_bit d (starts_trunc h) = parts_bit h
  node_bit d (starts_choice j at h) = one _ _ _ h
  node_bit d (starts_times h) = one _ _ _ h
  node_bit d (starts_many h) = one _ _ _ h
  node_bit d (starts_window h) = one _ _ _ h
  node_bit d (starts_named h) = one _ _ _ h
