-- What the equations of nullable and of first bits make of a node whose kind is known.
use Rattle.std.proofs.Common.{◌≡◌, ℕ, zero, suc, ◌≤◌, ◌⊎◌, ◌↔◌, inl, inr, Bool, true, false, List, [], ◌∷◌, refl, sym}
use Rattle.std.proofs.Common.{◌∙◌, subst, arith, Option, Some, None, slice_get}
use Rattle.std.specs.Prelude.{IsTrue, ◌==◌, find, is_some}
use Rattle.std.specs.List.{AllByRecursion}
use Rattle.std.proofs.lemmas.Bool.Decides.{nat_tests}
use Rattle.csn_desc.specs.declared.symbol.Symbol.{Symbol}
use Rattle.csn_desc.specs.declared.symbol.Symbol.TheVariants.{Low}
use Rattle.csn_desc.specs.declared.node.Count.{Count}
use Rattle.csn_desc.specs.declared.node.Count.TheVariants.{Fixed, Counted}
use Rattle.csn_desc.specs.declared.node.Node.{Node}
use Rattle.csn_desc.specs.declared.node.Node.TheVariants.{Lits, Spare, Pad, Field, Seq, Choice, Times, Many, Trunc, Window, Named}
use Rattle.csn_desc.specs.Nodes.{DescV}
use Rattle.csn_desc.specs.Spelled.{symbol_bit, IsSpare}
use Rattle.csn_cert.specs.CertificateV.{NodeV, PositionV, IsPosition, IsNode, IsCertificate}
use Rattle.csn_cert.specs.Growing.{claimed_of, claimed}
use Rattle.csn_claims.specs.Claims.{Claims}
use Rattle.csn_claims.specs.Nullable.{NodeNullable, AllNullable, nullable_field, nullable_times, nullable_no_times}
use Rattle.csn_claims.specs.Nullable.{nullable_window, nullable_seq, nullable_choice, nullable_named}
use Rattle.csn_claims.specs.Ends.{NodeEnds, ManyEnd, TimesEnd}
use Rattle.csn_claims.specs.Starts.{NodeStarts, PartsStart, starts_lits, starts_spare, starts_pad}
use Rattle.csn_claims.specs.Starts.{starts_seq, starts_trunc, starts_choice, starts_times, starts_many}
use Rattle.csn_claims.specs.Starts.{starts_window, starts_named}
use Rattle.csn_good.specs.ClaimedSets.{starts_with, claims_of}
use Rattle.csn_equations.specs.Counts.{MayBeNone}
use Rattle.csn_equations.proofs.Small as equation
use Rattle.csn_good.specs.Told.{SomeNullable, SomeStarts, LiteralStarts}
use Rattle.csn_good.proofs.Digits.{digit_within}
use Rattle.csn_good.proofs.EndsTold.{AreSmall}

-- ---- octet positions and bits that a certificate may claim

one_found : (p : PositionV) (positions : List PositionV) (o : ℕ) (test : Bool) → (p.octet == o) ≡ test → p.octet ≤ 7
    → (IsTrue (is_some (find (λ q. q.octet == o) positions)) → o ≤ 7)
    → IsTrue (is_some (find (λ q. q.octet == o) (p ∷ positions))) → o ≤ 7
one_found p positions o true same low later there = let is : p.octet ≡ o = grind (arith, nat_tests) in omega arith
one_found p positions o false differs low later there = later (rw differs at there)

position_found : (positions : List PositionV) (o : ℕ) → AllByRecursion IsPosition positions → IsTrue (is_some (find (λ p. p.octet == o) positions)) → o ≤ 7
position_found [] o all holds = absurd (cc)
position_found (p ∷ positions) o all holds =
    one_found p positions o (p.octet == o) refl all.0.octet (position_found positions o all.1) holds

node_found : (n : Option NodeV) (o : ℕ) → ((m : NodeV) → n ≡ Some m → IsNode m) → IsTrue (is_some (claimed_of n o)) → o ≤ 7
node_found None o are holds = absurd (cc)
node_found (Some m) o are holds = position_found m.positions o (are m refl).positions holds

nodes_are : (c : List NodeV) (i : ℕ) (m : NodeV) → AllByRecursion IsNode c → slice_get c i ≡ Some m → IsNode m
nodes_are [] i m all at = absurd (cc)
nodes_are (n ∷ c) zero m all at = let same : n ≡ m = cc in subst IsNode same all.0
nodes_are (n ∷ c) (suc i) m all at = nodes_are c i m all.1 at

pub reached_small : (c : List NodeV) → IsCertificate c → (i o : ℕ) → IsTrue ((claims_of c).reached i o) → o ≤ 7
reached_small c is i o holds = node_found (slice_get c i) o (λ m at. nodes_are c i m is.nodes at) holds

start_one_at : (p : Option PositionV) (bit : ℕ) → IsTrue (starts_with p bit) → bit ≤ 1
start_one_at None bit holds = absurd (cc)
start_one_at (Some p) bit holds = let less = digit_within 2 p.start bit holds in omega arith

pub starts_small : (c : List NodeV) (i o bit : ℕ) → IsTrue ((claims_of c).starts i o bit) → bit ≤ 1
starts_small c i o bit holds = start_one_at (claimed c i o) bit holds

-- ---- the sets that equations make are octet positions and bits

module _ (claims : Claims) (small : AreSmall claims) where
  pub times_small : {n i o p : ℕ} → o ≤ 7 → TimesEnd claims n i o p → p ≤ 7
  times_small low h = equation.times_small (λ i o p. IsTrue (claims.ends i o p)) (λ i o p e begins. small i o p e) h low

  pub many_small : {i o p : ℕ} → o ≤ 7 → ManyEnd claims i o p → p ≤ 7
  many_small low h = equation.many_small (λ i o p. IsTrue (claims.ends i o p)) (λ i o p e begins. small i o p e) h low

module _ (d : DescV) (claims : Claims) (small : AreSmall claims) where
  pub node_ends_small : {n : Node} {o p : ℕ} → o ≤ 7 → NodeEnds d claims n o p → p ≤ 7
  node_ends_small low h = equation.node_small (λ i o p. IsTrue (claims.ends i o p)) (λ i o p e begins. small i o p e) d h low

module _ (d : DescV) (claims : Claims) (one : (i o bit : ℕ) → IsTrue (claims.starts i o bit) → bit ≤ 1) where
  pub node_starts_one : {n : Node} {o bit : ℕ} → NodeStarts d claims n o bit → bit ≤ 1
  node_starts_one h =
      equation.node_bit (λ i. IsTrue (claims.nullable i)) (λ i o p. IsTrue (claims.ends i o p))
      (λ i o bit. IsTrue (claims.starts i o bit)) one d h

-- ---- nullable

module _ (claims : Claims) where
  pub null_field : (unit : ℕ) (count : Count) → NodeNullable claims (Field unit count) ↔ MayBeNone count
  null_field unit (Fixed n) = ((λ h. elim h [ ]), (λ h. absurd h))
  null_field unit (Counted m f k) = ((λ h. of_field h), (λ h. nullable_field h))
    where
      of_field : NodeNullable claims (Field unit (Counted m f k)) → k ≡ 0
      of_field (nullable_field h) = h

  pub null_seq : (parts : List ℕ) → NodeNullable claims (Seq parts) ↔ AllNullable claims parts
  null_seq parts = ((λ h. of_seq h), (λ h. nullable_seq h))
    where
      of_seq : NodeNullable claims (Seq parts) → AllNullable claims parts
      of_seq (nullable_seq h) = h

  pub null_choice : (parts : List ℕ) → NodeNullable claims (Choice parts) ↔ SomeNullable claims parts
  null_choice parts = ((λ h. of_choice h), (λ h. nullable_choice h.place h.at h.nullable))
    where
      of_choice : NodeNullable claims (Choice parts) → SomeNullable claims parts
      of_choice (nullable_choice {i = i} j at h) = record { place = j; part = i; at = at; nullable = h }

  pub null_times : (count : Count) (i : ℕ) → NodeNullable claims (Times count i) ↔ (MayBeNone count ⊎ IsTrue (claims.nullable i))
  null_times (Fixed n) i = ((λ h. of_times h), (λ h. elim h [ inl no_count ↦ absurd no_count | inr part ↦ nullable_times part ]))
    where
      of_times : NodeNullable claims (Times (Fixed n) i) → MayBeNone (Fixed n) ⊎ IsTrue (claims.nullable i)
      of_times (nullable_times h) = inr h
  null_times (Counted m f k) i = ((λ h. of_times h), (λ h. elim h [ inl none ↦ nullable_no_times none | inr part ↦ nullable_times part ]))
    where
      of_times : NodeNullable claims (Times (Counted m f k) i) → MayBeNone (Counted m f k) ⊎ IsTrue (claims.nullable i)
      of_times (nullable_times h) = inr h
      of_times (nullable_no_times h) = inl h

  pub null_window : (unit : ℕ) (count : Count) (i : ℕ) → NodeNullable claims (Window unit count i) ↔ (MayBeNone count × IsTrue (claims.nullable i))
  null_window unit (Fixed n) i = ((λ h. elim h [ ]), (λ h. absurd h.0))
  null_window unit (Counted m f k) i = ((λ h. of_window h), (λ h. nullable_window h.0 h.1))
    where
      of_window : NodeNullable claims (Window unit (Counted m f k) i) → MayBeNone (Counted m f k) × IsTrue (claims.nullable i)
      of_window (nullable_window none part) = (none, part)

  pub null_named : (label : List ℕ) (i : ℕ) → NodeNullable claims (Named label i) ↔ IsTrue (claims.nullable i)
  null_named label i = ((λ h. of_named h), (λ h. nullable_named h))
    where
      of_named : NodeNullable claims (Named label i) → IsTrue (claims.nullable i)
      of_named (nullable_named h) = h

-- ---- first bits

module _ (d : DescV) (claims : Claims) where
  pub start_lits : (run : List Symbol) (o bit : ℕ) → NodeStarts d claims (Lits run) o bit ↔ LiteralStarts run o bit
  start_lits [] o bit = ((λ h. elim h [ ]), (λ h. absurd h))
  start_lits (s ∷ run) o bit = ((λ h. of_lits h), (λ h. starts_lits (sym h)))
    where
      of_lits : NodeStarts d claims (Lits (s ∷ run)) o bit → symbol_bit s o ≡ bit
      of_lits (starts_lits h) = sym h

  pub start_spare : (s : Symbol) (o bit : ℕ) → NodeStarts d claims (Spare s) o bit ↔ IsSpare d.reading s o (bit ∷ [])
  start_spare s o bit = ((λ h. of_spare h), (λ h. starts_spare h))
    where
      of_spare : NodeStarts d claims (Spare s) o bit → IsSpare d.reading s o (bit ∷ [])
      of_spare (starts_spare h) = h

  pub start_pad : (o bit : ℕ) → NodeStarts d claims Pad o bit ↔ IsSpare d.reading Low o (bit ∷ [])
  start_pad o bit = ((λ h. of_pad h), (λ h. starts_pad h))
    where
      of_pad : NodeStarts d claims Pad o bit → IsSpare d.reading Low o (bit ∷ [])
      of_pad (starts_pad h) = h

  pub start_seq : (parts : List ℕ) (o bit : ℕ) → NodeStarts d claims (Seq parts) o bit ↔ PartsStart claims parts o bit
  start_seq parts o bit = ((λ h. of_seq h), (λ h. starts_seq h))
    where
      of_seq : NodeStarts d claims (Seq parts) o bit → PartsStart claims parts o bit
      of_seq (starts_seq h) = h

  pub start_trunc : (parts : List ℕ) (o bit : ℕ) → NodeStarts d claims (Trunc parts) o bit ↔ PartsStart claims parts o bit
  start_trunc parts o bit = ((λ h. of_trunc h), (λ h. starts_trunc h))
    where
      of_trunc : NodeStarts d claims (Trunc parts) o bit → PartsStart claims parts o bit
      of_trunc (starts_trunc h) = h

  pub start_choice : (parts : List ℕ) (o bit : ℕ) → NodeStarts d claims (Choice parts) o bit ↔ SomeStarts claims parts o bit
  start_choice parts o bit = ((λ h. of_choice h), (λ h. starts_choice h.place h.at h.starts))
    where
      of_choice : NodeStarts d claims (Choice parts) o bit → SomeStarts claims parts o bit
      of_choice (starts_choice {i = i} j at h) = record { place = j; part = i; at = at; starts = h }

  pub start_times : (count : Count) (i o bit : ℕ) → NodeStarts d claims (Times count i) o bit ↔ IsTrue (claims.starts i o bit)
  start_times count i o bit = ((λ h. of_times h), (λ h. starts_times h))
    where
      of_times : NodeStarts d claims (Times count i) o bit → IsTrue (claims.starts i o bit)
      of_times (starts_times h) = h

  pub start_many : (i o bit : ℕ) → NodeStarts d claims (Many i) o bit ↔ IsTrue (claims.starts i o bit)
  start_many i o bit = ((λ h. of_many h), (λ h. starts_many h))
    where
      of_many : NodeStarts d claims (Many i) o bit → IsTrue (claims.starts i o bit)
      of_many (starts_many h) = h

  pub start_window : (unit : ℕ) (count : Count) (i o bit : ℕ) → NodeStarts d claims (Window unit count i) o bit ↔ IsTrue (claims.starts i o bit)
  start_window unit count i o bit = ((λ h. of_window h), (λ h. starts_window h))
    where
      of_window : NodeStarts d claims (Window unit count i) o bit → IsTrue (claims.starts i o bit)
      of_window (starts_window h) = h

  pub start_named : (label : List ℕ) (i o bit : ℕ) → NodeStarts d claims (Named label i) o bit ↔ IsTrue (claims.starts i o bit)
  start_named label i o bit = ((λ h. of_named h), (λ h. starts_named h))
    where
      of_named : NodeStarts d claims (Named label i) o bit → IsTrue (claims.starts i o bit)
      of_named (starts_named h) = h

-- ---- tests

-- a test tells what another fact is equal to
pub tells : {r : Bool} {P Q : Type 0} → (IsTrue r ↔ P) → (Q ↔ P) → IsTrue r ↔ Q
tells both same = ((λ h. same.1 (both.0 h)), (λ h. both.1 (same.0 h)))

pub is_claim : {r claim : Bool} → r ≡ claim → IsTrue r ↔ IsTrue claim
is_claim same = ((λ h. sym same ∙ h), (λ h. same ∙ h))
