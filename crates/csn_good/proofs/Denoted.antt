-- Each word that the equation of a node makes of claimed words is denoted by a pattern that the equation makes of
-- claimed patterns.
use Rattle.std.proofs.Common.{◌≡◌, ℕ, ◌+◌, ◌*◌, ◌%◌, Bool, true, false, List, [], ◌∷◌, ◌++◌, length, map, refl, sym, ◌∙◌, subst, arith}
use Rattle.std.specs.Prelude.{IsTrue, Contains, replicate}
use Rattle.csn_desc.specs.declared.symbol.Symbol.TheVariants.{Low}
use Rattle.csn_desc.specs.declared.node.Node.{Node}
use Rattle.csn_desc.specs.Nodes.{DescV}
use Rattle.csn_desc.specs.Spelled.{spelled}
use Rattle.csn_desc.proofs.BitFacts.{IsBits-spelled}
use Rattle.csn_cert.specs.declared.pattern.Mark.TheVariants.{Any}
use Rattle.csn_cert.specs.PatternV.{PatternV}
use Rattle.csn_cert.specs.CertificateV.{NodeV}
use Rattle.csn_look.specs.Keys.{Cut, kept, cut}
use Rattle.csn_claims.specs.Keys.{NodeKeys, PartsKeys, TimesKeys, keys_lits, keys_spare, keys_field, keys_pad}
use Rattle.csn_claims.specs.Keys.{keys_null, keys_rest, keys_many, keys_trunc, keys_window, keys_counted_field}
use Rattle.csn_claims.specs.Keys.{keys_counted_times, keys_seq, keys_times, keys_choice, keys_named, parts_none}
use Rattle.csn_claims.specs.Keys.{parts_cut, parts_whole, times_none, times_cut, times_whole}
use Rattle.csn_good.specs.ClaimedSets.{mark_bits, denotes, patterns_at, claims_of}
use Rattle.csn_good.specs.Patterns.{mark_of, shortened, spare_mark, unread, NodePatterns, PartsPatterns}
use Rattle.csn_good.specs.Patterns.{TimesPatterns, patterns_lits, patterns_spare, patterns_field, patterns_pad}
use Rattle.csn_good.specs.Patterns.{patterns_null, patterns_rest, patterns_many, patterns_trunc, patterns_window}
use Rattle.csn_good.specs.Patterns.{patterns_counted_field, patterns_counted_times, patterns_seq, patterns_times}
use Rattle.csn_good.specs.Patterns.{patterns_choice, patterns_named}
use Rattle.csn_good.specs.Patterns as made
use Rattle.csn_good.proofs.Denoting.{Says, says, size_of, joined, found, shortened_says, own_marks, any_marks, spare_marks}

-- some pattern that is made says the word
pub record Denoted (P : PatternV → Type 0) (x : List ℕ) (mark : Bool) : Type 0 where
  pub pattern : PatternV
  pub is_made : P pattern
  pub says : Says pattern x mark

as_made : {P Q : PatternV → Type 0} {x : List ℕ} {mark : Bool} → ((p : PatternV) → P p → Q p) → Denoted P x mark → Denoted Q x mark
as_made make h = record { pattern = h.pattern; is_made = make h.pattern h.is_made; says = h.says }

-- no bits, whole or cut
no_marks : {P : PatternV → Type 0} {x : List ℕ} {mark : Bool} (whole : Bool)
    → x ≡ [] → mark ≡ whole → P (record { marks = []; whole = whole }) → Denoted P x mark
no_marks {x = x} {mark = mark} whole nothing same make =
    let p : PatternV = record { marks = []; whole = whole } in
    let P : List ℕ → Type 0 = λ l. mark_bits [] l ≡ true in
    record { pattern = p; is_made = make; says = record { same = sym same; bits = subst P (sym nothing) refl } }

module _ (d : DescV) (c : List NodeV) where
  -- a claimed word is denoted by a claimed pattern
  claimed_word : (i o : ℕ) (x : List ℕ) (mark : Bool) → IsTrue ((claims_of c).keys i o x mark) → Denoted (λ p. Contains (patterns_at c i o) p) x mark
  claimed_word i o x mark holds =
      let f = found (λ p. denotes p x mark) (patterns_at c i o) holds in
      record { pattern = f.item; is_made = f.there; says = says f.item x mark f.passes }

  one_mark : {P : PatternV → Type 0} {x w : List ℕ} {mark whole : Bool} (p : PatternV)
      → p.whole ≡ whole → length w ≡ 1 → mark_bits p.marks w ≡ true → Cut 12 w whole x mark → P p → Denoted P x mark
  one_mark {w = w} p same one holds (kept short is agree) make =
      let Q : List ℕ → Type 0 = λ l. mark_bits p.marks l ≡ true in
      record { pattern = p; is_made = make; says = record { same = same ∙ sym agree; bits = subst Q (sym is) holds } }
  one_mark p same one holds (cut long is agree) make = absurd (omega arith)

  -- two pieces
  both : {P : PatternV → Type 0} (first others : PatternV) (w1 w2 : List ℕ) (rest : Bool) {x : List ℕ} {mark : Bool}
      → Says first w1 true → Says others w2 rest → Cut 12 (w1 ++ w2) rest x mark
      → P (shortened (first.marks ++ others.marks) others.whole) → Denoted P x mark
  both first others w1 w2 rest {x} {mark} s1 s2 c make =
      let Q : Bool → Type 0 = λ whole. Says (shortened (first.marks ++ others.marks) whole) x mark in
      let left = shortened_says (first.marks ++ others.marks) (w1 ++ w2) rest x mark (joined first.marks w1 others.marks w2 s1.bits s2.bits) c in
      record { pattern = shortened (first.marks ++ others.marks) others.whole; is_made = make; says = subst Q (sym s2.same) left }

  parts_denoted : {parts : List ℕ} {o : ℕ} {x : List ℕ} {mark : Bool} → PartsKeys 12 (claims_of c) parts o x mark → Denoted (PartsPatterns c parts o) x mark
  parts_denoted (parts_none nothing same) = no_marks true nothing same (made.parts_none refl)
  parts_denoted {x = x} (parts_cut {i = i} {o = o} h same) =
      let first = claimed_word i o x false h in
      let says_cut = first.says in
      record {
        pattern = first.pattern;
        is_made = made.parts_cut first.is_made says_cut.same;
        says =
            record { same = says_cut.same ∙ sym same; bits = says_cut.bits };
      }
  parts_denoted (parts_whole {i = i} {parts = parts} {o = o} w1 w2 rest h hs left) =
      let first = claimed_word i o w1 true h in
      let others = parts_denoted hs in
      let P : ℕ → Type 0 = λ n. PartsPatterns c parts ((o + n) % 8) others.pattern in
      let size = size_of first.pattern.marks w1 first.says.bits in
      let here = subst P (sym size) others.is_made in
      both first.pattern others.pattern w1 w2 rest first.says others.says left
      (made.parts_whole first.pattern others.pattern first.is_made first.says.same here refl)

  times_denoted : {n i o : ℕ} {x : List ℕ} {mark : Bool} → TimesKeys 12 (claims_of c) n i o x mark → Denoted (TimesPatterns c n i o) x mark
  times_denoted (times_none over nothing same) = no_marks true nothing same (made.times_none over refl)
  times_denoted {i = i} {o = o} {x = x} (times_cut m over h same) =
      let first = claimed_word i o x false h in
      let says_cut = first.says in
      record {
        pattern = first.pattern;
        is_made = made.times_cut m over first.is_made says_cut.same;
        says =
            record { same = says_cut.same ∙ sym same; bits = says_cut.bits };
      }
  times_denoted {i = i} {o = o} (times_whole m over w1 w2 rest h hs left) =
      let first = claimed_word i o w1 true h in
      let others = times_denoted hs in
      let P : ℕ → Type 0 = λ n. TimesPatterns c m i ((o + n) % 8) others.pattern in
      let size = size_of first.pattern.marks w1 first.says.bits in
      let here = subst P (sym size) others.is_made in
      both first.pattern others.pattern w1 w2 rest first.says others.says left
      (made.times_whole m over first.pattern others.pattern first.is_made first.says.same here refl)

  pub node_denoted : {n : Node} {o : ℕ} {x : List ℕ} {mark : Bool} → NodeKeys d 12 (claims_of c) n o x mark → Denoted (NodePatterns d.reading c n o) x mark
  node_denoted {o = o} {x = x} {mark = mark} (keys_lits {run = run} left) =
      record {
        pattern = shortened (map mark_of (spelled run o)) true;
        is_made = patterns_lits refl;
        says =
            shortened_says (map mark_of (spelled run o)) (spelled run o) true x mark
            (own_marks (spelled run o) (IsBits-spelled run o)) left;
      }
  node_denoted {o = o} (keys_spare {s = s} w one spare left) =
      one_mark (record { marks = spare_mark d.reading s o ∷ []; whole = true }) refl one (spare_marks d.reading s o w one spare) left (patterns_spare refl)
  node_denoted {x = x} {mark = mark} (keys_field {unit = unit} {n = n} w wide are left) =
      record {
        pattern = shortened (replicate (unit * n) Any) true;
        is_made = patterns_field refl;
        says =
            shortened_says (replicate (unit * n) Any) w true x mark (any_marks (unit * n) w wide are) left;
      }
  node_denoted {o = o} (keys_pad w one spare left) =
      one_mark (record { marks = spare_mark d.reading Low o ∷ []; whole = false }) refl one (spare_marks d.reading Low o w one spare) left (patterns_pad refl)
  node_denoted (keys_null nothing same) = no_marks true nothing same (patterns_null refl)
  node_denoted (keys_rest nothing same) = no_marks false nothing same (patterns_rest refl)
  node_denoted (keys_many nothing same) = no_marks false nothing same (patterns_many refl)
  node_denoted (keys_trunc nothing same) = no_marks false nothing same (patterns_trunc refl)
  node_denoted (keys_window nothing same) = no_marks false nothing same (patterns_window refl)
  node_denoted (keys_counted_field nothing same) = no_marks false nothing same (patterns_counted_field refl)
  node_denoted (keys_counted_times nothing same) = no_marks false nothing same (patterns_counted_times refl)
  node_denoted (keys_seq h) = as_made (λ p m. patterns_seq m) (parts_denoted h)
  node_denoted (keys_times h) = as_made (λ p m. patterns_times m) (times_denoted h)
  node_denoted {o = o} {x = x} {mark = mark} (keys_choice {i = i} j part h) = as_made (λ p m. patterns_choice j part m) (claimed_word i o x mark h)
  node_denoted {o = o} {x = x} {mark = mark} (keys_named {i = i} h) = as_made (λ p m. patterns_named m) (claimed_word i o x mark h)
