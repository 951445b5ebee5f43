-- Keys are keys of something: a whole one is bits that have a tree, whatever values are seen; the first bit of
-- one is a bit that the node may begin with; and each one is followed.
use Rattle.std.proofs.Common.{◌≡◌, ℕ, suc, ◌+◌, ◌%◌, Bool, true, List, [], ◌∷◌, ◌++◌, length, drop, take-append-drop}
use Rattle.std.proofs.Common.{refl, sym, ◌∙◌, ap, subst, arith, append-nil}
use Rattle.csn_bits.specs.Octets.{IsBits}
use Rattle.csn_desc.specs.declared.reading.Reading.{Reading}
use Rattle.csn_desc.specs.declared.reading.Reading.TheVariants.{Received, Sent}
use Rattle.csn_desc.specs.declared.symbol.Symbol.{Symbol}
use Rattle.csn_desc.specs.declared.symbol.Symbol.TheVariants.{Low}
use Rattle.csn_desc.specs.declared.node.Node.{Node}
use Rattle.csn_desc.specs.TreeV.{TreeV, empty, bits, row, alt, named, Trees, none, more}
use Rattle.csn_desc.specs.Nodes.{DescV}
use Rattle.csn_desc.specs.Spelled.{symbol_bit, spelled, IsSpare}
use Rattle.csn_desc.specs.Values.{Values, with_value}
use Rattle.csn_desc.specs.Means.{NMeans, NodeMeans, PartsMean, TimesMean, means_at, means_lits, means_spare}
use Rattle.csn_desc.specs.Means.{means_null, means_field, means_seq, means_choice, means_times, means_named}
use Rattle.csn_desc.specs.Means.{parts_end, parts_next, times_end, times_next}
use Rattle.csn_look.specs.Starts.{InStart, NodeStarts, PartsStart, starts_lits, starts_spare, starts_pad}
use Rattle.csn_look.specs.Starts.{starts_field, starts_seq, starts_choice, starts_times, starts_named, starts_here}
use Rattle.csn_look.specs.Starts.{starts_later}
use Rattle.csn_look.specs.Keys.{Cut, kept, cut, InKeys, keys_lits}
use Rattle.csn_look.specs.Keys.{keys_spare, keys_field, keys_pad, keys_null, keys_rest, keys_many, keys_trunc}
use Rattle.csn_look.specs.Keys.{keys_window, keys_counted_field, keys_counted_times, keys_seq, keys_times}
use Rattle.csn_look.specs.Keys.{keys_choice, keys_named, parts_none, parts_cut, parts_whole, times_none, times_cut}
use Rattle.csn_look.specs.Keys.{times_whole}
use Rattle.csn_equations.specs.Least.{NodeHas}
use Rattle.csn_equations.specs.Keys as equation
use Rattle.csn_look.proofs.Meaning.LeastSets.{starts_at, KeysWith, each_key}
use Rattle.csn_look.proofs.Meaning.ShapeFacts.{Shaped}
use Rattle.csn_look.proofs.Meaning.NullableFacts.{nullable}
use Rattle.csn_look.proofs.Meaning.EndsFacts.{ends}
use Rattle.csn_look.proofs.Meaning.StartFacts.{symbol_bit-octet, bit_is}
use Rattle.csn_look.proofs.Meaning.KeyFacts.{spelled-octet}

-- a word that is left whole is all of a whole word
record AllLeft (w x : List ℕ) (whole : Bool) : Type 0 where
  word : x ≡ w
  mark : whole ≡ true

all_left : {most : ℕ} {w x : List ℕ} {whole mark : Bool} → mark ≡ true → Cut most w whole x mark → AllLeft w x whole
all_left full (kept short is same) = record { word = is; mark = sym same ∙ full }
all_left full (cut long is same) = absurd (cc)

-- what is left of a word is a first piece of it
pub cut_rest : {most : ℕ} {w x : List ℕ} {whole mark : Bool} → Cut most w whole x mark → (rest : List ℕ) × (w ≡ x ++ rest)
cut_rest {w = w} (kept short is same) = ([], sym (append-nil w) ∙ ap (λ l. l ++ []) (sym is))
cut_rest {most = most} {w = w} (cut long is same) = (drop most w, sym (take-append-drop most w) ∙ ap (λ l. l ++ drop most w) (sym is))

-- a spare bit at an octet position is one at each place there
pub spare_at : (reading : Reading) (s : Symbol) (o p : ℕ) → p ≡ o % 8 → (w : List ℕ) → length w ≡ 1 → IsSpare reading s p w → IsSpare reading s o w
spare_at Received s o p oct w one h = h
spare_at Sent s o p oct [] one h = absurd (omega arith)
spare_at Sent s o p oct (a ∷ []) one h = h ∙ ap (λ x. x ∷ []) (ap (λ q. symbol_bit s q) oct ∙ sym (symbol_bit-octet s o))
spare_at Sent s o p oct (a ∷ (x ∷ w)) one h = absurd (omega arith)

pub octet_next : (o p k : ℕ) → p ≡ o % 8 → (p + k) % 8 ≡ (o + k) % 8
octet_next o p k is = omega arith

pub octet_again : (o p : ℕ) → p ≡ o % 8 → p % 8 ≡ o % 8
octet_again o p is = omega arith

-- a key that is whole is bits that have a tree, at each place with the octet position
abbrev pub KeyMeant : DescV → ℕ → ℕ → List ℕ → Bool → Type 0
KeyMeant d i p w mark = (o : ℕ) (v : Values) → p ≡ o % 8 → mark ≡ true → (t : TreeV) × NMeans d i o v w t

module _ (d : DescV) (most : ℕ) (P : ℕ → ℕ → List ℕ → Bool → Type 0)
    (meant : (i p : ℕ) (w : List ℕ) (mark : Bool) → P i p w mark → KeyMeant d i p w mark) where
  parts_key_meant : {parts : List ℕ} {w : List ℕ} {mark : Bool} (o p : ℕ) (v : Values)
      → p ≡ o % 8 → mark ≡ true → equation.PartsKeys most P parts p w mark → (ts : Trees) × PartsMean d parts o v w ts
  parts_key_meant o p v oct full (parts_none is mark) = (none, parts_end is)
  parts_key_meant o p v oct full (parts_cut h mark) = absurd (cc)
  parts_key_meant o p v oct full (parts_whole {i = i} w1 w2 rest h hs c) =
      let left = all_left full c in
      let first = meant _ _ _ _ h o v oct refl in
      let others = parts_key_meant (o + length w1) ((p + length w1) % 8) (with_value d.nodes i w1 v) (octet_next o p (length w1) oct) left.mark hs in
      (more first.0 others.0, parts_next w1 w2 left.word first.1 others.1)

  times_key_meant : {n i : ℕ} {w : List ℕ} {mark : Bool} (o p : ℕ) (v : Values)
      → p ≡ o % 8 → mark ≡ true → equation.TimesKeys most P n i p w mark → (ts : Trees) × TimesMean d n i o v w ts
  times_key_meant o p v oct full (times_none over is mark) = (none, times_end over is)
  times_key_meant o p v oct full (times_cut m over h mark) = absurd (cc)
  times_key_meant o p v oct full (times_whole m over w1 w2 rest h hs c) =
      let left = all_left full c in
      let first = meant _ _ _ _ h o v oct refl in
      let others = times_key_meant (o + length w1) ((p + length w1) % 8) v (octet_next o p (length w1) oct) left.mark hs in
      (more first.0 others.0, times_next m over w1 w2 left.word first.1 others.1)

  node_key_meant : {n : Node} {w : List ℕ} {mark : Bool} (o p : ℕ) (v : Values)
      → p ≡ o % 8 → mark ≡ true → equation.NodeKeys d most P n p w mark → (t : TreeV) × NodeMeans d n o v w t
  node_key_meant o p v oct full (keys_lits {run = run} c) = (empty, means_lits ((all_left full c).word ∙ spelled-octet run p o (octet_again o p oct)))
  node_key_meant {w = x} o p v oct full (keys_spare {s = s} w one spare c) =
      let left = all_left full c in
      let P : List ℕ → Type 0 = λ l. IsSpare d.reading s o l in
      (bits x, means_spare (ap length left.word ∙ one) (subst P (sym left.word) (spare_at d.reading s o p oct w one spare)))
  node_key_meant {w = x} o p v oct full (keys_field {unit = unit} {n = n} w wide are c) =
      let left = all_left full c in
      let P : List ℕ → Type 0 = λ l. IsBits l in
      (bits x, means_field n refl (ap length left.word ∙ wide) (subst P (sym left.word) are))
  node_key_meant o p v oct full (keys_pad w one spare c) = let left = (all_left full c).mark in absurd (cc)
  node_key_meant o p v oct full (keys_null is mark) = (empty, means_null is)
  node_key_meant o p v oct full (keys_rest is mark) = absurd (cc)
  node_key_meant o p v oct full (keys_many is mark) = absurd (cc)
  node_key_meant o p v oct full (keys_trunc is mark) = absurd (cc)
  node_key_meant o p v oct full (keys_window is mark) = absurd (cc)
  node_key_meant o p v oct full (keys_counted_field is mark) = absurd (cc)
  node_key_meant o p v oct full (keys_counted_times is mark) = absurd (cc)
  node_key_meant o p v oct full (keys_seq h) = let m = parts_key_meant o p v oct full h in (row m.0, means_seq m.1)
  node_key_meant o p v oct full (keys_times {n = n} h) = let m = times_key_meant o p v oct full h in (row m.0, means_times n refl m.1)
  node_key_meant o p v oct full (keys_choice j at h) = let m = meant _ _ _ _ h o v oct full in (alt j m.0, means_choice at m.1)
  node_key_meant o p v oct full (keys_named {label = label} h) = let m = meant _ _ _ _ h o v oct full in (named label m.0, means_named m.1)

module _ (d : DescV) (most : ℕ) where
  made_meant : (i p : ℕ) (w : List ℕ) (mark : Bool)
      → NodeHas d i (λ n. equation.NodeKeys d most (KeysWith d most (KeyMeant d)) n p w mark) → KeyMeant d i p w mark
  made_meant i p w mark made o v oct full =
      let m = node_key_meant d most (KeysWith d most (KeyMeant d)) (λ j r y k key. key.1) o p v oct full made.has in
      (m.0, means_at made.node made.at m.1)

  -- a whole key is bits that have a tree
  pub key_meant : {i : ℕ} {w : List ℕ} {mark : Bool} (o p : ℕ) (v : Values)
      → p ≡ o % 8 → mark ≡ true → InKeys d most i p w mark → (t : TreeV) × NMeans d i o v w t
  key_meant o p v oct full h = each_key (KeyMeant d) made_meant h o v oct full

-- ---- the first bit of a key

first_of : {most : ℕ} {w x : List ℕ} {whole mark : Bool} (a : ℕ) (r : List ℕ) → x ≡ a ∷ r → Cut most w whole x mark → (l : List ℕ) × (w ≡ a ∷ l)
first_of {x = x} a r is c = let tail = cut_rest c in (r ++ tail.0, tail.1 ∙ ap (λ l. l ++ tail.0) is)

module _ (d : DescV) (most : ℕ) (shaped : Shaped d) where
  octet_spare : (s : Symbol) (o p : ℕ) → p ≡ o % 8 → (a : ℕ) (r w : List ℕ)
      → w ≡ a ∷ r → length w ≡ 1 → IsSpare d.reading s p w → IsSpare d.reading s (o % 8) (a ∷ [])
  octet_spare s o p oct a [] w is one spare =
      let P : List ℕ → Type 0 = λ l. IsSpare d.reading s p l in
      let Q : ℕ → Type 0 = λ q. IsSpare d.reading s q (a ∷ []) in
      subst Q oct (subst P is spare)
  octet_spare s o p oct a (x ∷ r) w is one spare = let size = ap length is in absurd (omega arith)

-- a key begins with a bit that the node may begin with, at each place with the octet position
abbrev pub KeyStarts : DescV → ℕ → ℕ → List ℕ → Bool → Type 0
KeyStarts d i p x mark = (o a : ℕ) (r : List ℕ) → p ≡ o % 8 → x ≡ a ∷ r → InStart d i (o % 8) a

module _ (d : DescV) (most : ℕ) (shaped : Shaped d) where
  parts_key_start : {parts : List ℕ} {x : List ℕ} {mark : Bool} (o p a : ℕ) (r : List ℕ)
      → p ≡ o % 8 → x ≡ a ∷ r → equation.PartsKeys most (KeysWith d most (KeyStarts d)) parts p x mark → PartsStart d parts (o % 8) a
  parts_key_start o p a r oct is (parts_none nothing mark) = absurd (cc)
  parts_key_start o p a r oct is (parts_cut h mark) = starts_here (h.1 o a r oct is)
  parts_key_start o p a r oct is (parts_whole [] w2 rest h hs c) =
      let first = first_of a r is c in
      let m = key_meant d most o p [] oct refl h.0 in
      starts_later ((o + length {A = ℕ} []) % 8) (nullable d shaped m.1 refl)
      (ends d shaped (o + length {A = ℕ} []) refl shaped.none_fit m.1) (parts_key_start (o + length {A = ℕ} [])
      ((p + length {A = ℕ} []) % 8) a first.0 (octet_next o p (length {A = ℕ} []) oct) first.1 hs)
  parts_key_start o p a r oct is (parts_whole (k ∷ w1) w2 rest h hs c) =
      let first = first_of a r is c in
      let whole : k ∷ (w1 ++ w2) ≡ a ∷ first.0 = first.1 in
      let same : k ∷ w1 ≡ a ∷ w1 = cc in
      starts_here (h.1 o a w1 oct same)

  times_key_start : {n i : ℕ} {x : List ℕ} {mark : Bool} (o p a : ℕ) (r : List ℕ)
      → p ≡ o % 8 → x ≡ a ∷ r → equation.TimesKeys most (KeysWith d most (KeyStarts d)) n i p x mark → InStart d i (o % 8) a
  times_key_start o p a r oct is (times_none over nothing mark) = absurd (cc)
  times_key_start o p a r oct is (times_cut m over h mark) = h.1 o a r oct is
  times_key_start {i = i} o p a r oct is (times_whole m over [] w2 rest h hs c) =
      let first = first_of a r is c in
      let P : ℕ → Type 0 = λ q. InStart d i (q % 8) a in
      let same : o + length {A = ℕ} [] ≡ o = omega arith in
      subst P same (times_key_start (o + length {A = ℕ} []) ((p + length {A = ℕ} []) % 8) a first.0 (octet_next o p (length {A = ℕ} []) oct) first.1 hs)
  times_key_start o p a r oct is (times_whole m over (k ∷ w1) w2 rest h hs c) =
      let first = first_of a r is c in
      let whole : k ∷ (w1 ++ w2) ≡ a ∷ first.0 = first.1 in
      let same : k ∷ w1 ≡ a ∷ w1 = cc in
      h.1 o a w1 oct same

  node_key_start : {n : Node} {x : List ℕ} {mark : Bool} (o p a : ℕ) (r : List ℕ)
      → p ≡ o % 8 → x ≡ a ∷ r → equation.NodeKeys d most (KeysWith d most (KeyStarts d)) n p x mark → NodeStarts d n (o % 8) a
  node_key_start o p a r oct is (keys_lits {run = []} c) = let first = first_of a r is c in let same = first.1 in absurd (cc)
  node_key_start o p a r oct is (keys_lits {run = s ∷ run} c) =
      let first = first_of a r is c in
      let same : symbol_bit s p ∷ spelled run (suc p) ≡ a ∷ first.0 = first.1 in
      let bit : a ≡ symbol_bit s p = cc in
      starts_lits (bit ∙ ap (λ q. symbol_bit s q) oct)
  node_key_start o p a r oct is (keys_spare {s = s} w one spare c) =
      let first = first_of a r is c in starts_spare (octet_spare d most shaped s o p oct a first.0 w first.1 one spare)
  node_key_start o p a r oct is (keys_pad w one spare c) =
      let first = first_of a r is c in starts_pad (octet_spare d most shaped Low o p oct a first.0 w first.1 one spare)
  node_key_start o p a r oct is (keys_field w wide are c) = let first = first_of a r is c in starts_field (bit_is a first.0 w first.1 are)
  node_key_start o p a r oct is (keys_null nothing mark) = absurd (cc)
  node_key_start o p a r oct is (keys_rest nothing mark) = absurd (cc)
  node_key_start o p a r oct is (keys_many nothing mark) = absurd (cc)
  node_key_start o p a r oct is (keys_trunc nothing mark) = absurd (cc)
  node_key_start o p a r oct is (keys_window nothing mark) = absurd (cc)
  node_key_start o p a r oct is (keys_counted_field nothing mark) = absurd (cc)
  node_key_start o p a r oct is (keys_counted_times nothing mark) = absurd (cc)
  node_key_start o p a r oct is (keys_seq h) = starts_seq (parts_key_start o p a r oct is h)
  node_key_start o p a r oct is (keys_times h) = starts_times (times_key_start o p a r oct is h)
  node_key_start o p a r oct is (keys_choice j at h) = starts_choice j at (h.1 o a r oct is)
  node_key_start o p a r oct is (keys_named h) = starts_named (h.1 o a r oct is)

  pub key_start : {i : ℕ} {x : List ℕ} {mark : Bool} (o p a : ℕ) (r : List ℕ) → p ≡ o % 8 → x ≡ a ∷ r → InKeys d most i p x mark → InStart d i (o % 8) a
  key_start o p a r oct is h =
      each_key (KeyStarts d) (λ i q x mark made s b rest at first. starts_at made.node made.at (node_key_start s q b rest at first made.has)) h o a r oct is
