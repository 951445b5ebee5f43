-- Bits that have a tree begin with a key of the node, and are that key where it is whole.
use Rattle.std.proofs.Common.{◌≡◌, ℕ, suc, ◌+◌, ◌*◌, ◌%◌, Bool, true, false, List, [], ◌∷◌, ◌++◌, length, take, drop}
use Rattle.std.proofs.Common.{take-append-drop, refl, sym, ◌∙◌, ap, subst, arith, append_assoc, append-nil, inl, inr}
use Rattle.std.proofs.Common.{Some}
use Rattle.std.proofs.lemmas.Bool.Decides.{leb_tells}
use Rattle.csn_bits.specs.Octets.{IsBits}
use Rattle.csn_desc.specs.declared.reading.Reading.{Reading}
use Rattle.csn_desc.specs.declared.symbol.Symbol.{Symbol}
use Rattle.csn_desc.specs.declared.symbol.Symbol.TheVariants.{Low}
use Rattle.csn_desc.specs.declared.node.Count.{Count}
use Rattle.csn_desc.specs.declared.node.Count.TheVariants.{Fixed, Counted}
use Rattle.csn_desc.specs.declared.node.Node.{Node}
use Rattle.csn_desc.specs.declared.node.Node.TheVariants.{Field, Times}
use Rattle.csn_desc.specs.TreeV.{TreeV, Trees}
use Rattle.csn_desc.specs.Nodes.{DescV}
use Rattle.csn_desc.specs.Spelled.{symbol_bit, spelled, IsSpare}
use Rattle.csn_desc.specs.Values.{Values, count_of}
use Rattle.csn_desc.specs.Means.{NMeans, NodeMeans, PartsMean, TimesMean, means_at, means_lits, means_spare}
use Rattle.csn_desc.specs.Means.{means_pad, means_null, means_field, means_rest, means_seq, means_choice, means_times}
use Rattle.csn_desc.specs.Means.{means_many, means_cut, means_trunc, means_window, means_named, parts_end, parts_next}
use Rattle.csn_desc.specs.Means.{times_end, times_next}
use Rattle.csn_look.specs.Keys.{Cut, kept, cut, InKeys, NodeKeys, PartsKeys, TimesKeys, keys_lits}
use Rattle.csn_look.specs.Keys.{keys_spare, keys_field, keys_pad, keys_null, keys_rest, keys_many, keys_trunc}
use Rattle.csn_look.specs.Keys.{keys_window, keys_counted_field, keys_counted_times, keys_seq, keys_times}
use Rattle.csn_look.specs.Keys.{keys_choice, keys_named, parts_none, parts_cut, parts_whole, times_none, times_cut}
use Rattle.csn_look.specs.Keys.{times_whole}
use Rattle.csn_look.specs.Beginnings.{Begun}
use Rattle.csn_look.proofs.Meaning.LeastSets.{keys_at}
use Rattle.csn_look.proofs.Meaning.StartFacts.{symbol_bit-octet, first_spare}

pub spelled-octet : (run : List Symbol) (o p : ℕ) → o % 8 ≡ p % 8 → spelled run o ≡ spelled run p
spelled-octet [] o p same = refl
spelled-octet (s ∷ run) o p same =
    let first : symbol_bit s o ≡ symbol_bit s p = symbol_bit-octet s o ∙ ap (λ x. symbol_bit s x) same ∙ sym (symbol_bit-octet s p) in
    let next : suc o % 8 ≡ suc p % 8 = omega arith in
    let others = spelled-octet run (suc o) (suc p) next in
    cc

-- a spare bit is spare at its octet position
one_spare : (reading : Reading) (s : Symbol) (o : ℕ) (b : List ℕ) → length b ≡ 1 → IsSpare reading s o b → IsSpare reading s (o % 8) b
one_spare reading s o [] one h = absurd (omega arith)
one_spare reading s o (a ∷ []) one h = first_spare reading s o a [] (a ∷ []) refl h
one_spare reading s o (a ∷ (x ∷ b)) one h = absurd (omega arith)

-- what is cut of a word that the bits begin with
shorter : (most : ℕ) (w : List ℕ) (whole : Bool) (P : List ℕ → Bool → Type 0) (rest : List ℕ) {b : List ℕ}
    → b ≡ w ++ rest → (whole ≡ true → rest ≡ []) → ((x : List ℕ) (mark : Bool) → Cut most w whole x mark → P x mark)
    → Begun P b
shorter most w whole P rest {b = b} is none make =
    elim (leb_tells (length w) most) [
      | inl short ↦ record { word = w; mark = whole; rest = rest; key = make w whole (kept short.1 refl refl); begins = is; whole = none }
      | inr long ↦ record {
        word = take most w;
        mark = false;
        rest = drop most w ++ rest;
        key = make (take most w) false (cut long.1 refl refl);
        begins = is ∙ ap (λ l. l ++ rest) (sym (take-append-drop most w)) ∙ append_assoc (take most w) (drop most w) rest;
        whole = λ yes. absurd (cc);
      }
    ]

-- the empty word, cut
pub unread : {P : List ℕ → Bool → Type 0} (b : List ℕ) → P [] false → Begun P b
unread b key = record { word = []; mark = false; rest = b; key = key; begins = refl; whole = λ yes. absurd (cc) }

-- the empty word, whole
no_bits : {P : List ℕ → Bool → Type 0} {b : List ℕ} → b ≡ [] → P [] true → Begun P b
no_bits none key = record { word = []; mark = true; rest = []; key = key; begins = none; whole = λ yes. refl }

-- words that are words of another kind
pub as_key : {P Q : List ℕ → Bool → Type 0} {b : List ℕ} → ((x : List ℕ) (mark : Bool) → P x mark → Q x mark) → Begun P b → Begun Q b
as_key make h = record { word = h.word; mark = h.mark; rest = h.rest; key = make h.word h.mark h.key; begins = h.begins; whole = h.whole }

-- all of the bits as a word
all_of : (most : ℕ) (w : List ℕ) (P : List ℕ → Bool → Type 0) {b : List ℕ}
    → b ≡ w → ((x : List ℕ) (mark : Bool) → Cut most w true x mark → P x mark) → Begun P b
all_of most w P is make = shorter most w true P [] (is ∙ sym (append-nil w)) (λ yes. refl) make

module _ (d : DescV) (most : ℕ) where
  pub octet_word : (o : ℕ) {b1 w : List ℕ} → b1 ≡ w → (P : ℕ → Type 0) → P ((o + length b1) % 8) → P ((o % 8 + length w) % 8)
  octet_word o {b1 = b1} {w = w} same P h =
      let place : (o + length b1) % 8 ≡ (o % 8 + length w) % 8 = let size = ap length same in omega arith in
      subst P place h

  field_key : (unit : ℕ) (count : Count) (v : Values) {n : ℕ} (o : ℕ) (b : List ℕ)
      → count_of v count ≡ Some n → length b ≡ unit * n → IsBits b → Begun (NodeKeys d most (Field unit count) o) b
  field_key unit (Fixed k) v o b counts wide are =
      let same : k ≡ _ = cc in
      all_of most b (NodeKeys d most (Field unit (Fixed k)) o) refl (λ x mark c. keys_field b (wide ∙ ap (λ n. unit * n) (sym same)) are c)
  field_key unit (Counted m field c) v o b counts wide are = unread b (keys_counted_field refl refl)

  times_key : (count : Count) (v : Values) {n i : ℕ} (o : ℕ) (b : List ℕ)
      → count_of v count ≡ Some n → Begun (TimesKeys d most n i o) b → Begun (NodeKeys d most (Times count i) o) b
  times_key (Fixed k) v {i = i} o b counts h =
      let same : k ≡ _ = cc in
      let P : ℕ → Type 0 = λ n. Begun (TimesKeys d most n i o) b in
      as_key (λ x mark key. keys_times key) (subst P (sym same) h)
  times_key (Counted m field c) v o b counts h = unread b (keys_counted_times refl refl)

  -- a key with the mark that it has
  pub marked_key : {i o : ℕ} {b : List ℕ} {mark : Bool} (h : Begun (InKeys d most i o) b) → h.mark ≡ mark → InKeys d most i o h.word mark
  marked_key {i = i} {o = o} h is = let P : Bool → Type 0 = λ mark. InKeys d most i o h.word mark in subst P is h.key

  pub whole_word : {P : List ℕ → Bool → Type 0} {b : List ℕ} (h : Begun P b) → h.mark ≡ true → b ≡ h.word
  whole_word h all = h.begins ∙ ap (λ l. h.word ++ l) (h.whole all) ∙ append-nil h.word

  pub cut_first : {i o : ℕ} {Q : List ℕ → Bool → Type 0} {b1 b : List ℕ}
      → ((x : List ℕ) → InKeys d most i o x false → Q x false) → (b2 : List ℕ)
      → b ≡ b1 ++ b2 → (h : Begun (InKeys d most i o) b1) → h.mark ≡ false → Begun Q b
  cut_first make b2 is h cuts =
      record {
        word = h.word;
        mark = false;
        rest = h.rest ++ b2;
        key = make h.word (marked_key h cuts);
        begins = is ∙ ap (λ l. l ++ b2) h.begins ∙ append_assoc h.word h.rest b2;
        whole = λ yes. absurd (cc);
      }

  pub both_words : (o : ℕ) (P : ℕ → List ℕ → Bool → Type 0) (Q : List ℕ → Bool → Type 0) (b1 b2 : List ℕ) {b : List ℕ}
      → b ≡ b1 ++ b2 → (w1 : List ℕ) → b1 ≡ w1 → Begun (P ((o + length b1) % 8)) b2
      → ((w2 : List ℕ) (rest : Bool) (x : List ℕ) (mark : Bool) → P ((o % 8 + length w1) % 8) w2 rest → Cut most
      (w1 ++ w2) rest x mark → Q x mark) → Begun Q b
  both_words o P Q b1 b2 is w1 agree h make =
      let here = octet_word o agree (λ p. P p h.word h.mark) h.key in
      shorter most (w1 ++ h.word) h.mark Q h.rest
      (is ∙ ap (λ l. l ++ b2) agree ∙ ap (λ l. w1 ++ l) h.begins ∙ sym (append_assoc w1 h.word h.rest))
      h.whole (λ x mark c. make h.word h.mark x mark here c)

  -- the first of some parts, and the others: cut in the first, or both
  pub first_part : (i : ℕ) (parts : List ℕ) (o : ℕ) (b1 b2 : List ℕ) {b : List ℕ}
      → b ≡ b1 ++ b2 → Begun (InKeys d most i (o % 8)) b1 → Begun (PartsKeys d most parts ((o + length b1) % 8)) b2
      → Begun (PartsKeys d most (i ∷ parts) (o % 8)) b
  first_part i parts o b1 b2 {b = b} is h others = by_mark h.mark refl
    where
      by_mark : (mark : Bool) → h.mark ≡ mark → Begun (PartsKeys d most (i ∷ parts) (o % 8)) b
      by_mark false cuts = cut_first (λ x key. parts_cut key refl) b2 is h cuts
      by_mark true all =
          let agree = whole_word h all in
          both_words o (λ p x mark. PartsKeys d most parts p x mark) (λ x mark. PartsKeys d most (i ∷ parts) (o % 8) x mark) b1 b2 is h.word agree others
          (λ w2 rest x mark key c. parts_whole h.word w2 rest (marked_key h all) key c)

  pub first_time : (n i o m : ℕ) → n ≡ suc m → (b1 b2 : List ℕ) {b : List ℕ}
      → b ≡ b1 ++ b2 → Begun (InKeys d most i (o % 8)) b1 → Begun (TimesKeys d most m i ((o + length b1) % 8)) b2
      → Begun (TimesKeys d most n i (o % 8)) b
  first_time n i o m over b1 b2 {b = b} is h others = by_mark h.mark refl
    where
      by_mark : (mark : Bool) → h.mark ≡ mark → Begun (TimesKeys d most n i (o % 8)) b
      by_mark false cuts = cut_first (λ x key. times_cut m over key refl) b2 is h cuts
      by_mark true all =
          let agree = whole_word h all in
          both_words o (λ p x mark. TimesKeys d most m i p x mark) (λ x mark. TimesKeys d most n i (o % 8) x mark) b1 b2 is h.word agree others
          (λ w2 rest x mark key c. times_whole m over h.word w2 rest (marked_key h all) key c)

  mutual
    pub keys : {i o : ℕ} {v : Values} {b : List ℕ} {t : TreeV} → NMeans d i o v b t → Begun (InKeys d most i (o % 8)) b
    keys (means_at n at h) = as_key (λ x mark key. keys_at n at key) (node_keys h)

    pub node_keys : {n : Node} {o : ℕ} {v : Values} {b : List ℕ} {t : TreeV} → NodeMeans d n o v b t → Begun (NodeKeys d most n (o % 8)) b
    node_keys {n = n} {o = o} (means_lits {run = run} h) =
        all_of most (spelled run (o % 8)) (NodeKeys d most n (o % 8)) (h ∙ spelled-octet run o (o % 8) (omega arith)) (λ x mark c. keys_lits c)
    node_keys {n = n} {o = o} {b = b} (means_spare {s = s} one h) =
        all_of most b (NodeKeys d most n (o % 8)) refl (λ x mark c. keys_spare b one (one_spare d.reading s o b one h) c)
    node_keys {b = []} (means_pad some h) = absurd (omega arith)
    node_keys {n = n} {o = o} {b = a ∷ r} (means_pad some h) =
        shorter most (a ∷ []) false (NodeKeys d most n (o % 8)) r refl (λ yes. absurd (cc))
        (λ x mark c. keys_pad (a ∷ []) refl (first_spare d.reading Low o a r (a ∷ r) refl h) c)
    node_keys (means_null h) = no_bits h (keys_null refl refl)
    node_keys {o = o} {v = v} {b = b} (means_field {unit = unit} {count = count} n counts wide h) = field_key unit count v (o % 8) b counts wide h
    node_keys {b = b} (means_rest h) = unread b (keys_rest refl refl)
    node_keys (means_seq h) = as_key (λ x mark key. keys_seq key) (parts_keys h)
    node_keys (means_choice {j = j} at h) = as_key (λ x mark key. keys_choice j at key) (keys h)
    node_keys {o = o} {v = v} {b = b} (means_times {count = count} n counts h) = times_key count v (o % 8) b counts (times_keys h)
    node_keys {b = b} (means_many h) = unread b (keys_many refl refl)
    node_keys {b = b} (means_cut h) = unread b (keys_trunc refl refl)
    node_keys {b = b} (means_trunc h) = unread b (keys_trunc refl refl)
    node_keys {b = b} (means_window n counts wide h) = unread b (keys_window refl refl)
    node_keys (means_named h) = as_key (λ x mark key. keys_named key) (keys h)

    pub parts_keys : {parts : List ℕ} {o : ℕ} {v : Values} {b : List ℕ} {ts : Trees} → PartsMean d parts o v b ts → Begun (PartsKeys d most parts (o % 8)) b
    parts_keys (parts_end h) = no_bits h (parts_none refl refl)
    parts_keys {o = o} (parts_next {i = i} {parts = parts} b1 b2 is h others) = first_part i parts o b1 b2 is (keys h) (parts_keys others)

    pub times_keys : {n i o : ℕ} {v : Values} {b : List ℕ} {ts : Trees} → TimesMean d n i o v b ts → Begun (TimesKeys d most n i (o % 8)) b
    times_keys (times_end over h) = no_bits h (times_none over refl refl)
    times_keys {n = n} {i = i} {o = o} (times_next m over b1 b2 is h others) = first_time n i o m over b1 b2 is (keys h) (times_keys others)
