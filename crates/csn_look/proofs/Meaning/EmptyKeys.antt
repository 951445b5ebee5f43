-- Whether the empty word is a key of a node does not depend on the octet position.
use Rattle.std.proofs.Common.{◌≡◌, ℕ, zero, suc, ◌+◌, ◌%◌, ◌<◌, Bool, List, [], ◌∷◌, ◌++◌, length, refl, sym, ap, ◌∙◌, arith}
use Rattle.csn_desc.specs.declared.symbol.Symbol.{Symbol}
use Rattle.csn_desc.specs.declared.node.Node.{Node}
use Rattle.csn_desc.specs.Nodes.{DescV}
use Rattle.csn_desc.specs.Spelled.{spelled}
use Rattle.csn_desc.proofs.Splits.{front_empty, rest_empty}
use Rattle.csn_look.specs.Keys.{Cut, kept, cut, InKeys, NodeKeys, PartsKeys, TimesKeys, keys_lits}
use Rattle.csn_look.specs.Keys.{keys_spare, keys_field, keys_pad, keys_null, keys_rest, keys_many, keys_trunc}
use Rattle.csn_look.specs.Keys.{keys_window, keys_counted_field, keys_counted_times, keys_seq, keys_times}
use Rattle.csn_look.specs.Keys.{keys_choice, keys_named, parts_none, parts_cut, parts_whole, times_none, times_cut}
use Rattle.csn_look.specs.Keys.{times_whole}
use Rattle.csn_equations.specs.Keys as equation
use Rattle.csn_look.proofs.Meaning.LeastSets.{keys_at, KeysWith, each_key}

-- what is left empty was empty, and keeps its mark
pub record WasEmpty (w : List ℕ) (whole mark : Bool) : Type 0 where
  pub word : w ≡ []
  pub same : mark ≡ whole

pub cut_empty : {most : ℕ} {w x : List ℕ} {whole mark : Bool} → 0 < most → Cut most w whole x mark → x ≡ [] → WasEmpty w whole mark
cut_empty some (kept short is same) none = record { word = sym is ∙ none; same = same }
cut_empty {most = zero} some (cut long is same) none = absurd (omega arith)
cut_empty {most = suc m} {w = []} some (cut long is same) none = absurd (omega arith)
cut_empty {most = suc m} {w = a ∷ w} some (cut long is same) none = absurd (cc)

pub empty_cut : {most : ℕ} {whole mark : Bool} (w : List ℕ) → w ≡ [] → mark ≡ whole → Cut most w whole [] mark
empty_cut w none same = kept (rw none (omega arith)) (sym none) same

pub no_words : (a b : List ℕ) → a ++ b ≡ [] → (a ≡ []) × (b ≡ [])
no_words a b none = (front_empty a b none, rest_empty a b none)

spelled-none : (run : List Symbol) (o p : ℕ) → spelled run o ≡ [] → spelled run p ≡ []
spelled-none [] o p none = refl
spelled-none (s ∷ run) o p none = absurd (cc)

pub one_is_some : (w : List ℕ) → length w ≡ 1 → w ≡ [] → ⊥
one_is_some w one none = let e = ap length none in omega arith

-- a key that is empty is one at each octet position
abbrev pub IsAnywhere : DescV → ℕ → ℕ → ℕ → List ℕ → Bool → Type 0
IsAnywhere d most i o x mark = (p : ℕ) → x ≡ [] → InKeys d most i p [] mark

module _ (d : DescV) (most : ℕ) (some : 0 < most) (P : ℕ → ℕ → List ℕ → Bool → Type 0)
    (anywhere : (i o : ℕ) (x : List ℕ) (mark : Bool) → P i o x mark → IsAnywhere d most i o x mark) where
  parts_key : {parts : List ℕ} {o : ℕ} {x : List ℕ} {mark : Bool} (p : ℕ) → equation.PartsKeys most P parts o x mark
      → x ≡ [] → PartsKeys d most parts p [] mark
  parts_key p (parts_none e m) none = parts_none refl m
  parts_key p (parts_cut h m) none = parts_cut (anywhere _ _ _ _ h p none) m
  parts_key p (parts_whole w1 w2 rest h hs c) none =
      let was = cut_empty some c none in
      let both = no_words w1 w2 was.word in
      parts_whole [] [] rest (anywhere _ _ _ _ h p both.0) (parts_key ((p + length {A = ℕ} []) % 8) hs both.1) (empty_cut [] refl was.same)

  times_key : {n i o : ℕ} {x : List ℕ} {mark : Bool} (p : ℕ) → equation.TimesKeys most P n i o x mark → x ≡ [] → TimesKeys d most n i p [] mark
  times_key p (times_none e f m) none = times_none e refl m
  times_key p (times_cut m is h mark) none = times_cut m is (anywhere _ _ _ _ h p none) mark
  times_key p (times_whole m is w1 w2 rest h hs c) none =
      let was = cut_empty some c none in
      let both = no_words w1 w2 was.word in
      times_whole m is [] [] rest (anywhere _ _ _ _ h p both.0) (times_key ((p + length {A = ℕ} []) % 8) hs both.1) (empty_cut [] refl was.same)

  node_key : {n : Node} {o : ℕ} {x : List ℕ} {mark : Bool} (p : ℕ) → equation.NodeKeys d most P n o x mark → x ≡ [] → NodeKeys d most n p [] mark
  node_key {o = o} p (keys_lits {run = run} h) none =
      let was = cut_empty some h none in
      keys_lits (empty_cut (spelled run p) (spelled-none run o p was.word) was.same)
  node_key p (keys_spare w one spare h) none = absurd (one_is_some w one (cut_empty some h none).word)
  node_key p (keys_field w wide bits h) none =
      let was = cut_empty some h none in keys_field w wide bits (empty_cut w was.word was.same)
  node_key p (keys_pad w one spare h) none = absurd (one_is_some w one (cut_empty some h none).word)
  node_key p (keys_null e m) none = keys_null refl m
  node_key p (keys_rest e m) none = keys_rest refl m
  node_key p (keys_many e m) none = keys_many refl m
  node_key p (keys_trunc e m) none = keys_trunc refl m
  node_key p (keys_window e m) none = keys_window refl m
  node_key p (keys_counted_field e m) none = keys_counted_field refl m
  node_key p (keys_counted_times e m) none = keys_counted_times refl m
  node_key p (keys_seq h) none = keys_seq (parts_key p h none)
  node_key p (keys_times h) none = keys_times (times_key p h none)
  node_key p (keys_choice j at h) none = keys_choice j at (anywhere _ _ _ _ h p none)
  node_key p (keys_named h) none = keys_named (anywhere _ _ _ _ h p none)

module _ (d : DescV) (most : ℕ) (some : 0 < most) where
  pub empty_key : {i o : ℕ} {x : List ℕ} {mark : Bool} (p : ℕ) → InKeys d most i o x mark → x ≡ [] → InKeys d most i p [] mark
  empty_key p h =
      each_key (IsAnywhere d most) (λ i o x mark made q none. keys_at made.node made.at
      (node_key d most some (KeysWith d most (IsAnywhere d most)) (λ j r y m key. key.1) q made.has none)) h p
