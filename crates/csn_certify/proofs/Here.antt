-- What the laws of csn_desc and csn_look say of one description.
use Rattle.std.proofs.Common.{◌≡◌, ℕ, ◌+◌, ◌%◌, Bool, List, [], ◌∷◌, ◌++◌, length, ap, subst, arith, length-append, Some, slice_get}
use Rattle.csn_desc.specs.declared.node.Count.{Count}
use Rattle.csn_desc.specs.declared.node.Node.TheVariants.{Seq, Choice, Times, Many, Named}
use Rattle.csn_desc.specs.TreeV.{TreeV, Trees}
use Rattle.csn_desc.specs.Nodes.{DescV}
use Rattle.csn_desc.specs.Values.{Values, with_value}
use Rattle.csn_desc.specs.Means.{NMeans, PartsMean, TimesMean, ManyMean, means_at, means_many}
use Rattle.csn_desc.specs.Follows.{NFollow, PartsFollow, TimesFollow, ManyFollow, follows_at, follows_many}
use Rattle.csn_desc.specs.Formed.{Formed, formed, IsDescription, FitWidths}
use Rattle.csn_look.specs.Nullable.{Nullable}
use Rattle.csn_look.specs.Ends.{InEnds, PartsEnd, parts_end, parts_next}
use Rattle.csn_desc.specs.Means as mean
use Rattle.csn_look.specs.Starts.{InStart, NodeStarts, starts_many}
use Rattle.csn_look.specs.Keys.{InKeys}
use Rattle.csn_look.specs.Beginnings.{Begun, Near}
use Rattle.csn_look.specs.Reached.{Reached, InFollow}
use Rattle.csn_look.proofs.Meaning.LeastSets.{as_starts}
use Rattle.csn_claims.proofs.Clear as clear
use Rattle.csn_certify.specs.Known.{Known}

pub record Here (d : DescV) : Type 0 where
  pub known : Known
  pub is : IsDescription d

pub here_of : Known → {d : DescV} → IsDescription d → Here d
here_of known is = record { known = known; is = is }

-- where node i ends at the octet position o, the bit may stand next
abbrev pub Follow : DescV → ℕ → ℕ → ℕ → Type 0
Follow d i o bit = InFollow d i o (Some bit)

-- behind bits b of node i, from the place o on, stand the bits x, of which the first may stand there
abbrev pub Stands : DescV → ℕ → ℕ → List ℕ → List ℕ → Type 0
Stands d i o b x = clear.Stands (Follow d) i o b x

-- a free repetition begins as its part does
pub many_starts : (d : DescV) {node part octet a : ℕ} → slice_get d.nodes node ≡ Some (Many part) → InStart d node octet a → InStart d part octet a
many_starts d {part = part} {octet = octet} {a = a} at h = of_many (as_starts at h)
  where
    of_many : NodeStarts d (Many part) octet a → InStart d part octet a
    of_many (starts_many s) = s

pub record AKey (d : DescV) (most i o : ℕ) : Type 0 where
  pub word : List ℕ
  pub mark : Bool
  pub key : InKeys d most i o word mark

module _ (d : DescV) (here : Here d) where
  -- ---- bits

  pub fits_kept : {i o : ℕ} {v : Values} {b : List ℕ} {t : TreeV} → FitWidths d v → NMeans d i o v b t → FitWidths d (with_value d.nodes i b v)
  fits_kept {i} {o} {v} {b} {t} widths h = here.known.fitting d i o v b t widths h

  pub nullable : {i o : ℕ} {v : Values} {b : List ℕ} {t : TreeV} → NMeans d i o v b t → b ≡ [] → Nullable d i
  nullable {i} {o} {v} {t = t} h nothing =
      let P : List ℕ → Type 0 = λ l. NMeans d i o v l t in here.known.nullable d i o v t here.is (subst P nothing h)

  pub ends : {i o : ℕ} {v : Values} {b : List ℕ} {t : TreeV} → FitWidths d v → NMeans d i o v b t → InEnds d i (o % 8) ((o + length b) % 8)
  ends {i} {o} {v} {b} {t} widths h = here.known.ends d i o v b t here.is widths h

  pub parts_ends : {parts : List ℕ} {o : ℕ} {v : Values} {b : List ℕ} {ts : Trees}
      → FitWidths d v → PartsMean d parts o v b ts → PartsEnd d parts (o % 8) ((o + length b) % 8)
  parts_ends {o = o} {b = b} widths (mean.parts_end nothing) = let size = ap length nothing in parts_end (omega arith)
  parts_ends {parts = i ∷ parts} {o = o} {b = b} widths (mean.parts_next b1 b2 cut h others) =
      let size = ap length cut in
      let place : o + length b1 + length b2 ≡ o + length b = omega (arith, size, length-append b1 b2) in
      let P : ℕ → Type 0 = λ p. PartsEnd d parts ((o + length b1) % 8) (p % 8) in
      parts_next ((o + length b1) % 8) (ends widths h) (subst P place (parts_ends (fits_kept widths h) others))

  pub starts : {i o : ℕ} {v : Values} {b : List ℕ} {t : TreeV} (a : ℕ) (r : List ℕ) → b ≡ a ∷ r → FitWidths d v → NMeans d i o v b t → InStart d i (o % 8) a
  starts {i} {o} {v} {t = t} a r is widths h =
      let P : List ℕ → Type 0 = λ l. NMeans d i o v l t in here.known.starts d i o a v r t here.is widths (subst P is h)

  pub follows : {i o : ℕ} {v : Values} {b : List ℕ} (a : ℕ) (r : List ℕ) → b ≡ a ∷ r → FitWidths d v → NFollow d i o v b → InStart d i (o % 8) a
  follows {i} {o} {v} a r is widths h =
      let P : List ℕ → Type 0 = λ l. NFollow d i o v l in here.known.follows d i o a v r here.is widths (subst P is h)

  pub many_start : {i o : ℕ} {v : Values} {b : List ℕ} {ts : Trees} (k a : ℕ) (r : List ℕ)
      → slice_get d.nodes k ≡ Some (Many i) → b ≡ a ∷ r → FitWidths d v → ManyMean d i o v b ts
      → InStart d i (o % 8) a
  many_start {i = i} k a r at is widths h = many_starts d at (starts a r is widths (means_at (Many i) at (means_many h)))

  pub many_follow_start : {i o : ℕ} {v : Values} {b : List ℕ} (k a : ℕ) (r : List ℕ)
      → slice_get d.nodes k ≡ Some (Many i) → b ≡ a ∷ r → FitWidths d v → ManyFollow d i o v b → InStart d i (o % 8) a
  many_follow_start {i = i} k a r at is widths h = many_starts d at (follows a r is widths (follows_at (Many i) at (follows_many h)))

  -- ---- keys

  pub keys : (most : ℕ) {i o : ℕ} {v : Values} {b : List ℕ} {t : TreeV} → NMeans d i o v b t → Begun (InKeys d most i (o % 8)) b
  keys most {i} {o} {v} {b} {t} h = here.known.keys d most i o v b t h

  pub near_keys : (most : ℕ) {i o : ℕ} {v : Values} {b : List ℕ} → NFollow d i o v b → Near (InKeys d most i (o % 8)) b
  near_keys most {i} {o} {v} {b} h = here.known.near d most i o v b here.is h

  pub has_key : (most : ℕ) {seen : List ℕ} {round i : ℕ} (o : ℕ) → Formed d.nodes seen round i → AKey d most i o
  has_key most {i = i} o (formed n at few head have room held) =
      let key = here.known.some_key d most i o n here.is at in record { word = key.0; mark = key.1; key = key.2 }

  pub key_start : (most : ℕ) {i : ℕ} {word : List ℕ} {mark : Bool} (o a : ℕ) (r : List ℕ)
      → word ≡ a ∷ r → InKeys d most i (o % 8) word mark → InStart d i (o % 8) a
  key_start most {i} {mark = mark} o a r is h =
      let P : List ℕ → Type 0 = λ l. InKeys d most i (o % 8) l mark in
      here.known.key_start d most i o a r mark here.is (subst P is h)

  -- ---- what stands behind a part: bits of the later ones, or such that these follow

  pub choice_reached : {k i o : ℕ} {parts : List ℕ} (j : ℕ) → slice_get d.nodes k ≡ Some (Choice parts)
      → slice_get parts j ≡ Some i → Reached d k o → Reached d i o
  choice_reached {k} {i} {o} {parts} j at at_j reached = here.known.choice_reached d k j i o parts at at_j reached

  pub choice_stands : {k i o : ℕ} {parts b x : List ℕ} (j : ℕ) → slice_get d.nodes k ≡ Some (Choice parts)
      → slice_get parts j ≡ Some i → Stands d k o b x → Stands d i o b x
  choice_stands {k} {i} {o} {parts} {b} {x} j at at_j s = record { behind = here.known.choice d k j i ((o + length b) % 8) parts x at at_j s.behind }

  pub named_stands : {k i o : ℕ} {label b x : List ℕ} → slice_get d.nodes k ≡ Some (Named label i) → Stands d k o b x → Stands d i o b x
  named_stands {k} {i} {o} {label} {b} {x} at s = record { behind = here.known.label d k i ((o + length b) % 8) label x at s.behind }

  pub seq_stands : {k i o : ℕ} {v : Values} {parts after b2 x : List ℕ} {ts : Trees} (before b1 : List ℕ)
      → slice_get d.nodes k ≡ Some (Seq parts) → parts ≡ before ++ i ∷ after → FitWidths d v
      → PartsMean d after (o + length b1) v b2 ts → Stands d k (o + length b1) b2 x → Stands d i o b1 (b2 ++ x)
  seq_stands {k} {i} {o} {v} {parts} {after} {b2} {x} {ts} before b1 at is widths h s =
      record { behind = here.known.sequence d k i (o + length b1) parts before after v b2 x ts here.is at is widths h s.behind }

  pub times_stands : {k i n o : ℕ} {count : Count} {v : Values} {b2 x : List ℕ} {ts : Trees} (b1 : List ℕ)
      → slice_get d.nodes k ≡ Some (Times count i) → FitWidths d v → TimesMean d n i (o + length b1) v b2 ts
      → Stands d k (o + length b1) b2 x → Stands d i o b1 (b2 ++ x)
  times_stands {k} {i} {n} {o} {count} {v} {b2} {x} {ts} b1 at widths h s =
      record { behind = here.known.times d k i (o + length b1) n count v b2 x ts here.is at widths h s.behind }

  pub many_stands : {k i o : ℕ} {v : Values} {b2 x : List ℕ} {ts : Trees} (b1 : List ℕ)
      → slice_get d.nodes k ≡ Some (Many i) → FitWidths d v → ManyMean d i (o + length b1) v b2 ts
      → Stands d k (o + length b1) b2 x → Stands d i o b1 (b2 ++ x)
  many_stands {k} {i} {o} {v} {b2} {x} {ts} b1 at widths h s =
      record { behind = here.known.many d k i (o + length b1) v b2 x ts here.is at widths h s.behind }

  pub seq_stands_followed : {i o : ℕ} {v : Values} {parts after b2 : List ℕ} (k : ℕ) (before b1 : List ℕ)
      → slice_get d.nodes k ≡ Some (Seq parts) → parts ≡ before ++ i ∷ after → FitWidths d v
      → PartsFollow d after (o + length b1) v b2 → Stands d i o b1 b2
  seq_stands_followed {i} {o} {v} {parts} {after} {b2} k before b1 at is widths h =
      record { behind = here.known.sequence_followed d k i (o + length b1) parts before after v b2 here.is at is widths h }

  pub times_stands_followed : {i n o : ℕ} {count : Count} {v : Values} {b2 : List ℕ} (k : ℕ) (b1 : List ℕ)
      → slice_get d.nodes k ≡ Some (Times count i) → FitWidths d v → TimesFollow d n i (o + length b1) v b2
      → Stands d i o b1 b2
  times_stands_followed {i} {n} {o} {count} {v} {b2} k b1 at widths h =
      record { behind = here.known.times_followed d k i (o + length b1) n count v b2 here.is at widths h }

  pub many_stands_followed : {i o : ℕ} {v : Values} {b2 : List ℕ} (k : ℕ) (b1 : List ℕ)
      → slice_get d.nodes k ≡ Some (Many i) → FitWidths d v → ManyFollow d i (o + length b1) v b2 → Stands d i o b1 b2
  many_stands_followed {i} {o} {v} {b2} k b1 at widths h =
      record { behind = here.known.many_followed d k i (o + length b1) v b2 here.is at widths h }
