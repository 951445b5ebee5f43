-- Bits that have a tree, and bits that are followed, begin with a bit that the node may begin with.
use Rattle.std.proofs.Common.{◌≡◌, ℕ, ◌+◌, ◌-◌, ◌%◌, ◌≤◌, List, [], ◌∷◌, ◌++◌, length, refl, sym, ◌∙◌, ap, subst, arith}
use Rattle.std.specs.Prelude.{replicate}
use Rattle.csn_bits.specs.Octets.{IsBits, pattern}
use Rattle.csn_desc.specs.declared.reading.Reading.{Reading}
use Rattle.csn_desc.specs.declared.reading.Reading.TheVariants.{Received, Sent}
use Rattle.csn_desc.specs.declared.symbol.Symbol.{Symbol}
use Rattle.csn_desc.specs.declared.symbol.Symbol.TheVariants.{Zero, One, Low, High}
use Rattle.csn_desc.specs.declared.node.Node.{Node}
use Rattle.csn_desc.specs.TreeV.{TreeV, Trees}
use Rattle.csn_desc.specs.Nodes.{DescV}
use Rattle.csn_desc.specs.Spelled.{symbol_bit, spelled, IsSpare}
use Rattle.csn_desc.specs.Values.{Values}
use Rattle.csn_desc.specs.Means.{NMeans, NodeMeans, PartsMean, TimesMean, ManyMean, LeadMean, means_at, means_lits}
use Rattle.csn_desc.specs.Means.{means_spare, means_pad, means_null, means_field, means_rest, means_seq, means_choice}
use Rattle.csn_desc.specs.Means.{means_times, means_many, means_cut, means_trunc, means_window, means_named}
use Rattle.csn_desc.specs.Means.{parts_end, parts_next, times_end, times_next, many_end, many_next, lead_last}
use Rattle.csn_desc.specs.Means.{lead_next}
use Rattle.csn_desc.specs.Follows.{NFollow, NodeFollows, PartsFollow, TimesFollow, ManyFollow, follows_at}
use Rattle.csn_desc.specs.Follows.{follows_whole, follows_lits, follows_spare, follows_pad, follows_field}
use Rattle.csn_desc.specs.Follows.{follows_seq, follows_choice, follows_times, follows_many, follows_trunc}
use Rattle.csn_desc.specs.Follows.{follows_window, follows_named, parts_here, parts_later, times_here, times_later}
use Rattle.csn_desc.specs.Follows.{many_here, many_later}
use Rattle.csn_desc.specs.Formed.{FitWidths}
use Rattle.csn_desc.proofs.BitFacts.{IsBits-along}
use Rattle.csn_look.specs.Starts.{InStart, NodeStarts, PartsStart, starts_lits, starts_spare, starts_pad}
use Rattle.csn_look.specs.Starts.{starts_field, starts_rest, starts_seq, starts_trunc, starts_choice, starts_times}
use Rattle.csn_look.specs.Starts.{starts_many, starts_window, starts_named, starts_here, starts_later}
use Rattle.csn_look.proofs.Meaning.LeastSets.{starts_at}
use Rattle.csn_look.proofs.Meaning.ShapeFacts.{NodeIs, Shaped, kept}
use Rattle.csn_look.proofs.Meaning.NullableFacts.{nullable}
use Rattle.csn_look.proofs.Meaning.EndsFacts.{ends}

-- ---- symbols at an octet position

pub symbol_bit-octet : (s : Symbol) (o : ℕ) → symbol_bit s o ≡ symbol_bit s (o % 8)
symbol_bit-octet Zero o = refl
symbol_bit-octet One o = refl
symbol_bit-octet Low o = let same : o % 8 ≡ o % 8 % 8 = omega arith in ap (λ p. pattern p) same
symbol_bit-octet High o = let same : o % 8 ≡ o % 8 % 8 = omega arith in ap (λ p. 1 - pattern p) same

-- the first bit of a spare part
pub first_spare : (reading : Reading) (s : Symbol) (o a : ℕ) (r b : List ℕ) → b ≡ a ∷ r → IsSpare reading s o b → IsSpare reading s (o % 8) (a ∷ [])
first_spare Received s o a r b is h = let both : IsBits (a ∷ r) = IsBits-along (sym is) h in (both.0, tt)
first_spare Sent s o a r b is h =
    let spelt : a ∷ r ≡ spelled (replicate (length (a ∷ r)) s) o = sym is ∙ h ∙ ap (λ l. spelled (replicate (length l) s) o) is in
    let first : a ≡ symbol_bit s o = cc in
    ap (λ x. x ∷ []) (first ∙ symbol_bit-octet s o)

pub bit_is : (a : ℕ) (r b : List ℕ) → b ≡ a ∷ r → IsBits b → a ≤ 1
bit_is a r b is h = let both : IsBits (a ∷ r) = IsBits-along (sym is) h in both.0

module _ (d : DescV) (shaped : Shaped d) where
  start_same : {i : ℕ} (o p a : ℕ) → p ≡ o → InStart d i (p % 8) a → InStart d i (o % 8) a
  start_same {i = i} o p a same h = let P : ℕ → Type 0 = λ p. InStart d i (p % 8) a in subst P same h

  mutual
    pub starts : {i o : ℕ} {v : Values} {b : List ℕ} {t : TreeV} (a : ℕ) (r : List ℕ) → b ≡ a ∷ r → FitWidths d v → NMeans d i o v b t → InStart d i (o % 8) a
    starts {i = i} a r is widths (means_at n at h) = starts_at n at (node_starts a r is (shaped.node i n at) widths h)

    node_starts : {n : Node} {o : ℕ} {v : Values} {b : List ℕ} {t : TreeV} (a : ℕ) (r : List ℕ)
        → b ≡ a ∷ r → NodeIs d.nodes n → FitWidths d v → NodeMeans d n o v b t → NodeStarts d n (o % 8) a
    node_starts a r is shape widths (means_lits {run = []} h) = absurd (cc)
    node_starts {o = o} a r is shape widths (means_lits {run = s ∷ run} h) =
        let first : a ≡ symbol_bit s o = cc in starts_lits (first ∙ symbol_bit-octet s o)
    node_starts {o = o} {b = b} a r is shape widths (means_spare {s = s} one h) = starts_spare (first_spare d.reading s o a r b is h)
    node_starts {o = o} {b = b} a r is shape widths (means_pad some h) = starts_pad (first_spare d.reading Low o a r b is h)
    node_starts a r is shape widths (means_null h) = absurd (cc)
    node_starts {b = b} a r is shape widths (means_field n counts wide h) = starts_field (bit_is a r b is h)
    node_starts {b = b} a r is shape widths (means_rest h) = starts_rest (bit_is a r b is h)
    node_starts a r is shape widths (means_seq h) = starts_seq (parts_start a r is widths h)
    node_starts a r is shape widths (means_choice {j = j} at h) = starts_choice j at (starts a r is widths h)
    node_starts a r is shape widths (means_times n counts h) = starts_times (times_start a r is widths h)
    node_starts a r is shape widths (means_many h) = starts_many (many_start a r is widths h)
    node_starts a r is shape widths (means_cut h) = absurd (cc)
    node_starts a r is shape widths (means_trunc h) = starts_trunc (lead_start a r is widths h)
    node_starts a r is shape widths (means_window n counts wide h) = starts_window (starts a r is widths h)
    node_starts a r is shape widths (means_named h) = starts_named (starts a r is widths h)

    pub parts_start : {parts : List ℕ} {o : ℕ} {v : Values} {b : List ℕ} {ts : Trees} (a : ℕ) (r : List ℕ)
        → b ≡ a ∷ r → FitWidths d v → PartsMean d parts o v b ts → PartsStart d parts (o % 8) a
    parts_start a r is widths (parts_end h) = absurd (cc)
    parts_start {o = o} a r is widths (parts_next [] b2 cut h others) =
        starts_later ((o + length {A = ℕ} []) % 8) (nullable d shaped h refl)
        (ends d shaped (o + length {A = ℕ} []) refl widths h)
        (parts_start a r (sym cut ∙ is) (kept d shaped widths h) others)
    parts_start a r is widths (parts_next (x ∷ b1) b2 cut h others) =
        let same : x ∷ b1 ≡ a ∷ b1 = cc in starts_here (starts a b1 same widths h)

    pub times_start : {n i o : ℕ} {v : Values} {b : List ℕ} {ts : Trees} (a : ℕ) (r : List ℕ)
        → b ≡ a ∷ r → FitWidths d v → TimesMean d n i o v b ts → InStart d i (o % 8) a
    times_start a r is widths (times_end over h) = absurd (cc)
    times_start {o = o} a r is widths (times_next m over [] b2 cut h others) =
        start_same o (o + length {A = ℕ} []) a (omega arith) (times_start a r (sym cut ∙ is) widths others)
    times_start a r is widths (times_next m over (x ∷ b1) b2 cut h others) =
        let same : x ∷ b1 ≡ a ∷ b1 = cc in starts a b1 same widths h

    pub many_start : {i o : ℕ} {v : Values} {b : List ℕ} {ts : Trees} (a : ℕ) (r : List ℕ)
        → b ≡ a ∷ r → FitWidths d v → ManyMean d i o v b ts → InStart d i (o % 8) a
    many_start a r is widths (many_end h) = absurd (cc)
    many_start a r is widths (many_next [] b2 cut some h others) = absurd (omega arith)
    many_start a r is widths (many_next (x ∷ b1) b2 cut some h others) =
        let same : x ∷ b1 ≡ a ∷ b1 = cc in starts a b1 same widths h

    pub lead_start : {parts : List ℕ} {o : ℕ} {v : Values} {b : List ℕ} {ts : Trees} (a : ℕ) (r : List ℕ)
        → b ≡ a ∷ r → FitWidths d v → LeadMean d parts o v b ts → PartsStart d parts (o % 8) a
    lead_start a r is widths (lead_last some h) = starts_here (starts a r is widths h)
    lead_start {o = o} a r is widths (lead_next [] b2 cut h others) =
        starts_later ((o + length {A = ℕ} []) % 8) (nullable d shaped h refl)
        (ends d shaped (o + length {A = ℕ} []) refl widths h)
        (lead_start a r (sym cut ∙ is) (kept d shaped widths h) others)
    lead_start a r is widths (lead_next (x ∷ b1) b2 cut h others) =
        let same : x ∷ b1 ≡ a ∷ b1 = cc in starts_here (starts a b1 same widths h)

  -- ---- of followed bits

  whole_is : (a : ℕ) (r rest : List ℕ) {b whole : List ℕ} → b ≡ a ∷ r → whole ≡ b ++ rest → whole ≡ a ∷ (r ++ rest)
  whole_is a r rest is cut = cut ∙ ap (λ l. l ++ rest) is

  mutual
    pub follows : {i o : ℕ} {v : Values} {b : List ℕ} (a : ℕ) (r : List ℕ) → b ≡ a ∷ r → FitWidths d v → NFollow d i o v b → InStart d i (o % 8) a
    follows {i = i} a r is widths (follows_at n at h) = starts_at n at (node_follows a r is (shaped.node i n at) widths h)

    node_follows : {n : Node} {o : ℕ} {v : Values} {b : List ℕ} (a : ℕ) (r : List ℕ) → b ≡ a ∷ r → NodeIs d.nodes n
        → FitWidths d v → NodeFollows d n o v b → NodeStarts d n (o % 8) a
    node_follows a r is shape widths (follows_whole t h) = node_starts a r is shape widths h
    node_follows a r is shape widths (follows_lits whole rest cut h) = node_starts a (r ++ rest) (whole_is a r rest is cut) shape widths h
    node_follows a r is shape widths (follows_spare whole rest cut h) = node_starts a (r ++ rest) (whole_is a r rest is cut) shape widths h
    node_follows a r is shape widths (follows_pad whole rest cut h) = node_starts a (r ++ rest) (whole_is a r rest is cut) shape widths h
    node_follows a r is shape widths (follows_field whole rest cut h) = node_starts a (r ++ rest) (whole_is a r rest is cut) shape widths h
    node_follows a r is shape widths (follows_seq h) = starts_seq (parts_follow_start a r is widths h)
    node_follows a r is shape widths (follows_choice j at h) = starts_choice j at (follows a r is widths h)
    node_follows a r is shape widths (follows_times n counts h) = starts_times (times_follow_start a r is widths h)
    node_follows a r is shape widths (follows_many h) = starts_many (many_follow_start a r is widths h)
    node_follows a r is shape widths (follows_trunc h) = starts_trunc (parts_follow_start a r is widths h)
    node_follows a r is shape widths (follows_window n counts wide h) = starts_window (follows a r is widths h)
    node_follows a r is shape widths (follows_named h) = starts_named (follows a r is widths h)

    pub parts_follow_start : {parts : List ℕ} {o : ℕ} {v : Values} {b : List ℕ} (a : ℕ) (r : List ℕ)
        → b ≡ a ∷ r → FitWidths d v → PartsFollow d parts o v b → PartsStart d parts (o % 8) a
    parts_follow_start a r is widths (parts_here h) = starts_here (follows a r is widths h)
    parts_follow_start {o = o} a r is widths (parts_later [] b2 cut h others) =
        starts_later ((o + length {A = ℕ} []) % 8) (nullable d shaped h refl)
        (ends d shaped (o + length {A = ℕ} []) refl widths h)
        (parts_follow_start a r (sym cut ∙ is) (kept d shaped widths h) others)
    parts_follow_start a r is widths (parts_later (x ∷ b1) b2 cut h others) =
        let same : x ∷ b1 ≡ a ∷ b1 = cc in starts_here (starts a b1 same widths h)

    pub times_follow_start : {n i o : ℕ} {v : Values} {b : List ℕ} (a : ℕ) (r : List ℕ)
        → b ≡ a ∷ r → FitWidths d v → TimesFollow d n i o v b → InStart d i (o % 8) a
    times_follow_start a r is widths (times_here some h) = follows a r is widths h
    times_follow_start {o = o} a r is widths (times_later m over [] b2 cut h others) =
        start_same o (o + length {A = ℕ} []) a (omega arith) (times_follow_start a r (sym cut ∙ is) widths others)
    times_follow_start a r is widths (times_later m over (x ∷ b1) b2 cut h others) =
        let same : x ∷ b1 ≡ a ∷ b1 = cc in starts a b1 same widths h

    pub many_follow_start : {i o : ℕ} {v : Values} {b : List ℕ} (a : ℕ) (r : List ℕ) → b ≡ a ∷ r → FitWidths d v → ManyFollow d i o v b → InStart d i (o % 8) a
    many_follow_start a r is widths (many_here h) = follows a r is widths h
    many_follow_start a r is widths (many_later [] b2 cut some h others) = absurd (omega arith)
    many_follow_start a r is widths (many_later (x ∷ b1) b2 cut some h others) =
        let same : x ∷ b1 ≡ a ∷ b1 = cc in starts a b1 same widths h
