-- Each first piece of a key is followed, where the node is well formed and what it sees has values.
use Rattle.std.proofs.Common.{◌≡◌, ℕ, suc, ◌+◌, ◌%◌, Bool, true, List, [], ◌∷◌, ◌++◌, length, refl, sym, ◌∙◌, ap}
use Rattle.std.proofs.Common.{subst, arith, append_assoc, append-nil, Some, slice_get}
use Rattle.csn_desc.specs.declared.symbol.Symbol.TheVariants.{Low}
use Rattle.csn_desc.specs.declared.node.Count.{Count}
use Rattle.csn_desc.specs.declared.node.Node.{Node}
use Rattle.csn_desc.specs.declared.node.Node.TheVariants.{Seq, Times}
use Rattle.csn_desc.specs.TreeV.{TreeV, row, Trees, none, more}
use Rattle.csn_desc.specs.Nodes.{DescV, parts_of}
use Rattle.csn_desc.specs.Spelled.{spelled}
use Rattle.csn_desc.specs.Values.{Values, count_of, with_value}
use Rattle.csn_desc.specs.Means.{NMeans, PartsMean, TimesMean, means_lits, means_spare, means_pad, means_field}
use Rattle.csn_desc.specs.Means.{means_seq, means_times, parts_end, parts_next, times_end, times_next}
use Rattle.csn_desc.specs.Follows.{NFollow, NodeFollows, PartsFollow, TimesFollow, follows_at, follows_whole}
use Rattle.csn_desc.specs.Follows.{follows_lits, follows_spare, follows_pad, follows_field, follows_seq}
use Rattle.csn_desc.specs.Follows.{follows_choice, follows_times, follows_named, parts_here, parts_later, times_here}
use Rattle.csn_desc.specs.Follows.{times_later}
use Rattle.csn_desc.specs.Formed.{shows_earlier, Formed, PartsFormed, formed, formed_next, HaveValues}
use Rattle.csn_desc.specs.Laws.{PrefixesAreFollowed, EmptyBitsAreFollowed, ValuesStayThere}
use Rattle.csn_desc.proofs.Nodewise.{follow_at, held_along, choice_formed}
use Rattle.csn_look.specs.Keys.{InKeys, keys_lits, keys_spare, keys_field}
use Rattle.csn_look.specs.Keys.{keys_pad, keys_null, keys_rest, keys_many, keys_trunc, keys_window}
use Rattle.csn_look.specs.Keys.{keys_counted_field, keys_counted_times, keys_seq, keys_times, keys_choice, keys_named}
use Rattle.csn_look.specs.Keys.{parts_none, parts_cut, parts_whole, times_none, times_cut, times_whole}
use Rattle.csn_equations.specs.Least.{NodeHas}
use Rattle.csn_equations.specs.Keys as equation
use Rattle.csn_look.proofs.Meaning.LeastSets.{KeysWith, each_key}
use Rattle.csn_look.proofs.Meaning.KeyFacts.{spelled-octet}
use Rattle.csn_look.proofs.Meaning.KeyMeant.{cut_rest, spare_at, octet_next, octet_again, key_meant}

module _ (d : DescV) (most : ℕ) (prefixes : PrefixesAreFollowed) (empties : EmptyBitsAreFollowed) (there : ValuesStayThere) where
  -- bits, with these first, that some parts follow or have trees for all of
  data Extends (parts : List ℕ) (o : ℕ) (v : Values) (x : List ℕ) : Type 0 where
    extends_follow : (w rest : List ℕ) → w ≡ x ++ rest → PartsFollow d parts o v w → Extends parts o v x
    extends_whole : (w rest : List ℕ) (ts : Trees) → w ≡ x ++ rest → PartsMean d parts o v w ts → Extends parts o v x

  data ExtendsTimes (n i o : ℕ) (v : Values) (x : List ℕ) : Type 0 where
    times_follow : (w rest : List ℕ) → w ≡ x ++ rest → TimesFollow d n i o v w → ExtendsTimes n i o v x
    times_mean : (w rest : List ℕ) (ts : Trees) → w ≡ x ++ rest → TimesMean d n i o v w ts → ExtendsTimes n i o v x

  -- a first part, and the others behind it
  extends_next : {i : ℕ} {parts : List ℕ} {o : ℕ} {v : Values} {t : TreeV} {x : List ℕ} (w1 w2 left : List ℕ)
      → w1 ++ w2 ≡ x ++ left → NMeans d i o v w1 t → Extends parts (o + length w1) (with_value d.nodes i w1 v) w2
      → Extends (i ∷ parts) o v x
  extends_next {x = x} w1 w2 left is h (extends_follow w rest cut others) =
      extends_follow (w1 ++ w) (left ++ rest) (ap (λ l. w1 ++ l) cut ∙ sym (append_assoc w1 w2 rest)
      ∙ ap (λ l. l ++ rest) is ∙ append_assoc x left rest) (parts_later w1 w refl h others)
  extends_next {t = t} {x = x} w1 w2 left is h (extends_whole w rest ts cut others) =
      extends_whole (w1 ++ w) (left ++ rest) (more t ts) (ap (λ l. w1 ++ l) cut ∙ sym (append_assoc w1 w2 rest)
      ∙ ap (λ l. l ++ rest) is ∙ append_assoc x left rest) (parts_next w1 w refl h others)

  turn_next : {m n i o : ℕ} {v : Values} {t : TreeV} {x : List ℕ} (w1 w2 left : List ℕ)
      → n ≡ suc m → w1 ++ w2 ≡ x ++ left → NMeans d i o v w1 t → ExtendsTimes m i (o + length w1) v w2
      → ExtendsTimes n i o v x
  turn_next {m = m} {x = x} w1 w2 left over is h (times_follow w rest cut others) =
      times_follow (w1 ++ w) (left ++ rest) (ap (λ l. w1 ++ l) cut ∙ sym (append_assoc w1 w2 rest)
      ∙ ap (λ l. l ++ rest) is ∙ append_assoc x left rest) (times_later m over w1 w refl h others)
  turn_next {m = m} {t = t} {x = x} w1 w2 left over is h (times_mean w rest ts cut others) =
      times_mean (w1 ++ w) (left ++ rest) (more t ts) (ap (λ l. w1 ++ l) cut ∙ sym (append_assoc w1 w2 rest)
      ∙ ap (λ l. l ++ rest) is ∙ append_assoc x left rest) (times_next m over w1 w refl h others)

  -- the first few of what a node follows
  front_followed : {n : Node} {o : ℕ} {v : Values} {w : List ℕ} (i : ℕ) (x rest : List ℕ)
      → slice_get d.nodes i ≡ Some n → w ≡ x ++ rest → NodeFollows d n o v w → NodeFollows d n o v x
  front_followed {n} {o} {v} i x rest at is h =
      let P : List ℕ → Type 0 = λ l. NFollow d i o v l in follow_at d at (prefixes d i o v x rest (subst P is (follows_at n at h)))

  seq_followed : {o : ℕ} {parts : List ℕ} {v : Values} {x : List ℕ} (i : ℕ) → slice_get d.nodes i ≡ Some (Seq parts)
      → Extends parts o v x → NodeFollows d (Seq parts) o v x
  seq_followed {x = x} i at (extends_follow w rest is h) = front_followed i x rest at is (follows_seq h)
  seq_followed {x = x} i at (extends_whole w rest ts is h) = front_followed i x rest at is (follows_whole (row ts) (means_seq h))

  repeat_followed : {p o : ℕ} {count : Count} {v : Values} {x : List ℕ} (i n : ℕ)
      → slice_get d.nodes i ≡ Some (Times count p) → count_of v count ≡ Some n → ExtendsTimes n p o v x
      → NodeFollows d (Times count p) o v x
  repeat_followed {x = x} i n at counts (times_follow w rest is h) = front_followed i x rest at is (follows_times n counts h)
  repeat_followed {x = x} i n at counts (times_mean w rest ts is h) = front_followed i x rest at is (follows_whole (row ts) (means_times n counts h))

  bits_along : {n : Node} {o : ℕ} {v : Values} {x : List ℕ} → x ≡ [] → NodeFollows d n o v [] → NodeFollows d n o v x
  bits_along {n} {o} {v} same h = let P : List ℕ → Type 0 = λ l. NodeFollows d n o v l in subst P (sym same) h

  -- a key is followed, at each place with the octet position, and with it each first piece of it
  abbrev KeyFollowed : ℕ → ℕ → List ℕ → Bool → Type 0
  KeyFollowed i p x mark =
      (seen : List ℕ) (round o : ℕ) (v : Values) → p ≡ o % 8 → HaveValues v seen → Formed d.nodes seen round i → NFollow d i o v x

  parts_key_followed : {round : ℕ} {parts : List ℕ} {x : List ℕ} {mark : Bool} (o p : ℕ)
      (v : Values) {seen : List ℕ} → p ≡ o % 8 → HaveValues v seen → PartsFormed d.nodes true seen round parts
      → equation.PartsKeys most (KeysWith d most KeyFollowed) parts p x mark → Extends parts o v x
  parts_key_followed o p v oct values held (parts_none is mark) = extends_whole [] [] none (sym (ap (λ l. l ++ []) is)) (parts_end refl)
  parts_key_followed {x = x} o p v oct values (formed_next first others) (parts_cut h mark) =
      extends_follow x [] (sym (append-nil x)) (parts_here (h.1 _ _ o v oct values first))
  parts_key_followed o p v {seen = seen} oct values (formed_next first others) (parts_whole {i = i} w1 w2 rest h hs c) =
      let whole = cut_rest c in
      let m = key_meant d most o p v oct refl h.0 in
      extends_next w1 w2 whole.0 whole.1 m.1 (parts_key_followed (o + length w1) ((p + length w1) % 8)
      (with_value d.nodes i w1 v) (octet_next o p (length w1) oct) (there d.nodes i v w1 seen values) others hs)

  times_key_followed : {seen : List ℕ} {round n i : ℕ} {x : List ℕ} {mark : Bool} (o p : ℕ) (v : Values)
      → p ≡ o % 8 → HaveValues v seen → Formed d.nodes seen round i → equation.TimesKeys most (KeysWith d most KeyFollowed) n i p x mark
      → ExtendsTimes n i o v x
  times_key_followed o p v oct values held (times_none over is mark) = times_mean [] [] none (sym (ap (λ l. l ++ []) is)) (times_end over refl)
  times_key_followed {x = x} o p v oct values held (times_cut m over h mark) =
      times_follow x [] (sym (append-nil x)) (times_here (omega arith) (h.1 _ _ o v oct values held))
  times_key_followed o p v oct values held (times_whole m over w1 w2 rest h hs c) =
      let whole = cut_rest c in
      let first = key_meant d most o p v oct refl h.0 in
      turn_next w1 w2 whole.0 over whole.1 first.1 (times_key_followed (o + length w1) ((p + length w1) % 8) v
      (octet_next o p (length w1) oct) values held hs)

  node_key_followed : {seen : List ℕ} {round : ℕ} {n : Node} {x : List ℕ} {mark : Bool} (i o p : ℕ) (v : Values)
      → p ≡ o % 8 → HaveValues v seen → slice_get d.nodes i ≡ Some n → PartsFormed d.nodes (shows_earlier n)
      seen round (parts_of n) → NodeFollows d n o v [] → equation.NodeKeys d most (KeysWith d most KeyFollowed) n p x mark → NodeFollows d n o v x
  node_key_followed i o p v oct values at held nothing (keys_lits {run = run} c) =
      let whole = cut_rest c in follows_lits (spelled run o) whole.0 (spelled-octet run o p (sym (octet_again o p oct)) ∙ whole.1) (means_lits refl)
  node_key_followed i o p v oct values at held nothing (keys_spare {s = s} w one spare c) =
      let whole = cut_rest c in follows_spare w whole.0 whole.1 (means_spare one (spare_at d.reading s o p oct w one spare))
  node_key_followed i o p v oct values at held nothing (keys_field {n = n} w wide are c) =
      let whole = cut_rest c in follows_field w whole.0 whole.1 (means_field n refl wide are)
  node_key_followed i o p v oct values at held nothing (keys_pad w one spare c) =
      let whole = cut_rest c in follows_pad w whole.0 whole.1 (means_pad (omega arith) (spare_at d.reading Low o p oct w one spare))
  node_key_followed i o p v oct values at held nothing (keys_null is mark) = bits_along is nothing
  node_key_followed i o p v oct values at held nothing (keys_rest is mark) = bits_along is nothing
  node_key_followed i o p v oct values at held nothing (keys_many is mark) = bits_along is nothing
  node_key_followed i o p v oct values at held nothing (keys_trunc is mark) = bits_along is nothing
  node_key_followed i o p v oct values at held nothing (keys_window is mark) = bits_along is nothing
  node_key_followed i o p v oct values at held nothing (keys_counted_field is mark) = bits_along is nothing
  node_key_followed i o p v oct values at held nothing (keys_counted_times is mark) = bits_along is nothing
  node_key_followed i o p v oct values at held nothing (keys_seq h) = seq_followed i at (parts_key_followed o p v oct values held h)
  node_key_followed i o p v oct values at (formed_next first others) nothing (keys_times {n = n} h) =
      repeat_followed i n at refl (times_key_followed o p v oct values first h)
  node_key_followed i o p v oct values at held nothing (keys_choice {i = part} j is h) =
      follows_choice j is (h.1 _ _ o v oct values (choice_formed d.nodes j part held is))
  node_key_followed i o p v oct values at (formed_next first others) nothing (keys_named h) = follows_named (h.1 _ _ o v oct values first)

  made_followed : (i p : ℕ) (x : List ℕ) (mark : Bool)
      → NodeHas d i (λ n. equation.NodeKeys d most (KeysWith d most KeyFollowed) n p x mark) → KeyFollowed i p x mark
  made_followed i p x mark made seen round o v oct values (formed n at few head have room held) =
      let same : n ≡ made.node = cc (at, made.at) in
      let nothing = follow_at d made.at (empties d _ _ i o v (formed n at few head have room held) values) in
      follows_at made.node made.at (node_key_followed i o p v oct values made.at (held_along d.nodes same held) nothing made.has)

  pub key_followed : {seen : List ℕ} {round i : ℕ} {x : List ℕ} {mark : Bool} (o p : ℕ) (v : Values)
      → p ≡ o % 8 → HaveValues v seen → Formed d.nodes seen round i → InKeys d most i p x mark → NFollow d i o v x
  key_followed o p v oct values held h = each_key KeyFollowed made_followed h _ _ o v oct values held
